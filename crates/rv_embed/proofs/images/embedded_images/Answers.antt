use Rattle.std.proofs.Common.{◌≡◌, ◌<◌, ◌^◌, ℕ, List, length, get_or, sym, ◌∙◌, ap, subst, arith}
use Rattle.std.proofs.lemmas.List.{get_or_default}
use Rattle.std.proofs.lemmas.Nat.{one_shl}
use Rattle.rv_embed.specs.Embedding.{completed}
use Rattle.rv_embed.proofs.CompleteLemmas.{IsApart, IsComplete, completed-is}
use Rattle.rv_embed.proofs.ImageLemmas.{apart_inputs, apart_outputs}
use Rattle.rv_embed.proofs.images.embedded_images.Goals as goal

-- the numbers of a list are below the count
below : (xs ys : List ℕ) (count size : ℕ) → xs ≡ ys → size ≡ count → IsApart ys count → (k d : ℕ) → k < length xs → get_or xs k d < size
below xs ys count size e s a k d h =
    let k_in : k < length ys = omega (arith, ap length e) in
    let b = a.below k k_in in
    let read : get_or xs k d ≡ get_or ys k 0 = ap (λ l. get_or l k d) e ∙ get_or_default ys k d 0 k_in in
    omega arith

-- a list that was completed is complete
whole : (xs ys given : List ℕ) (count size : ℕ) → xs ≡ completed size ys → ys ≡ given → size ≡ count → IsApart given count → IsComplete xs size
whole xs ys given count size is e s a =
    let P : ℕ → Type 0 = λ n. IsApart given n in
    let Q : List ℕ → Type 0 = λ l. IsComplete l size in
    subst Q (sym (is ∙ ap (completed size) e)) (completed-is size given (subst P (sym s) a))

pub completed-requires-clause-below : goal.completed-requires-clause-below
completed-requires-clause-below c =
    below c.in_ok-first.first.items _ (2 ^ c.args.lines) _ c.in_ok-first.ensures (one_shl c.args.lines 64 (omega arith)) (apart_inputs c.args.lines c.args.inputs c.requires.inputs_in)

pub completed-requires-2-clause-below : goal.completed-requires-2-clause-below
completed-requires-2-clause-below c =
    below c.in_ok-first-2.first.items _ (2 ^ c.args.lines) _ c.in_ok-first-2.ensures (one_shl c.args.lines 64 (omega arith))
    (apart_outputs c.args.lines c.args.outs c.args.outputs.now c.requires.outputs_in c.requires.below)

pub images_between-requires-clause-from_count : goal.images_between-requires-clause-from_count
images_between-requires-clause-from_count c =
    ap length c.deref.ensures.value
    ∙ (whole c.in_ok-from.from.items c.in_ok-first.first.items _ (2 ^ c.args.lines) _ c.in_ok-from.ensures c.in_ok-first.ensures (one_shl c.args.lines 64 (omega arith)) (apart_inputs c.args.lines c.args.inputs c.requires.inputs_in)).len

pub images_between-requires-clause-from_once : goal.images_between-requires-clause-from_once
images_between-requires-clause-from_once c =
    rw c.deref.ensures.value
    (whole c.in_ok-from.from.items c.in_ok-first.first.items _ (2 ^ c.args.lines) _ c.in_ok-from.ensures c.in_ok-first.ensures (one_shl c.args.lines 64 (omega arith)) (apart_inputs c.args.lines c.args.inputs c.requires.inputs_in)).once

pub images_between-requires-clause-to_count : goal.images_between-requires-clause-to_count
images_between-requires-clause-to_count c =
    ap length c.deref-2.ensures.value
    ∙ (whole c.in_ok-to.to.items c.in_ok-first-2.first.items _ (2 ^ c.args.lines) _ c.in_ok-to.ensures c.in_ok-first-2.ensures (one_shl c.args.lines 64 (omega arith)) (apart_outputs c.args.lines c.args.outs c.args.outputs.now c.requires.outputs_in c.requires.below)).len
