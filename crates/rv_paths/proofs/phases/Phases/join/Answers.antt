use Rattle.std.proofs.Common.{◌≡◌, ◌+◌, ◌%◌, ◌<◌, ℕ, List, Bool, length, refl, ap, ◌∙◌, arith, get_or, set}
use Rattle.rv_paths.specs.declared.terms.Term.{Term}
use Rattle.rv_paths.specs.inside.Parity.{parity, value_from}
use Rattle.rv_paths.proofs.inside.Turning.{any-default, value-join}
use Rattle.rv_paths.proofs.phases.Phases.join.Goals as goal

pub returns-then-are_same : goal.returns-then-are_same
returns-then-are_same c u =
    let terms : List Term = c.args.self.now.terms.items in
    let p : ℕ = c.args.place in
    let first : Term = c.index.result.now in
    let second : Term = c.index-then-are_same.result.now in
    let third : Term = c.index_mut.result.now in
    let within : p < length terms = omega (arith, c.if-place-len.true, c.len.ensures) in
    let there : Term = get_or terms p first in
    let one : first ≡ there = c.index.ensures in
    let two : second ≡ there = c.index-then-are_same.ensures ∙ any-default terms p second first within in
    let three : third ≡ there = c.index_mut.ensures.value ∙ any-default terms p third first within in
    let put : ℕ → Term = λ n. record { mask = third.mask; weight = n } in
    let new : Term = record { mask = there.mask; weight = (there.weight + c.args.weight) % 8 } in
    let same : put c.joined.result ≡ new =
    ap put (c.joined.ensures ∙ ap (λ (t : Term). (t.weight + c.args.weight) % 8) two)
    ∙ ap (λ (t : Term). let r : Term = record { mask = t.mask; weight = (there.weight + c.args.weight) % 8 } in r) three in
    let masks : (v : List Bool) → parity c.args.mask.now v ≡ parity there.mask.items v =
    λ v. c.if-are_same.ensures refl v ∙ ap (λ (m : List Bool). parity m v) c.deref.ensures.value ∙ ap (λ (t : Term). parity t.mask.items v) one in
    let set_to = ap (λ (t : Term). value_from 1 (set terms p t) u) same in
    let joined = value-join terms p c.args.weight c.args.mask.now u first within masks in
    omega (arith, set_to, joined)
