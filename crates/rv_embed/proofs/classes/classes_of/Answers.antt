use Rattle.std.proofs.Common.{◌≡◌, ◌+◌, ◌<◌, ◌≤◌, ◌^◌, ◌++◌, ◌∷◌, [], ℕ, List, max, length, get_or, ◌∙◌, subst, arith}
use Rattle.std.specs.Prelude.{All}
use Rattle.std.proofs.lemmas.List.{get_or_default}
use Rattle.rv_embed.specs.Classes.{rank}
use Rattle.rv_embed.proofs.inside.ClassLemmas.{Counted, Counted-rank, Counted-more, Counted-all, rank_le}
use Rattle.rv_embed.proofs.classes.classes_of.Goals as goal

-- the size that is read is the rank
read_rank : (outputs sizes ranks : List ℕ) (words most n r : ℕ) → Counted outputs sizes ranks words most n → All (λ y. y < words) outputs → n < length outputs
    → r ≡ get_or sizes (get_or outputs n 0) r → r ≡ rank outputs n
read_rank outputs sizes ranks words most n r c small h e =
    let v : ℕ = get_or outputs n 0 in
    let within : v < words = small n 0 h in
    e ∙ get_or_default sizes v r 0 (omega (arith, c.len)) ∙ Counted-rank outputs sizes ranks words most n c within

rank_fits : (outputs sizes ranks : List ℕ) (words most n r : ℕ) → Counted outputs sizes ranks words most n → All (λ y. y < words) outputs → n < length outputs → length outputs ≤ 2 ^ 16
    → r ≡ get_or sizes (get_or outputs n 0) r → r + 1 < 2 ^ 32
rank_fits outputs sizes ranks words most n r c small h few e =
    let is = read_rank outputs sizes ranks words most n r c small h e in
    let le = rank_le outputs n (omega arith) in
    omega arith

pub overflow_add-rank : goal.overflow_add-rank
overflow_add-rank c =
    let fits = rank_fits c.args.outputs.now c.loop-output.sizes.items c.loop-output.ranks.items c.args.words c.loop-output.largest c.loop-output.output-index c.index-rank.result.now c.loop-output.invariant c.requires.below c.loop-output-test.true c.requires.few c.index-rank.ensures in
    omega arith

pub overflow_add-rank-in-loop-output : goal.overflow_add-rank-in-loop-output
overflow_add-rank-in-loop-output c =
    let fits = rank_fits c.args.outputs.now c.loop-output.sizes.items c.loop-output.ranks.items c.args.words c.loop-output.largest c.loop-output.output-index c.index-rank.result.now c.loop-output.invariant c.requires.below c.loop-output-test.true c.requires.few c.index-rank.ensures in
    omega arith

pub loop-output-preserved : goal.loop-output-preserved
loop-output-preserved c =
    let outputs : List ℕ = c.args.outputs.now in
    let n : ℕ = c.loop-output.output-index in
    let r : ℕ = c.index-rank.result.now in
    let is : r ≡ rank outputs n = read_rank outputs c.loop-output.sizes.items c.loop-output.ranks.items c.args.words c.loop-output.largest n r c.loop-output.invariant c.requires.below c.loop-output-test.true c.index-rank.ensures in
    let next = Counted-more outputs c.loop-output.sizes.items c.loop-output.ranks.items c.args.words c.loop-output.largest n r c.loop-output.invariant c.loop-output-test.true (c.requires.below n 0 c.loop-output-test.true) is in
    let pushed : c.push.new.self.items ≡ c.loop-output.ranks.items ++ r ∷ [] = c.in_ok-push.ensures.items in
    let greatest : c.max-largest.result ≡ max c.loop-output.largest (r + 1) = c.max-largest.ensures in
    rw (pushed, greatest) next

pub returns-clause-largest : goal.returns-clause-largest
returns-clause-largest c =
    let P : ℕ → Type 0 = Counted c.args.outputs.now c.loop-output.sizes.items c.loop-output.ranks.items c.args.words c.loop-output.largest in
    let all : c.loop-output.output-index ≡ length c.args.outputs.now = omega arith in
    (Counted-all c.args.outputs.now c.loop-output.sizes.items c.loop-output.ranks.items c.args.words c.loop-output.largest (subst P all c.loop-output.invariant)).1
