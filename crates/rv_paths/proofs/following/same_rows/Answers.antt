use Rattle.std.proofs.Common.{◌∙◌, ◌∷◌, ◌<◌, ◌≤◌, ℕ, List, true, length, refl, sym, ap, arith}
use Rattle.rv_net.proofs.Step.{Word}
use Rattle.rv_paths.specs.declared.rows.Row.{Row}
use Rattle.rv_paths.specs.inside.Parity.{parity}
use Rattle.rv_paths.proofs.inside.Followed.{same_word-more, same_words}
use Rattle.rv_paths.proofs.following.same_rows.Goals as goal

pub loop-line-preserved : goal.loop-line-preserved
loop-line-preserved c u =
    let one : List Row = c.args.first.now in
    let two : List Row = c.args.second.now in
    let k : ℕ = c.loop-line.line in
    let within : k < length one = omega (arith, c.loop-line-test.true) in
    let below : k < length two = omega (arith, within, c.if-first-second.false) in
    same_word-more one two u k c.index-first-line.result c.index-second-line.result within below
    (ap (λ (m : Word). parity m (true ∷ u)) (sym c.deref.ensures.value) ∙ c.if-not-are_same.ensures refl (true ∷ u) ∙ ap (λ (m : Word). parity m (true ∷ u)) c.deref-in-loop-line.ensures.value)
    (c.loop-line.invariant u)

pub returns : goal.returns
returns c holds u =
    let one : List Row = c.args.first.now in
    let two : List Row = c.args.second.now in
    let k : ℕ = c.loop-line.line in
    let all : length one ≤ k = omega (arith, c.loop-line-test.false) in
    let both : length two ≤ k = omega (arith, all, c.if-first-second.false) in
    same_words one two u k all both (c.loop-line.invariant u)
