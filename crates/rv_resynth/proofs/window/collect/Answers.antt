use Rattle.std.proofs.Common.{◌≡◌, ◌<◌, take, length, sym, subst, arith}
use Rattle.std.proofs.lemmas.List.{take_more}
use Rattle.rv_gate.specs.declared.gate.Shape.{Shape}
use Rattle.rv_gate.specs.Gate.{FitsIn}
use Rattle.rv_resynth.proofs.window.collect.Goals as goal

pub loop-place-preserved : goal.loop-place-preserved
loop-place-preserved c n are =
    let gates = c.args.gates.now in
    let place = c.loop-place.place in
    let lt : place < length gates = omega arith in
    let fits = subst (λ (g : Shape). FitsIn g n) (sym c.index-gates-place.is)
    (are.fitting place c.index-gates-place.result lt) in
    let split = c.in_ok-add.ensures n (take place gates) fits (c.loop-place.invariant n are) in
    rw (take_more gates place c.index-gates-place.result lt, ← c.index-gates-place.is) split

pub returns-clause-splits : goal.returns-clause-splits
returns-clause-splits c n are =
    let e : c.min.result ≡ c.loop-place.place = omega arith in
    rw e (c.loop-place.invariant n are)
