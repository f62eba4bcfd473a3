use Rattle.std.proofs.Common.{◌≡◌, true, eqb}
use Rattle.rv_templ.specs.Gates.{gate_in}
use Rattle.rv_gate.specs.Gate.{touched, all_below}
use Rattle.rv_templ.specs.Images.{turned, others, difference}
use Rattle.rv_templ.proofs.matching.within.Given as goal

abbrev pub invariant-loop-j : goal.invariant-loop-j
invariant-loop-j l = all_below (λ j. eqb (difference (touched (gate_in (others l.count (turned l.r l.template) l.to l.care l.want) j)) l.set) 0) l.j ≡ true
