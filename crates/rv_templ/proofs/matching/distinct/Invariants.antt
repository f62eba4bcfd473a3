use Rattle.std.proofs.Common.{◌≡◌, true, not, ◌&&◌, eqb}
use Rattle.rv_gate.specs.Word.{has}
use Rattle.rv_gate.specs.Gate.{all_below}
use Rattle.rv_templ.specs.Images.{new_line}
use Rattle.rv_templ.proofs.matching.distinct.Given as goal

abbrev pub invariant-loop-i : goal.invariant-loop-i
invariant-loop-i l = all_below (λ i. all_below (λ j. not (has l.own i && has l.own j && eqb (new_line l.to i) (new_line l.to j))) i) l.i ≡ true
