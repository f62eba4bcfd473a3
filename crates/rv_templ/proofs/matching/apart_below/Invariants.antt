use Rattle.std.proofs.Common.{◌≡◌, true, not, ◌&&◌, eqb}
use Rattle.rv_gate.specs.Word.{has}
use Rattle.rv_gate.specs.Gate.{all_below}
use Rattle.rv_templ.specs.Images.{new_line}
use Rattle.rv_templ.proofs.matching.apart_below.Given as goal

abbrev pub invariant-loop-j : goal.invariant-loop-j
invariant-loop-j l = all_below (λ j. not (has l.own l.i && has l.own j && eqb (new_line l.to l.i) (new_line l.to j))) l.j ≡ true
