use Rattle.std.proofs.Common.{◌≡◌, true, ◌||◌, eqb}
use Rattle.rv_gate.specs.Word.{has}
use Rattle.rv_gate.specs.Gate.{all_below}
use Rattle.rv_templ.specs.Images.{new_line}
use Rattle.rv_templ.proofs.matching.zero_elsewhere.Given as goal

abbrev pub invariant-loop-i : goal.invariant-loop-i
invariant-loop-i l = all_below (λ i. has l.own i || eqb (new_line l.to i) 0) l.i ≡ true
