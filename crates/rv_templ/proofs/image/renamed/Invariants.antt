use Rattle.std.proofs.Common.{◌≡◌, ◌^◌}
use Rattle.std.specs.Prelude.{if◌then◌else◌}
use Rattle.rv_gate.specs.Word.{has}
use Rattle.rv_templ.specs.Folds.{union_below}
use Rattle.rv_templ.specs.Images.{new_line}
use Rattle.rv_templ.proofs.image.renamed.Given as goal

abbrev pub invariant-loop-i : goal.invariant-loop-i
invariant-loop-i l = l.lines ≡ union_below (λ i. if has l.set i then 2 ^ new_line l.to i else 0) l.i
