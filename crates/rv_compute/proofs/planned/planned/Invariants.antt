use Rattle.std.specs.Prelude.{IfSome}
use Rattle.rv_compute.specs.Computed.{IsComputedWithin}
use Rattle.rv_compute.specs.inside.Held.{line_count}
use Rattle.rv_compute.proofs.planned.planned.Given as goal

abbrev pub invariant-loop-ranked : goal.invariant-loop-ranked
invariant-loop-ranked l = IfSome l.best (IsComputedWithin l.fn.logic (line_count l.fn.logic l.fn.extra))
