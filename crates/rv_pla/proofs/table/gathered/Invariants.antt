use Rattle.std.proofs.Common.{take}
use Rattle.rv_pla.specs.Pla.{is_esop}
use Rattle.rv_pla.specs.inside.Table.{part, IsGathered}
use Rattle.rv_pla.proofs.table.gathered.Given as goal

abbrev pub invariant-loop-term : goal.invariant-loop-term
invariant-loop-term l = IsGathered (is_esop l.kind) (part l.kind l.second) l.inputs (take l.term-index l.terms) l.table.items
