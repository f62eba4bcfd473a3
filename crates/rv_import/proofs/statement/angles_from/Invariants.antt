use Rattle.std.proofs.Common.{◌≡◌, drop}
use Rattle.rv_import.specs.Angles.{no_angles}
use Rattle.rv_import.specs.Statement.{angles_from, bytes_of}
use Rattle.rv_import.proofs.statement.angles_from.Given as goal

abbrev pub invariant-loop-index : goal.invariant-loop-index
invariant-loop-index l = angles_from no_angles (bytes_of l.tokens) ≡ angles_from l.angles (drop l.index (bytes_of l.tokens))
