use Rattle.std.proofs.Common.{◌≡◌, length}
use Rattle.rv_exorlink.proofs.inside.FreeCubes.{AreFreeBelow}
use Rattle.rv_exorlink.proofs.free.Free.of.Given as goal

abbrev pub invariant-loop-number : goal.invariant-loop-number
invariant-loop-number l = record { count : length l.table.items ≡ l.number; so_far : AreFreeBelow l.pla l.table.items }
