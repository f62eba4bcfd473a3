use Rattle.std.proofs.Common.{◌≡◌, take}
use Rattle.rv_turns.specs.inside.Pauli.{kept}
use Rattle.rv_turns.proofs.joining.write.Given as goal

abbrev pub invariant-loop-op : goal.invariant-loop-op
invariant-loop-op l = l.net ≡ record { lines = l.lines; ops = kept (take l.op-index l.made) }
