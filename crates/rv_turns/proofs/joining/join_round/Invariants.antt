use Rattle.std.proofs.Common.{take}
use Rattle.rv_turns.proofs.inside.Standing.{Stands}
use Rattle.rv_turns.proofs.joining.join_round.Given as goal

abbrev pub invariant-loop-op : goal.invariant-loop-op
invariant-loop-op l = Stands l.net.lines (take l.op-index l.net.ops) l.joining
