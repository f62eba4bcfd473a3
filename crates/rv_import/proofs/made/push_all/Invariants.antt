use Rattle.std.proofs.Common.{◌≡◌, ◌++◌, take}
use Rattle.rv_import.proofs.made.push_all.Given as goal

abbrev pub invariant-loop-op : goal.invariant-loop-op
invariant-loop-op l = l.net ≡ record l.initial.net { ops = l.initial.net.ops ++ take l.op-index l.ops }
