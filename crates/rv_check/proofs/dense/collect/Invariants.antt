use Rattle.std.proofs.Common.{◌≡◌, ◌++◌, drop}
use Rattle.rv_check.specs.inside.Dense.{members_from}
use Rattle.rv_check.proofs.dense.collect.Given as goal

abbrev pub invariant-loop-number : goal.invariant-loop-number
invariant-loop-number l = l.members.items ++ members_from l.lines l.number (drop l.number l.values) ≡ members_from l.lines 0 l.values
