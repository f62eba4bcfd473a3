use Rattle.std.proofs.Common.{◌≡◌, ◌++◌, map, take, drop}
use Rattle.rv_check.specs.inside.Kept.{carried}
use Rattle.rv_check.proofs.member.carry_all.Given as goal

abbrev pub invariant-loop-member : goal.invariant-loop-member
invariant-loop-member l = l.members ≡ map (carried l.op) (take l.member-index l.initial.members) ++ drop l.member-index l.initial.members
