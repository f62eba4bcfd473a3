use Rattle.std.proofs.Common.{◌-◌}
use Rattle.rv_pla.proofs.inside.Blocks.{IsJoining}
use Rattle.rv_pla.proofs.join.join_blocks.Given as goal

abbrev pub invariant-loop-first : goal.invariant-loop-first
invariant-loop-first l = IsJoining l.odd l.initial.table l.table l.block l.size l.care l.want l.first

abbrev pub decreases-loop-first : goal.decreases-loop-first
decreases-loop-first l = l.count - l.first
