use Rattle.std.proofs.Common.{◌≤◌, Bool, length}
use Rattle.rv_net.specs.declared.op.Op.{Op}
use Rattle.rv_pairs.specs.inside.Chained.{Chain}
use Rattle.rv_pairs.proofs.chains.Chains.past_gaps.Given as goal

abbrev pub invariant-loop-link : goal.invariant-loop-link
invariant-loop-link l = record {
  within : l.link ≤ length l.self.nodes.items;
  chain : (belongs : Op → Bool) → Chain l.cells l.self.nodes.items belongs l.fn.link (length l.cells) → Chain l.cells l.self.nodes.items belongs l.link (length l.cells);
}

abbrev pub decreases-loop-link : goal.decreases-loop-link
decreases-loop-link l = l.link
