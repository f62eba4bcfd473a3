use Rattle.std.proofs.Common.{◌≡◌, ℕ, ◌<◌, ◌≤◌, ◌-◌, true}
use Rattle.rv_gate.specs.Commuting.{rule}
use Rattle.rv_links.specs.Order.{lists}
use Rattle.rv_links.specs.inside.Chains.{gate_at}
use Rattle.rv_links.proofs.blocks.Blocks.first_in_doubt.Given as goal

abbrev pub invariant-loop-at : goal.invariant-loop-at
invariant-loop-at l = record {
  late : l.fn.from ≤ l.at;
  free : (x : ℕ) → lists x l.order.ids ≡ true → l.fn.from ≤ x → x < l.at → rule l.gate (gate_at l.gates x) ≡ true;
}

abbrev pub decreases-loop-at : goal.decreases-loop-at
decreases-loop-at l = l.room - l.at
