use Rattle.std.proofs.Common.{ℕ, ◌<◌, ◌/◌}
use Rattle.rv_links.specs.inside.Chains.{gate_at}
use Rattle.rv_links.specs.inside.Blocks.{Held}
use Rattle.rv_links.proofs.blocks.cover.Given as goal

abbrev pub invariant-loop-id : goal.invariant-loop-id
invariant-loop-id l = (x : ℕ) → x < l.id → Held l.blocks.items (x / l.size) (gate_at l.gates x)
