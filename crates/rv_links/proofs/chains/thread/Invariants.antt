use Rattle.std.proofs.Common.{◌≡◌}
use Rattle.std.specs.List.{range_with_len}
use Rattle.rv_links.proofs.chains.thread.Given as goal

abbrev pub invariant-loop-id : goal.invariant-loop-id
invariant-loop-id l = (l.order.room ≡ l.count) × (l.order.ids ≡ range_with_len 0 l.id)
