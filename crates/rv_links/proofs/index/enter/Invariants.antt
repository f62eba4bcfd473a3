use Rattle.std.proofs.Common.{◌≡◌, ◌≢◌, ℕ, ◌<◌}
use Rattle.rv_links.specs.inside.Index.{asked}
use Rattle.rv_links.proofs.index.enter.Given as goal

abbrev pub invariant-loop-i : goal.invariant-loop-i
invariant-loop-i l = (l.slots ≡ l.initial.slots) × ((k : ℕ) → k < l.i → asked l.initial.slots l.fn.gate k ≢ 0)
