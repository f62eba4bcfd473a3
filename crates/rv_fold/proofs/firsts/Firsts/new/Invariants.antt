use Rattle.std.proofs.Common.{◌≡◌, ℕ, length, get_or, None}
use Rattle.rv_fold.proofs.firsts.Firsts.new.Given as goal

abbrev pub invariant-loop-slot : goal.invariant-loop-slot
invariant-loop-slot l = ((slot : ℕ) → get_or l.slots.items slot None ≡ None) × (length l.slots.items ≡ l._slot)
