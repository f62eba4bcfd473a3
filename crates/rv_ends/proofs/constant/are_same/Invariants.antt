use Rattle.std.proofs.Common.{false, get_or, ◌≡◌, ◌<◌, ℕ}
use Rattle.rv_ends.proofs.constant.are_same.Given as goal

abbrev pub invariant-loop-i : goal.invariant-loop-i
invariant-loop-i l = (k : ℕ) → k < l.i → get_or l.a k false ≡ get_or l.b k false
