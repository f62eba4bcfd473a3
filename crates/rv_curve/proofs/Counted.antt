-- A circuit without a network of ladders.
use Rattle.std.proofs.Common.{◌≡◌, ℕ, ◌<◌, ◌≤◌, None, refl, arith}
use Rattle.std.proofs.lemmas.Bool.{le-ltb, lt-ltb}
use Rattle.rv_gate.specs.Circuit.{Cascade}
use Rattle.rv_gate.specs.declared.word.TheConstants.{MOST_LINES}
use Rattle.rv_mct.specs.Widened.{lines_with_helpers}
use Rattle.rv_mct.specs.declared.aux.Aux.TheVariants.{Clean}
use Rattle.rv_net.specs.declared.net.TheConstants.{MOST_OPS}
use Rattle.rv_ladder.specs.Counts.{operations, relative_count}
use Rattle.rv_curve.specs.Row.{network_counts}

pub too_wide : (c : Cascade) (n : ℕ) → (lines_with_helpers Clean c ≡ n) × (MOST_LINES < n) → network_counts c ≡ None
too_wide c n h = rw (lt-ltb MOST_LINES (lines_with_helpers Clean c) (omega (arith, h.0, h.1))) refl

pub too_long : (c : Cascade) (n : ℕ)
    → (lines_with_helpers Clean c ≤ MOST_LINES) × (relative_count operations Clean c ≡ n) × (MOST_OPS < n) → network_counts c ≡ None
too_long c n h =
    rw (le-ltb MOST_LINES (lines_with_helpers Clean c) h.0, lt-ltb MOST_OPS (relative_count operations Clean c) (omega (arith, h.1, h.2))) refl
