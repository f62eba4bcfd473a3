use Rattle.std.proofs.Common.{◌≡◌, ◌≤◌, ℕ, take}
use Rattle.rv_check.specs.inside.Kept.{NotLarge, kept_after}
use Rattle.rv_check.specs.inside.Units.{units_of}
use Rattle.rv_check.proofs.units.follow_units.Given as goal

abbrev pub invariant-loop-place : goal.invariant-loop-place
invariant-loop-place l = record {
  kept : units_of l.units ≡ kept_after (take l.place l.ops) l.fn.word;
  small : (p : ℕ) → p ≤ l.place → NotLarge l.ops l.fn.word p;
}
