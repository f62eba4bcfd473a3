use Rattle.std.proofs.Common.{◌-◌, ◌≤◌, ℕ, take, length}
use Rattle.rv_check.specs.inside.Kept.{NotLarge}
use Rattle.rv_check.specs.inside.Stands.{Stands}
use Rattle.rv_check.specs.inside.View.{HasRoom, kept_of}
use Rattle.rv_check.proofs.following.KeptVector.follow.Given as goal

abbrev pub decreases-loop-place : goal.decreases-loop-place
decreases-loop-place l = length l.ops - l.place

abbrev pub invariant-loop-place : goal.invariant-loop-place
invariant-loop-place l = record {
  stands : Stands (take l.place l.ops) l.fn.word (kept_of l.self);
  room : HasRoom (length l.fn.word) l.self;
  within : l.place ≤ length l.ops;
  small : (p : ℕ) → p ≤ l.place → NotLarge l.ops l.fn.word p;
}
