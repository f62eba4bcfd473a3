use Rattle.std.proofs.Common.{ℕ, ◌-◌, ◌^◌, ◌<◌, ◌≤◌}
use Rattle.rv_embed.proofs.lines.least_power.Given as goal

abbrev pub invariant-loop-bits : goal.invariant-loop-bits
invariant-loop-bits l = record {
  few : l.bits ≤ 16;
  none : (j : ℕ) → j < l.bits → 2 ^ j < l.words;
}

abbrev pub decreases-loop-bits : goal.decreases-loop-bits
decreases-loop-bits l = 17 - l.bits
