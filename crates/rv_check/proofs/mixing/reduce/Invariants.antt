use Rattle.std.proofs.Common.{◌≡◌, ◌^◌, All}
use Rattle.rv_check.specs.inside.Kept.{reduced_kept}
use Rattle.rv_check.specs.inside.Small.{AreSmall}
use Rattle.rv_check.proofs.mixing.reduce.Given as goal

abbrev pub decreases-loop-exponent : goal.decreases-loop-exponent
decreases-loop-exponent l = l.exponent

abbrev pub invariant-loop-exponent : goal.invariant-loop-exponent
invariant-loop-exponent l = record {
  small : All (λ m. AreSmall (2 ^ 120) m.value) l.members;
  kept : reduced_kept l.exponent l.members ≡ reduced_kept l.initial.exponent l.initial.members;
}
