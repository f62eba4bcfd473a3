use Rattle.std.proofs.Common.{◌≡◌, ◌≤◌}
use Rattle.rv_angles.specs.Decimal.{padded}
use Rattle.rv_angles.specs.declared.decimal.TheConstants.{MOST_UNITS}
use Rattle.rv_angles.proofs.decimal.padded.Given as goal

abbrev pub invariant-loop-place : goal.invariant-loop-place
invariant-loop-place l = (l.units ≡ padded l.place l.value) × (l.units ≤ MOST_UNITS)
