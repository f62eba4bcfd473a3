use Rattle.std.proofs.Common.{◌≡◌, ◌≤◌, take}
use Rattle.std.specs.List.{fold}
use Rattle.rv_angles.specs.Decimal.{digit_step}
use Rattle.rv_angles.specs.declared.decimal.TheConstants.{MOST_UNITS}
use Rattle.rv_angles.proofs.decimal.decimal_of.Given as goal

abbrev pub invariant-loop-byte : goal.invariant-loop-byte
invariant-loop-byte l = (l.decimal ≡ fold digit_step l.initial.decimal (take l.byte-index l.token)) × (l.decimal.value ≤ MOST_UNITS) × (l.decimal.places ≤ 12)
