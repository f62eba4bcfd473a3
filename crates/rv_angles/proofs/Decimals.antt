-- Decimals that are added to a number.
use Rattle.std.proofs.Common.{◌≡◌, ℕ, ◌+◌, ◌*◌, min, refl, add-one}
use Rattle.rv_angles.specs.Decimal.{padded}
use Rattle.rv_angles.specs.declared.decimal.TheConstants.{MOST_UNITS}

pub padded_none : (value : ℕ) → value ≡ padded 0 value
unfolding padded
padded_none value = refl

pub padded_more : (places value : ℕ) → padded (places + 1) value ≡ min (padded places value * 10) MOST_UNITS
unfolding padded
padded_more places value = rw add-one refl
