-- Decimal numbers, in units of 10^-12: decimals after the twelfth are left out, and what is greater counts as the
-- greatest.
use Rattle.std.specs.Prelude.{ℕ, zero, suc, ◌+◌, ◌*◌, ◌-◌, min, Bool, true, false, ◌&&◌, ◌==◌, List, nat_le, if◌then◌else◌, slice_index}
use Rattle.std.specs.Char.{is_ascii_digit}
use Rattle.std.specs.List.{fold}
use Rattle.rv_angles.specs.declared.decimal.TheConstants.{MOST_UNITS}
use Rattle.rv_angles.specs.declared.decimal.Decimal.{Decimal}

abbrev pub is_number : List ℕ → Bool
is_number token = is_ascii_digit (slice_index token 0)

-- a digit or the dot after what was read
abbrev pub digit_step : Decimal → ℕ → Decimal
digit_step d c =
    if c == 46 then record d { has_dot = true }
    else (if d.has_dot && nat_le 12 d.places then d
    else record {
      value = min (d.value * 10 + (c - 48)) MOST_UNITS;
      places = d.places + (if d.has_dot then 1 else 0);
      has_dot = d.has_dot;
    })

abbrev pub decimal_of : List ℕ → Decimal
decimal_of token = fold digit_step (record { value = 0; places = 0; has_dot = false }) token

-- with so many more decimals
unfoldable pub padded : ℕ → ℕ → ℕ
padded zero value = value
padded (suc places) value = min (padded places value * 10) MOST_UNITS

abbrev pub units_of : List ℕ → ℕ
units_of token = padded (12 - (decimal_of token).places) (decimal_of token).value
