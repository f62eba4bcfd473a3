-- The text of an angle: which multiple of pi/4 its tokens write.
use Rattle.std.specs.Prelude.{ℕ, ◌+◌, ◌*◌, ◌-◌, ◌/◌, ◌%◌, ◌≤◌, Bool, true, false, not, ◌||◌, ◌==◌, nat_le, List, codes, bytes_eq, if◌then◌else◌, Option, Some, None, option_map}
use Rattle.std.specs.List.{fold}
use Rattle.rv_angles.specs.Decimal.{is_number, units_of}
use Rattle.rv_angles.specs.declared.decimal.TheConstants.{MOST_UNITS, ONE}
use Rattle.rv_angles.specs.declared.angle.TheConstants.{EIGHTH, MOST_DIVISOR, NEAR}
use Rattle.rv_angles.specs.declared.angle.Angle.{Angle}
use Rattle.rv_angles.specs.declared.angle.Next.{Next}
use Rattle.rv_angles.specs.declared.angle.Next.TheVariants.{Factor, Divisor, Operator, Never}

abbrev pub begun : Angle
begun = record { is_negative = false; has_pi = false; has_number = false; units = ONE; divisor = 1; next = Factor }

abbrev pub refused : Angle → Angle
refused a = record a { next = Never }

abbrev pub with_pi : Angle → Angle
with_pi a = if a.has_pi then refused a else record a { has_pi = true; next = Operator }

abbrev pub with_number : Angle → List ℕ → Angle
with_number a token =
    if a.has_number || not (is_number token) then refused a
    else record a { has_number = true; units = units_of token; next = Operator }

-- a sign, `pi` or a number
abbrev pub with_factor : Angle → List ℕ → Angle
with_factor a token =
    if bytes_eq token (codes "-") then record a { is_negative = not a.is_negative }
    else (if bytes_eq token (codes "pi") then with_pi a
    else with_number a token)

-- a whole number that is not 0, once
abbrev pub with_divisor : Angle → List ℕ → Angle
with_divisor a token =
    if not (a.divisor == 1) || not (is_number token) || not (units_of token % ONE == 0) || units_of token / ONE == 0
    then refused a
    else record a { divisor = units_of token / ONE; next = Operator }

abbrev pub with_operator : Angle → List ℕ → Angle
with_operator a token =
    if bytes_eq token (codes "*") then record a { next = Factor }
    else (if bytes_eq token (codes "/") then record a { next = Divisor }
    else refused a)

abbrev pub step_at : Next → Angle → List ℕ → Angle
step_at Factor a token = with_factor a token
step_at Divisor a token = with_divisor a token
step_at Operator a token = with_operator a token
step_at Never a token = a

-- one token more
abbrev pub angle_step : Angle → List ℕ → Angle
angle_step a token = step_at a.next a token

-- units over a divisor, times pi: how many times pi/4
abbrev pub eighths_of_pi : ℕ → ℕ → Option ℕ
eighths_of_pi units divisor =
    if 4 * units % (divisor * ONE) == 0 then Some (4 * units / (divisor * ONE)) else None

-- units alone, in radians
abbrev pub eighths_of_radians : ℕ → Option ℕ
eighths_of_radians units =
    let eighths = (units * 1000 + EIGHTH / 2) / EIGHTH in
    if nat_le (units * 1000 - eighths * EIGHTH + (eighths * EIGHTH - units * 1000)) NEAR then Some eighths else None

abbrev pub is_operator : Next → Bool
is_operator Factor = false
is_operator Divisor = false
is_operator Operator = true
is_operator Never = false

abbrev pub eighths_of : Angle → Option ℕ
eighths_of a =
    if not (is_operator a.next) then None
    else (if a.has_pi then eighths_of_pi a.units a.divisor
    else (if not (a.divisor == 1) then None
    else eighths_of_radians a.units))

-- with its sign, modulo 4 pi
abbrev pub turned : Angle → Option ℕ
turned a = option_map (λ size. if a.is_negative then (16 - size % 16) % 16 else size % 16) (eighths_of a)

-- how many times pi/4 the tokens of an angle write, modulo 4 pi, if it is such a multiple
abbrev pub angle_of : List (List ℕ) → Option ℕ
angle_of tokens = turned (fold angle_step begun tokens)

-- what is read so far stays within bounds
pub record IsRead (a : Angle) : Type 0 where
  pub units : a.units ≤ MOST_UNITS
  pub some : 1 ≤ a.divisor
  pub few : a.divisor ≤ MOST_DIVISOR
