-- The angles of a gate: the tokens between its parentheses, with commas between the angles.
use Rattle.std.specs.Prelude.{ℕ, ◌==◌, Bool, true, false, List, [], ◌∷◌, ◌++◌, length, codes, bytes_eq, if◌then◌else◌, Option, Some, None}
use Rattle.std.specs.List.{fold}
use Rattle.rv_angles.specs.Angle.{angle_step, begun, turned}
use Rattle.rv_angles.specs.declared.angle.Angle.{Angle}

-- angles that a comma ended, in multiples of pi/4, and the one that is being read
pub record AnglesSoFar : Type 0 where
  pub ended : List ℕ
  pub current : Angle
  -- one of those that ended is no multiple of pi/4, or there are more than three
  pub is_wrong : Bool

abbrev pub no_angles : AnglesSoFar
no_angles = record { ended = []; current = begun; is_wrong = false }

abbrev pub wrong : AnglesSoFar → AnglesSoFar
wrong a = record a { is_wrong = true }

abbrev pub with_ended : AnglesSoFar → Option ℕ → AnglesSoFar
with_ended a None = wrong a
with_ended a (Some angle) =
    if length a.ended == 3 then wrong a
    else record { ended = a.ended ++ angle ∷ []; current = begun; is_wrong = a.is_wrong }

-- the current angle is at its end
abbrev pub next_angle : AnglesSoFar → AnglesSoFar
next_angle a = with_ended a (turned a.current)

-- one token more
abbrev pub angles_step : AnglesSoFar → List ℕ → AnglesSoFar
angles_step a token =
    if bytes_eq token (codes ",") then next_angle a else record a { current = angle_step a.current token }

abbrev pub right_angles : AnglesSoFar → Option (List ℕ)
right_angles a = if a.is_wrong then None else Some a.ended

-- one to three angles, each a multiple of pi/4
abbrev pub angles_of : List (List ℕ) → Option (List ℕ)
angles_of tokens = right_angles (next_angle (fold angles_step no_angles tokens))
