-- What the lines of a text give.
use Rattle.std.specs.Prelude.{Bool, List, [], ◌∷◌, if◌then◌else◌, Option, None}
use Rattle.std.specs.Option.{option_or}

-- what a line gives by the words after the first, where that passes
abbrev pub given_by : {W A : Type 0} → (W → Bool) → (List W → Option A) → List W → Option A
given_by is_name value_of [] = None
given_by is_name value_of (word ∷ words) = if is_name word then value_of words else None

-- what the first line gives that gives something
abbrev pub first_given : {L A : Type 0} → (L → Option A) → List L → Option A
first_given value_on [] = None
first_given value_on (line ∷ lines) = option_or (value_on line) (first_given value_on lines)
