-- What contracts see of the vector that the code keeps.
use Rattle.std.specs.Prelude.{◌≡◌, ◌^◌, ℕ, length}
use Rattle.rv_check.specs.declared.following.KeptVector.{KeptVector}
use Rattle.rv_check.specs.inside.Kept.{Kept}

-- the vector
abbrev pub kept_of : KeptVector → Kept
kept_of v = record { members = v.members.items; exponent = v.exponent }

-- how many words there is room for
abbrev pub room_of : KeptVector → ℕ
room_of v = length v.places.items

-- for how many words there are values
abbrev pub width_of : KeptVector → ℕ
width_of v = length v.values.items

-- there is room for the words of n bits
abbrev pub HasRoom : ℕ → KeptVector → Type 0
HasRoom n v = (room_of v ≡ 2 ^ n) × (width_of v ≡ 2 ^ n)
