-- How far it is known that a gate commutes with those after it.
use Rattle.std.specs.Prelude.{ℕ, ◌<◌, Option, Some, None}

-- a number is before another, or that one is missing
abbrev pub IsBefore : ℕ → Option ℕ → Type 0
IsBefore x None = Unit {0}
IsBefore x (Some b) = x < b
