-- Integers that stay far from the ends of their type.
use Rattle.std.specs.Prelude.{ℕ, ℤ, ◌≤◌, unsigned_abs}
use Rattle.rv_net.specs.Cyclotomic.{Cyclotomic}

-- an integer of at most this absolute value
abbrev pub IsSmall : ℕ → ℤ → Type 0
IsSmall most z = unsigned_abs z ≤ most

-- all four integers of a cyclotomic one
pub record AreSmall (most : ℕ) (u : Cyclotomic) : Type 0 where
  pub a : IsSmall most u.a
  pub b : IsSmall most u.b
  pub c : IsSmall most u.c
  pub d : IsSmall most u.d
