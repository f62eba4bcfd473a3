-- What a ladder up to a power of w does to a word.
use Rattle.std.specs.Prelude.{◌≡◌, ◌<◌, ◌≢◌, ℕ, ◌+◌, Bool, true, false, ◌&&◌, List, [], ◌∷◌, length, if◌then◌else◌, slice_set}
use Rattle.rv_gate.specs.Gate.{xor}
use Rattle.rv_gate.specs.Word.{bit_of}
use Rattle.rv_gate.specs.Every.{Every}
use Rattle.rv_mct.specs.inside.LadderLines.{Distinct, In}

-- the controls hold
abbrev pub met : ℕ → ℕ → List ℕ → List Bool → Bool
met a b [] x = bit_of x a && bit_of x b
met a b (c ∷ more) x = met a b more x && bit_of x c

-- each helper is flipped under the controls that are not above it, and t under all
abbrev pub moved : ℕ → ℕ → List ℕ → List ℕ → ℕ → List Bool → List Bool
moved a b [] helpers t x = slice_set x t (xor (bit_of x a && bit_of x b) (bit_of x t))
moved a b (c ∷ more) [] t x = x
moved a b (c ∷ more) (h ∷ helpers) t x =
    slice_set (moved a b more helpers h x) t (xor (met a b more x && bit_of x c) (bit_of x t))

-- the power of w that a rung brings, where its inner part flips
abbrev pub level : Bool → Bool → Bool → ℕ
level flips c t = if flips then (if t then 4 else 0) + (if c then 2 else 0) else 0

-- the power of w that the ladder brings
abbrev pub turned : ℕ → ℕ → List ℕ → List ℕ → ℕ → List Bool → ℕ
turned a b [] helpers t x = level (bit_of x a) (bit_of x b) (bit_of x t)
turned a b (c ∷ more) [] t x = 0
turned a b (c ∷ more) (h ∷ helpers) t x = turned a b more helpers h x + level (met a b more x) (bit_of x c) (bit_of x t)

abbrev pub IsOn : ℕ → (ℕ → Bool) → ℕ → Type 0
IsOn n on c = (c < n) × (on c ≡ true)

abbrev pub IsOff : ℕ → (ℕ → Bool) → ℕ → Type 0
IsOff n on x = (x < n) × (on x ≡ false)

-- `on` is true of the controls, and false of the target and the helpers, which are as many as the controls beyond two
pub record Divides (n : ℕ) (on : ℕ → Bool) (a b : ℕ) (more helpers : List ℕ) (t : ℕ) : Type 0 where
  pub first : IsOn n on a
  pub second : IsOn n on b
  pub others : Every (IsOn n on) more
  pub spots : Every (IsOff n on) (t ∷ helpers)
  pub distinct : Distinct (t ∷ helpers)
  pub enough : length more ≡ length helpers

-- it is no target and no helper
abbrev pub Outside : ℕ → List ℕ → Type 0
Outside x spots = (y : ℕ) → In y spots → y ≢ x
