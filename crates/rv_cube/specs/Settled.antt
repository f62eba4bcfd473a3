-- When nothing is left to reduce, said of any two cubes of a list and not by the order of the steps.
use Rattle.std.specs.Prelude.{◌≡◌, ◌≢◌, ◌⊎◌, ℕ, ◌<◌, Bool, true, List, length}
use Rattle.rv_gate.specs.Word.{has}
use Rattle.rv_pla.specs.Cube.{matches, symbol}
use Rattle.rv_pla.specs.declared.cube.Cube.{Cube}
use Rattle.rv_pla.specs.FreeEntries.{is_dont_care}
use Rattle.rv_pla.specs.Pla.{TwoLevel, entry}
use Rattle.rv_cube.specs.Distance.{with_third}
use Rattle.rv_cube.specs.Reduction.{at}

-- two cubes have one input part: the same symbol at each of n inputs
abbrev pub HaveOneInputPart : ℕ → Cube → Cube → Type 0
HaveOneInputPart n x y = (i : ℕ) → i < n → symbol x i ≡ symbol y i

-- they differ in this one of n inputs alone
pub record DifferInOne (n : ℕ) (x y : Cube) (p : ℕ) : Type 0 where
  pub input : p < n
  pub differ : symbol x p ≢ symbol y p
  pub others : (i : ℕ) → i < n → i ≢ p → symbol x i ≡ symbol y i

-- in these two alone
pub record DifferInTwo (n : ℕ) (x y : Cube) (p q : ℕ) : Type 0 where
  pub first : p < n
  pub second : q < n
  pub two : p ≢ q
  pub differ_first : symbol x p ≢ symbol y p
  pub differ_second : symbol x q ≢ symbol y q
  pub others : (i : ℕ) → i < n → i ≢ p → i ≢ q → symbol x i ≡ symbol y i

-- two cubes with the same outputs that differ in one input
pub record AreAdjacent (n : ℕ) (x y : Cube) : Type 0 where
  pub outputs : x.outs ≡ y.outs
  pub input : ℕ
  pub one : DifferInOne n x y input

-- one cube may stand for both
abbrev pub Merge : ℕ → Cube → Cube → Type 0
Merge n x y = HaveOneInputPart n x y ⊎ AreAdjacent n x y

-- two places of a list
pub record ArePlaces (cubes : List Cube) (a b : ℕ) : Type 0 where
  pub first : a < length cubes
  pub second : b < length cubes
  pub two : a ≢ b

-- Two cubes with the same outputs that differ in two inputs, at either of which one of them takes the third symbol: so
-- an exorlink exchanges them for two others. It leads on where one of these merges with a third cube.
pub record LeadsOn (n : ℕ) (cubes : List Cube) (a b p q c : ℕ) : Type 0 where
  pub places : ArePlaces cubes a b
  pub outputs : (at cubes a).outs ≡ (at cubes b).outs
  pub inputs : DifferInTwo n (at cubes a) (at cubes b) p q
  pub third : c < length cubes
  pub not_first : c ≢ a
  pub not_second : c ≢ b
  pub merge : Merge n (with_third (at cubes a) (at cubes b) p) (at cubes c)

-- No two cubes have one input part, no two merge, and no exorlink leads on.
pub record IsIrreducible (n : ℕ) (cubes : List Cube) : Type 0 where
  pub apart : (a b : ℕ) → ArePlaces cubes a b → HaveOneInputPart n (at cubes a) (at cubes b) → ⊥
  pub unmerged : (a b : ℕ) → ArePlaces cubes a b → AreAdjacent n (at cubes a) (at cubes b) → ⊥
  pub unlinked : (a b p q c : ℕ) → LeadsOn n cubes a b p q c → ⊥

-- ---- for a PLA

-- a cube carries an output whose entry is free at each input word that the cube matches
pub record IsIdle (pla : TwoLevel) (cube : Cube) (output : ℕ) : Type 0 where
  pub output_in : output < pla.outputs
  pub carried : has cube.outs output ≡ true
  pub free : (word : List Bool) → length word ≡ pla.inputs → matches cube word ≡ true
      → is_dont_care (entry pla word output) ≡ true

-- and no cube carries one that only concerns free entries
pub record IsIrreducibleFor (pla : TwoLevel) (cubes : List Cube) : Type 0 where
  pub irreducible : IsIrreducible pla.inputs cubes
  pub needed : (a output : ℕ) → a < length cubes → IsIdle pla (at cubes a) output → ⊥
