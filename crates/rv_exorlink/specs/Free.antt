-- Cubes that concern free entries alone.
use Rattle.std.specs.Prelude.{ℕ, ◌≡◌, Bool, true, List, length, slice_index}
use Rattle.rv_gate.specs.Word.{has, number_of}
use Rattle.rv_pla.specs.Cube.{matches}
use Rattle.rv_pla.specs.declared.cube.Cube.{Cube}
use Rattle.rv_pla.specs.Pla.{TwoLevel, entry}
use Rattle.rv_pla.specs.FreeEntries.{is_dont_care}
use Rattle.rv_exorlink.specs.Tables.{value_from}

-- some outputs of a set, which are free at each word that a cube matches, by a table of the free outputs for the inputs
-- from one on
pub record AreOutsFrom (n from : ℕ) (free : List ℕ) (cube : Cube) (set outs : ℕ) : Type 0 where
  pub among : (output : ℕ) → has outs output ≡ true → has set output ≡ true
  pub free_at : (word : List Bool) (output : ℕ) → length word ≡ n → matches cube word ≡ true → has outs output ≡ true
      → has (value_from free from word) output ≡ true

-- the outputs of a cube are free at each word that it matches
pub record IsFree (n : ℕ) (free : List ℕ) (cube : Cube) : Type 0 where
  pub free_at : (word : List Bool) (output : ℕ) → length word ≡ n → matches cube word ≡ true
      → has cube.outs output ≡ true
      → has (slice_index free (number_of word)) output ≡ true

-- what a table calls free is free in a PLA
pub record AreFree (pla : TwoLevel) (free : List ℕ) : Type 0 where
  pub free_at : (word : List Bool) (output : ℕ) → length word ≡ pla.inputs
      → has (slice_index free (number_of word)) output ≡ true
      → is_dont_care (entry pla word output) ≡ true
