-- What the answers of a check mean.
use Rattle.std.specs.Prelude.{◌≡◌, ◌≢◌, ◌≤◌, ◌<◌, ◌^◌, ◌⊎◌, ◌↔◌, ℕ, true, List, Bool, length, map, take, Result, Ok, Err}
use Rattle.std.specs.List.{list_any}
use Rattle.rv_gate.specs.Circuit.{Cascade}
use Rattle.rv_gate.specs.Gate.{run}
use Rattle.rv_gate.specs.Word.{word_of}
use Rattle.rv_gate.specs.declared.gate.Shape.{Shape}
use Rattle.rv_net.specs.Amplitude.{amplitude, count_h}
use Rattle.rv_net.specs.Cyclotomic.{Cyclotomic, power, root2, times}
use Rattle.rv_net.specs.Denotes.{Denotes, amplitude_of_map}
use Rattle.rv_net.specs.Op.{Network}
use Rattle.rv_check.specs.Reduced.{is_large, reduced_vector, vector}
use Rattle.rv_check.specs.declared.checking.TheConstants.{MOST_CHECKED_LINES}
use Rattle.rv_check.specs.declared.checking.Verdict.{Verdict}
use Rattle.rv_check.specs.declared.checking.Verdict.TheVariants.{Same, Lines, Differs}
use Rattle.rv_check.specs.declared.checking.CheckFault.{CheckFault}
use Rattle.rv_check.specs.declared.checking.CheckFault.TheVariants.{CircuitLines, NetLines, TooLarge}

-- A vector over so many roots of two, in lowest terms: no divisor of it leaves fewer roots, so those that are left are
-- its least denominator exponent, after Giles and Selinger.
pub record IsInLowestTerms (roots : ℕ) (whole members : List Cyclotomic) : Type 0 where
  pub divisions : ℕ
  pub whole_is : whole ≡ map (times (power root2 divisions)) members
  pub most : divisions ≤ roots
  pub greatest : (divisions ≡ roots) ⊎ ((further : List Cyclotomic) → members ≢ map (times root2) further)

-- The reduced vectors of a network are its vectors in lowest terms: from each word, after so many of the first
-- operations.
abbrev pub AreInLowestTerms : Network → Type 0
AreInLowestTerms net =
    (number place : ℕ)
    → IsInLowestTerms (count_h (take place net.ops)) (vector (take place net.ops) (word_of net.lines number))
    (reduced_vector (take place net.ops) (word_of net.lines number))

-- from this word, some amplitude isn't that of the circuit
abbrev pub Breaks : List Shape → Network → ℕ → Type 0
Breaks gates net number =
    (y : List Bool) × (length y ≡ net.lines)
    × (amplitude net.ops (word_of net.lines number) y
    ≢ amplitude_of_map net.ops (run gates (word_of net.lines number)) y)

-- the least such word
pub record IsLeastBreak (gates : List Shape) (net : Network) (number : ℕ) : Type 0 where
  pub word : number < 2 ^ net.lines
  pub breaks : Breaks gates net number
  pub least : (less : ℕ) → less < number → ¬ Breaks gates net less

-- from the word with this number, so many of the first operations leave a coefficient of the reduced vector beyond the
-- limit
abbrev pub IsLarge : Network → ℕ → ℕ → Type 0
IsLarge net number place = list_any is_large (reduced_vector (take place net.ops) (word_of net.lines number)) ≡ true

-- the least such word, and for it the least such place
pub record IsLeastLarge (net : Network) (number place : ℕ) : Type 0 where
  pub word : number < 2 ^ net.lines
  pub within : place ≤ length net.ops
  pub large : IsLarge net number place
  pub least_word : (less p : ℕ) → less < number → p ≤ length net.ops → ¬ IsLarge net less p
  pub least_place : (less : ℕ) → less < place → ¬ IsLarge net number less

-- there is no such word
abbrev pub NoneLarge : Network → Type 0
NoneLarge net = (number place : ℕ) → number < 2 ^ net.lines → place ≤ length net.ops → ¬ IsLarge net number place

-- the circuit and the network have the same number of lines, few enough to be compared
abbrev pub OnSameLines : Cascade → Network → Type 0
OnSameLines c net = (length c.names ≡ net.lines) × (net.lines ≤ MOST_CHECKED_LINES)

-- Each answer is given exactly where this holds.
pub record IsExact (c : Cascade) (net : Network) (answer : Result Verdict CheckFault) : Type 0 where
  pub circuit_lines : (n : ℕ) → (answer ≡ Err (CircuitLines n)) ↔ ((length c.names ≡ n) × (MOST_CHECKED_LINES < n))
  pub net_lines :
      (n : ℕ)
      → (answer ≡ Err (NetLines n)) ↔
      ((length c.names ≤ MOST_CHECKED_LINES) × (net.lines ≡ n) × (MOST_CHECKED_LINES < n))
  pub lines :
      (n m : ℕ) → (answer ≡ Ok (Lines n m))
      ↔ ((length c.names ≡ n) × (net.lines ≡ m) × (n ≤ MOST_CHECKED_LINES) × (m ≤ MOST_CHECKED_LINES) × (n ≢ m))
  pub too_large : (word place : ℕ)
      → (answer ≡ Err (TooLarge word place)) ↔ (OnSameLines c net × IsLeastLarge net word place)
  pub same : (answer ≡ Ok Same) ↔ (OnSameLines c net × NoneLarge net × Denotes net.lines net.ops (run c.gates))
  pub differs : (word : ℕ)
      → (answer ≡ Ok (Differs word)) ↔ (OnSameLines c net × NoneLarge net × IsLeastBreak c.gates net word)
