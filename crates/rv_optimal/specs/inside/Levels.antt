-- What so many gates make of a list of numbers.
use Rattle.std.specs.Prelude.{ℕ, suc, ◌≡◌, ◌≤◌, ◌+◌, ◌*◌, ◌^◌, ◌↔◌, List, [], ◌∷◌, map, length}
use Rattle.std.specs.List.{Contains}
use Rattle.std.specs.List.Sorted.{IsNonDecreasing}
use Rattle.rv_gate.specs.Gate.{run_on_number}
use Rattle.rv_gate.specs.declared.gate.Shape.{Shape}
use Rattle.rv_gate.specs.declared.gate.Shape.TheVariants.{Flip, Swap, Peres}
use Rattle.rv_optimal.specs.inside.Packed.{packed, composed, move_of}
use Rattle.rv_optimal.specs.inside.Alike.{least}
use Rattle.rv_optimal.specs.Library.{AreIn, IsIn}
use Rattle.rv_optimal.specs.declared.library.Library.{Library}
use Rattle.rv_optimal.specs.declared.alike.Alike.{Alike}

-- what gates make of some numbers, packed
abbrev pub key_after : ℕ → List ℕ → List Shape → ℕ
key_after n numbers gates = packed (map (run_on_number gates n) numbers)

-- what gates make of a key
unfoldable pub after : ℕ → List Shape → ℕ → ℕ
after n [] key = key
after n (g ∷ gates) key = after n gates (composed (2 ^ n) (move_of n g) key)

-- the key is that of so many numbers, on which gates were run
pub record IsWhole (n key : ℕ) : Type 0 where
  pub numbers : List ℕ
  pub gates : List Shape
  pub all : length numbers ≡ 2 ^ n
  pub is : key ≡ key_after n numbers gates

abbrev pub AreWhole : ℕ → List ℕ → Type 0
AreWhole n keys = (key : ℕ) → Contains keys key → IsWhole n key

-- for each list of at most k gates, the least key that is like its own is there
abbrev pub HasAll : Library → ℕ → List ℕ → Alike → ℕ → List ℕ → Type 0
HasAll library n numbers alike k keys =
    (gates : List Shape) → AreIn library n gates → length gates ≤ k
    → Contains keys (least alike (key_after n numbers gates))

-- each key is the least of those that are like it
abbrev pub AreLeast : Alike → List ℕ → Type 0
AreLeast alike keys = (key : ℕ) → Contains keys key → least alike key ≡ key

-- the keys that at most k gates make of some numbers, the least one for those that are alike, in rising order
pub record IsLevel (library : Library) (n : ℕ) (numbers : List ℕ) (alike : Alike) (k : ℕ) (keys : List ℕ) : Type 0 where
  pub has : HasAll library n numbers alike k keys
  pub whole : AreWhole n keys
  pub least_ones : AreLeast alike keys
  pub rising : IsNonDecreasing keys

-- the least key that is like one of the second ones is never among the first ones
abbrev pub AreApart : Alike → List ℕ → List ℕ → Type 0
AreApart alike a b = (key : ℕ) → Contains a (least alike key) → Contains b key → ⊥

-- the same numbers are in both
abbrev pub HaveSame : List ℕ → List ℕ → Type 0
HaveSame a b = (key : ℕ) → Contains a key ↔ Contains b key

-- a key, and what one gate more makes of it, the least one for those that are alike
abbrev pub grown_from : Alike → ℕ → List ℕ → ℕ → List ℕ
grown_from alike count moves key = key ∷ map (λ move. least alike (composed count move key)) moves

-- the moves of all gates of a library are there
abbrev pub HasMoves : Library → ℕ → List ℕ → Type 0
HasMoves library n moves = (g : Shape) → IsIn library n g → Contains moves (move_of n g)

-- the gates are of a library, and the moves are those of the gates and of all that the library has
pub record AreMoves (library : Library) (n : ℕ) (gates : List Shape) (moves : List ℕ) : Type 0 where
  pub allowed : AreIn library n gates
  pub are : moves ≡ map (move_of n) gates
  pub all : HasMoves library n moves

-- the number by which a flip on four lines is counted
abbrev pub code_of : Shape → ℕ
code_of (Flip care want target) = care + 16 * want + 256 * target
code_of (Swap care want a b) = 0
code_of (Peres a b c) = 0

-- the gates of a library that are counted by numbers below a code are there
abbrev pub HasBelow : Library → ℕ → ℕ → List Shape → Type 0
HasBelow library n code gates = (g : Shape) → IsIn library n g → suc (code_of g) ≤ code → Contains gates g
