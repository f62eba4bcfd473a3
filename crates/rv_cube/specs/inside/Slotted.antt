-- Slots as a value, and what finds them.
use Rattle.std.specs.Prelude.{ℕ, ◌<◌, ◌≤◌, ◌≡◌, ◌⊎◌, true, false, if◌then◌else◌, List, [], ◌∷◌, length, Option, None, Some, MatchOption, All, nat_lt, slice_index_or}
use Rattle.rv_gate.specs.Word.{has}
use Rattle.rv_pla.specs.Cube.{Symbol, One, Zero, Dash, symbol, IsCube}
use Rattle.rv_pla.specs.declared.cube.Cube.{Cube}
use Rattle.rv_pla.specs.declared.cube.TheConstants.{MOST_INPUTS, MOST_OUTPUTS}
use Rattle.rv_cube.specs.Distance.{differing, differs, with_symbol}
use Rattle.rv_cube.specs.Reduction.{at}
use Rattle.rv_cube.specs.inside.Slots.{full, key_of, IsOther}

pub record Slotted : Type 0 where
  pub inputs : ℕ
  pub cubes : List Cube

-- the full slots are what is found by their keys
pub record Noted (find : ℕ × ℕ → Option ℕ) (slots : List Cube) : Type 0 where
  pub sound : (key : ℕ × ℕ) (i : ℕ) → find key ≡ Some i → (full slots i ≡ true) × (key_of (at slots i) ≡ key)
  pub complete : (i : ℕ) → full slots i ≡ true → find (key_of (at slots i)) ≡ Some i

-- the cube asks only for inputs of the set
abbrev pub AsksWithin : ℕ → Cube → Type 0
AsksWithin asked cube = (input : ℕ) → has cube.care input ≡ true → has asked input ≡ true

-- what every `Slots` keeps
pub record IsSlotted (find : ℕ × ℕ → Option ℕ) (asked n : ℕ) (slots : List Cube) : Type 0 where
  pub some_inputs : 1 ≤ n
  pub few_inputs : n ≤ MOST_INPUTS
  pub valid : All (IsCube n MOST_OUTPUTS) slots
  pub noted : Noted find slots
  pub asks : All (AsksWithin asked) slots

-- one of the slots is empty, and the other is full and has the inputs of the cube
abbrev pub IsReplaced : List Cube → ℕ → ℕ → Cube → Type 0
IsReplaced slots a b cube =
    ((full slots a ≡ true) × (key_of (at slots a) ≡ key_of cube) × (full slots b ≡ false))
    ⊎ ((full slots a ≡ false) × (full slots b ≡ true) × (key_of (at slots b) ≡ key_of cube))

-- ---- the least slot

-- the least number of which P holds, or none
abbrev pub IsLeast : (ℕ → Type 0) → Option ℕ → Type 0
IsLeast P o = MatchOption o ((c : ℕ) → P c → ⊥) (λ c. P c × ((d : ℕ) → P d → c ≤ d))

-- the only number of which P holds, or none
abbrev pub IsOnly : (ℕ → Type 0) → Option ℕ → Type 0
IsOnly P o = MatchOption o ((c : ℕ) → P c → ⊥) (λ c. P c × ((d : ℕ) → P d → d ≡ c))

abbrev pub least_of : Option ℕ → Option ℕ → Option ℕ
least_of None o = o
least_of (Some a) None = Some a
least_of (Some a) (Some b) = if nat_lt b a then Some b else Some a

-- the least of `best` and of what is P
abbrev pub IsLesser : (Option ℕ → Type 0) → Option ℕ → Option ℕ → Type 0
IsLesser P best result = (o : Option ℕ) × (result ≡ least_of best o) × P o

-- such a slot, with the inputs of the cube
abbrev pub IsTwin : List Cube → ℕ → ℕ → Cube → ℕ → Type 0
IsTwin slots a b cube c = IsOther slots a b c × (key_of (at slots c) ≡ key_of cube)

-- and with its outputs as well
abbrev pub IsEqual : List Cube → ℕ → ℕ → Cube → ℕ → Type 0
IsEqual slots a b cube c = IsTwin slots a b cube c × ((at slots c).outs ≡ cube.outs)

-- such a slot, with the outputs of the cube, that differs from it in input p alone
abbrev pub IsNeighbour : ℕ → List Cube → ℕ → ℕ → Cube → ℕ → ℕ → Type 0
IsNeighbour n slots a b cube p c =
    IsOther slots a b c × ((at slots c).outs ≡ cube.outs) × (differing n cube (at slots c) ≡ p ∷ [])

-- the inputs of the cube, or its outputs and its inputs but for one below p
abbrev pub IsPartnerBelow : ℕ → List Cube → ℕ → ℕ → Cube → ℕ → ℕ → Type 0
IsPartnerBelow n slots a b cube p c = IsTwin slots a b cube c ⊎ ((q : ℕ) × (q < p) × IsNeighbour n slots a b cube q c)

-- another symbol
abbrev pub turn : Symbol → Symbol
turn One = Zero
turn Zero = Dash
turn Dash = One

-- ---- lists of slots

abbrev pub Lists : List ℕ → ℕ → Type 0
Lists found b = (k : ℕ) × (k < length found) × (slice_index_or found k 0 ≡ b)

-- the numbers that were listed are, and each full slot of which P holds; and no empty slot comes in
pub record Gains (slots : List Cube) (P : ℕ → Type 0) (old new : List ℕ) : Type 0 where
  pub stays : (b : ℕ) → Lists old b → Lists new b
  pub holds : All (λ b. full slots b ≡ true) old → All (λ b. full slots b ≡ true) new
  pub gets : (b : ℕ) → full slots b ≡ true → P b → Lists new b

-- the slot has the inputs of the cube
abbrev pub IsAlike : List Cube → Cube → ℕ → Type 0
IsAlike slots cube b = key_of (at slots b) ≡ key_of cube

-- the inputs differ in q alone
abbrev pub IsBeside : List Cube → Cube → ℕ → ℕ → Type 0
IsBeside slots cube q b =
    (differs cube (at slots b) q ≡ true) × (key_of (at slots b) ≡ key_of (with_symbol cube q (symbol (at slots b) q)))

-- the inputs differ in p and q alone
abbrev pub IsTwoApart : List Cube → Cube → ℕ → ℕ → ℕ → Type 0
IsTwoApart slots cube p q b =
    (differs cube (at slots b) p ≡ true) × IsBeside slots (with_symbol cube p (symbol (at slots b) p)) q b

-- in q and an input below p
abbrev pub IsTwoApartFrom : List Cube → Cube → ℕ → ℕ → ℕ → Type 0
IsTwoApartFrom slots cube q p b = (i : ℕ) × (i < p) × IsTwoApart slots cube i q b

-- in an input below q and one below that
abbrev pub IsTwoApartBelow : List Cube → Cube → ℕ → ℕ → Type 0
IsTwoApartBelow slots cube q b = (i : ℕ) × (i < q) × IsTwoApartFrom slots cube i i b
