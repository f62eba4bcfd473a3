-- Slots in which the numbers of gates are found by a hash of the gate.
use Rattle.std.specs.Prelude.{◌≡◌, ℕ, ◌+◌, ◌*◌, ◌/◌, ◌%◌, ◌^◌, ◌<◌, ◌≤◌, List, length, slice_index_or, bit_and, bit_xor, Option, Some, None, IsTrue}
use Rattle.rv_gate.specs.declared.gate.Shape.{Shape}
use Rattle.rv_gate.specs.Gate.{controls, wanted, targets}
use Rattle.rv_links.specs.Order.{lists, Rising}
use Rattle.rv_links.specs.declared.sought.Sought.{Sought}
use Rattle.rv_links.specs.declared.sought.Sought.TheVariants.{Nowhere, At}
use Rattle.rv_links.specs.declared.index.TheConstants.{MOST_ASKED}
use Rattle.rv_links.specs.inside.Chains.{gate_at}

unfoldable pub mixed : ℕ → ℕ → ℕ → ℕ
mixed care want lines =
    let sum =
    bit_xor (bit_xor ((care * 11400714819323198485) % 2 ^ 64) ((want * 14029467366897019727) % 2 ^ 64))
    ((lines * 1609587929392839161) % 2 ^ 64) in
    (bit_xor sum (sum / 2 ^ 32) * 15474767899986725843) % 2 ^ 64

abbrev pub hash_of : Shape → ℕ
hash_of g = mixed (controls g) (wanted g) (targets g)

-- the place of the slot that is asked in turn i
unfoldable pub slot_of : ℕ → ℕ → ℕ → ℕ
slot_of hash i room = bit_and (hash / 2 ^ i) 4294967295 % room

-- what the slot has that is asked for a gate in turn i
abbrev pub asked : List ℕ → Shape → ℕ → ℕ
asked slots gate i = slice_index_or slots (slot_of (hash_of gate) i (length slots)) 1

-- where a slot is empty that is asked for the gate, the number has one that is asked before
abbrev pub Kept : List ℕ → Shape → ℕ → Type 0
Kept slots gate id =
    (i : ℕ) → i < MOST_ASKED → asked slots gate i ≡ 0 → (j : ℕ) × (j < i) × (asked slots gate j ≡ id + 1)

-- each number is kept for its gate
abbrev pub IsIndexed : List ℕ → List Shape → List ℕ → Type 0
IsIndexed slots gates ids = (id : ℕ) → IsTrue (lists id ids) → Kept slots (gate_at gates id) id

-- what holds of the slots of a linked cascade, and of the order of its numbers
pub record IsSearchable (slots : List ℕ) (gates : List Shape) (ids : List ℕ) : Type 0 where
  pub some : 0 < length slots
  pub indexed : IsIndexed slots gates ids
  pub rising : Rising ids

-- the number that was found is none after x
abbrev pub AtMost : Option ℕ → ℕ → Type 0
AtMost None x = ⊥
AtMost (Some y) x = y ≤ x

abbrev pub told : Option ℕ → Sought
told None = Nowhere
told (Some id) = At id

-- the number stands in the order, has the gate and is none before a number
pub record IsHere (gates : List Shape) (ids : List ℕ) (gate : Shape) (from id : ℕ) : Type 0 where
  pub on : IsTrue (lists id ids)
  pub is : gate_at gates id ≡ gate
  pub late : from ≤ id
