-- Where the members of a vector that grows are looked up.
use Rattle.std.specs.Prelude.{◌≡◌, ℕ, ◌<◌, ◌≤◌, ◌^◌, List, length, slice_index, slice_index_or, All}
use Rattle.rv_gate.specs.Word.{ones_of}
use Rattle.rv_check.specs.declared.checking.TheConstants.{MOST_CHECKED_LINES}
use Rattle.rv_check.specs.declared.member.Member.{Member}

-- the place of each member stands at the number of its lines with the bit 1
abbrev pub ArePlaced : List ℕ → List Member → Type 0
ArePlaced places members =
    (i : ℕ) (d : Member) → i < length members → slice_index places (ones_of (slice_index_or members i d).word) ≡ i

-- The words are all on so many lines, for whose words there is room.
pub record AreOn (room lines : ℕ) (members : List Member) : Type 0 where
  pub room_is : room ≡ 2 ^ lines
  pub few : lines ≤ MOST_CHECKED_LINES
  pub each : All (λ m. length m.word ≡ lines) members
