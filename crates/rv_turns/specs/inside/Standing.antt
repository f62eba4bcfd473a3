-- One step of joining.
use Rattle.std.specs.Prelude.{◌≡◌, ◌⊎◌, ℕ, ◌<◌, Bool, true, false, [], ◌∷◌, ◌++◌, length, slice_index, slice_index_or, slice_set, None, Some}
use Rattle.rv_gate.specs.Word.{has}
use Rattle.rv_net.specs.declared.op.Op.{Op}
use Rattle.rv_turns.specs.declared.waiting.Waiting.{Waiting}
use Rattle.rv_turns.specs.declared.joining.Joining.{Joining}
use Rattle.rv_turns.specs.declared.joining.Partner.{Partner}
use Rattle.rv_turns.specs.inside.Pauli.{passed, sign_on, stops, summed, turn}
use Rattle.rv_turns.specs.inside.Slots.{pauli_at, slots_of}

pub record Begins (n : ℕ) (j : Joining) : Type 0 where
  pub lines : length j.waiting.flips.items ≡ n
  pub made : j.made.items ≡ []
  pub live : (i : ℕ) → has j.waiting.live i ≡ false

-- a slot that stays in use
pub record Follows (op : Op) (old new : Waiting) (i : ℕ) : Type 0 where
  pub was : has old.live i ≡ true
  pub free : stops op (pauli_at (slots_of old) i) ≡ false
  pub pauli : pauli_at (slots_of new) i ≡ passed op (pauli_at (slots_of old) i)
  pub place : slice_index new.places.items i ≡ slice_index old.places.items i

-- a slot that was opened for the operation at a place
pub record Opened (op : Op) (at : ℕ) (new : Waiting) (i : ℕ) : Type 0 where
  pub back : Bool
  pub line : ℕ
  pub is : op ≡ turn back line
  pub pauli : pauli_at (slots_of new) i ≡ sign_on (length new.flips.items) line
  pub place : slice_index new.places.items i ≡ at

-- the operation is kept
pub record Keeps (op : Op) (old new : Joining) : Type 0 where
  pub lines : length new.waiting.flips.items ≡ length old.waiting.flips.items
  pub made : new.made.items ≡ old.made.items ++ Some op ∷ []
  pub slots : (i : ℕ) → has new.waiting.live i ≡ true
      → Follows op old.waiting new.waiting i ⊎ Opened op (length old.made.items) new.waiting i

-- a turn that joins one on the line
pub record IsPartner (j : Joining) (line : ℕ) (p : Partner) : Type 0 where
  pub within : p.slot < 64
  pub live : has j.waiting.live p.slot ≡ true
  pub pauli : pauli_at (slots_of j.waiting) p.slot ≡ sign_on (length j.waiting.flips.items) line
  pub place : slice_index j.waiting.places.items p.slot ≡ p.place
  pub early : p.place < length j.made.items
  pub was_on : ℕ
  pub at : slice_index_or j.made.items p.place None ≡ Some (turn p.back was_on)

-- a turn that waits is joined with the operation
pub record Joins (op : Op) (old new : Joining) : Type 0 where
  pub lines : length new.waiting.flips.items ≡ length old.waiting.flips.items
  pub line : ℕ
  pub back : Bool
  pub is : op ≡ turn back line
  pub partner : Partner
  pub joins : IsPartner old line partner
  pub made : new.made.items ≡ slice_set old.made.items partner.place None ++ summed partner.back back line ∷ []
  pub slots : (i : ℕ) → has new.waiting.live i ≡ true → Follows op old.waiting new.waiting i

abbrev pub Steps : Op → Joining → Joining → Type 0
Steps op old new = Keeps op old new ⊎ Joins op old new
