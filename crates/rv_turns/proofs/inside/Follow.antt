-- Slots that stay in use.
use Rattle.std.proofs.Common.{◌≡◌, ℕ, true, length, refl, ap, ◌∙◌}
use Rattle.rv_gate.specs.Word.{has}
use Rattle.rv_net.specs.declared.op.Op.{Op}
use Rattle.rv_net.specs.Op.{OpFitsIn}
use Rattle.rv_turns.specs.declared.waiting.Waiting.{Waiting}
use Rattle.std.specs.Prelude.{slice_index}
use Rattle.rv_turns.specs.inside.Slots.{Slots, pauli_at, passed_slots, slots_of}
use Rattle.rv_turns.specs.inside.Standing.{Follows}
use Rattle.rv_turns.proofs.inside.SlotLaws.{passed_bits, live_bits, length-passed_flips}

-- the slots past an operation, of which some may have been closed
module _ (op : Op) (old new : Waiting) (live : ℕ) (fits : OpFitsIn op (length old.flips.items)) (is : slots_of new ≡ record (passed_slots op (slots_of old)) { live = live }) where
  pub lines_stay : length new.flips.items ≡ length old.flips.items
  lines_stay = ap (λ (s : Slots). length s.flips) is ∙ length-passed_flips op (slots_of old)

  pub follows : (places : (i : ℕ) → slice_index new.places.items i ≡ slice_index old.places.items i) (i : ℕ) → has (passed_slots op (slots_of old)).live i ≡ true → Follows op old new i
  follows places i h =
      let two = live_bits (length old.flips.items) (slots_of old) i refl old.lines op fits h in
      record {
        was = two.0;
        free = two.1;
        pauli = ap (λ (s : Slots). pauli_at s i) is ∙ passed_bits (length old.flips.items) (slots_of old) i refl old.lines op fits;
        place = places i;
      }
