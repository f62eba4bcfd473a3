-- Pauli products side by side: bit i of a line's words is what product i has on the line.
use Rattle.std.specs.Prelude.{◌≡◌, ◌≢◌, ℕ, ◌<◌, List, map, length, slice_index, slice_set, bit_and, bit_or, bit_xor, false}
use Rattle.rv_gate.specs.Word.{has}
use Rattle.rv_net.specs.declared.op.Op.{Op}
use Rattle.rv_net.specs.declared.op.Op.TheVariants.{X, Y, Z, H, S, Sdg, T, Tdg, Cx, Cz, Ccx, Swap, Cswap}
use Rattle.rv_turns.specs.declared.waiting.Waiting.{Waiting}
use Rattle.rv_turns.specs.inside.Pauli.{Pauli}
use Rattle.rv_turns.specs.inside.Without.{without}

pub record Slots : Type 0 where
  pub flips : List ℕ
  pub signs : List ℕ
  pub quarters : ℕ
  pub halves : ℕ
  pub live : ℕ

abbrev pub slots_of : Waiting → Slots
slots_of w =
    record { flips = w.flips.items; signs = w.signs.items; quarters = w.quarters; halves = w.halves; live = w.live }

-- the product of a slot
abbrev pub pauli_at : Slots → ℕ → Pauli
pauli_at s i = record {
  quarter = has s.quarters i;
  half = has s.halves i;
  flips = map (λ word. has word i) s.flips;
  signs = map (λ word. has word i) s.signs;
}

-- all products past an operation; those that it stops are live no more
abbrev pub passed_slots : Op → Slots → Slots
passed_slots (X q) s = record s { halves = bit_xor s.halves (slice_index s.signs q) }
passed_slots (Y q) s = record s { halves = bit_xor s.halves (bit_xor (slice_index s.flips q) (slice_index s.signs q)) }
passed_slots (Z q) s = record s { halves = bit_xor s.halves (slice_index s.flips q) }
passed_slots (H q) s = record s {
  halves = bit_xor s.halves (bit_and (slice_index s.flips q) (slice_index s.signs q));
  flips = slice_set s.flips q (slice_index s.signs q);
  signs = slice_set s.signs q (slice_index s.flips q);
}
passed_slots (S q) s = record s {
  quarters = bit_xor s.quarters (slice_index s.flips q);
  halves = bit_xor s.halves (bit_and s.quarters (slice_index s.flips q));
  signs = slice_set s.signs q (bit_xor (slice_index s.signs q) (slice_index s.flips q));
}
passed_slots (Sdg q) s = record s {
  quarters = bit_xor s.quarters (slice_index s.flips q);
  halves = bit_xor s.halves (bit_xor (slice_index s.flips q) (bit_and s.quarters (slice_index s.flips q)));
  signs = slice_set s.signs q (bit_xor (slice_index s.signs q) (slice_index s.flips q));
}
passed_slots (Cx a b) s = record s {
  flips = slice_set s.flips b (bit_xor (slice_index s.flips b) (slice_index s.flips a));
  signs = slice_set s.signs a (bit_xor (slice_index s.signs a) (slice_index s.signs b));
}
passed_slots (Cz a b) s = record s {
  halves = bit_xor s.halves (bit_and (slice_index s.flips a) (slice_index s.flips b));
  signs =
      slice_set (slice_set s.signs a (bit_xor (slice_index s.signs a) (slice_index s.flips b))) b
      (bit_xor (slice_index s.signs b) (slice_index s.flips a));
}
passed_slots (Swap a b) s = record s {
  flips = slice_set (slice_set s.flips a (slice_index s.flips b)) b (slice_index s.flips a);
  signs = slice_set (slice_set s.signs a (slice_index s.signs b)) b (slice_index s.signs a);
}
passed_slots (T q) s = record s { live = without s.live (slice_index s.flips q) }
passed_slots (Tdg q) s = record s { live = without s.live (slice_index s.flips q) }
passed_slots (Ccx a b c) s = record s {
  live = without s.live (bit_or (bit_or (slice_index s.flips a) (slice_index s.flips b)) (slice_index s.signs c));
}
passed_slots (Cswap c a b) s = record s {
  live =
      without s.live (bit_or (bit_or (slice_index s.flips c) (bit_xor (slice_index s.flips a) (slice_index s.flips b)))
      (bit_xor (slice_index s.signs a) (slice_index s.signs b)));
}

-- the product of the slot is Z on the line, or the identity there
pub record IsAlone (s : Slots) (line slot : ℕ) : Type 0 where
  pub quarter : has s.quarters slot ≡ false
  pub half : has s.halves slot ≡ false
  pub flips : (l : ℕ) → l < length s.flips → has (slice_index s.flips l) slot ≡ false
  pub signs : (l : ℕ) → l < length s.signs → l ≢ line → has (slice_index s.signs l) slot ≡ false
