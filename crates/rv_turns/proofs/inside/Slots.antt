-- Slots that are looked for, opened and closed.
use Rattle.std.proofs.Common.{◌≡◌, ◌≢◌, ℕ, ◌+◌, ◌^◌, ◌<◌, true, false, List, length, get_or, set, replicate, sym, ap, ap₂, ◌∙◌, arith, inl, inr, subst, length-set, get_or-set_same, get_or-set_other, ne_eqb}
use Rattle.std.specs.Prelude.{bit_or}
use Rattle.std.proofs.lemmas.Bool.{and_parts, not-true, or_parts, cases_eq}
use Rattle.std.proofs.lemmas.List.{length-map, length-replicate, get_or-replicate, ext_get_or, map-set, set-get_or}
use Rattle.rv_gate.specs.Word.{has}
use Rattle.rv_gate.proofs.LineSets.{has-or, has-line, has_self, with_same, with_other}
use Rattle.rv_turns.specs.inside.Pauli.{sign_on}
use Rattle.rv_turns.specs.inside.Slots.{Slots, IsAlone, pauli_at}
use Rattle.rv_turns.specs.inside.Without.{without}
use Rattle.rv_turns.proofs.inside.SlotLaws.{bits, bit-bits, has-without, same_pauli}
use Rattle.rv_turns.proofs.inside.Loops.{AreAlone}

-- ---- a slot whose product is Z on a line

without_parts : (a b i : ℕ) → has (without a b) i ≡ true → (has a i ≡ true) × (has b i ≡ false)
without_parts a b i h = grind (arith, and_parts, has-without, not-true)

pub alone_first : (s : Slots) (line slots : ℕ) → AreAlone s line 0 slots (without slots (bit_or s.quarters s.halves))
alone_first s line slots = record {
  among = λ i h. (without_parts slots (bit_or s.quarters s.halves) i h).0;
  quarter = λ i h. (or_parts (has s.quarters i) (has s.halves i) (sym (has-or s.quarters s.halves i) ∙ (without_parts slots (bit_or s.quarters s.halves) i h).1)).0;
  half = λ i h. (or_parts (has s.quarters i) (has s.halves i) (sym (has-or s.quarters s.halves i) ∙ (without_parts slots (bit_or s.quarters s.halves) i h).1)).1;
  flips = λ i h k lt. absurd (omega arith);
  signs = λ i h k lt ne. absurd (omega arith);
}

-- one line more: its flips, and its signs if it is another line
more : (s : Slots) (line k slots left next : ℕ) → AreAlone s line k slots left → ((i : ℕ) → has next i ≡ true → (has left i ≡ true) × (has (get_or s.flips k 0) i ≡ false) × (k ≢ line → has (get_or s.signs k 0) i ≡ false)) → AreAlone s line (k + 1) slots next
more s line k slots left next o h = record {
  among = λ i e. o.among i (h i e).0;
  quarter = λ i e. o.quarter i (h i e).0;
  half = λ i e. o.half i (h i e).0;
  flips = λ i e l lt. elim (cases_eq l k) [
    | inl same ↦ ap (λ m. has (get_or s.flips m 0) i) same ∙ (h i e).1
    | inr other ↦ o.flips i (h i e).0 l (omega arith)
  ];
  signs = λ i e l lt ne. elim (cases_eq l k) [
    | inl same ↦ ap (λ m. has (get_or s.signs m 0) i) same ∙ (h i e).2 (λ is. ne (same ∙ is))
    | inr other ↦ o.signs i (h i e).0 l (omega arith) ne
  ];
}

pub alone_flips : (s : Slots) (line k slots left f : ℕ) → AreAlone s line k slots left → f ≡ get_or s.flips k 0 → k ≡ line → AreAlone s line (k + 1) slots (without left f)
alone_flips s line k slots left f o e is =
    more s line k slots left (without left f) o (λ i h.
    let two = without_parts left f i h in
    (two.0, ap (λ w. has w i) (sym e) ∙ two.1, λ ne. absurd (ne is)))

pub alone_both : (s : Slots) (line k slots left f g : ℕ) → AreAlone s line k slots left → f ≡ get_or s.flips k 0 → g ≡ get_or s.signs k 0 → AreAlone s line (k + 1) slots (without (without left f) g)
alone_both s line k slots left f g o e d =
    more s line k slots left (without (without left f) g) o (λ i h.
    let two = without_parts (without left f) g i h in
    let one = without_parts left f i two.0 in
    (one.0, ap (λ w. has w i) (sym e) ∙ one.1, λ ne. ap (λ w. has w i) (sym d) ∙ two.1))

pub alone_is_sign : (s : Slots) (n line i : ℕ) → IsAlone s line i → has (get_or s.signs line 0) i ≡ true → length s.flips ≡ n → length s.signs ≡ n → line < n → pauli_at s i ≡ sign_on n line
alone_is_sign s n line i alone on flips signs lt =
    same_pauli _ _ alone.quarter alone.half
    (ext_get_or false _ _
    (length-map s.flips (λ w. has w i) ∙ flips ∙ sym (length-replicate n false))
    (λ k h. let inside : k < length s.flips = subst (λ m. k < m) (length-map s.flips (λ w. has w i)) h in
    bit-bits s.flips k i inside ∙ alone.flips k inside ∙ sym (get_or-replicate n k false false (subst (λ m. k < m) flips inside))))
    (ext_get_or false _ _
    (length-map s.signs (λ w. has w i) ∙ signs ∙ sym (length-set (replicate n false) line true ∙ length-replicate n false))
    (λ k h. let inside : k < length s.signs = subst (λ m. k < m) (length-map s.signs (λ w. has w i)) h in
    elim (cases_eq k line) [
      | inl same ↦
          (bit-bits s.signs k i inside
          ∙ ap (λ l. has (get_or s.signs l 0) i) same ∙ on
          ∙ sym (ap (λ l. get_or (set (replicate n false) line true) l false) same ∙ get_or-set_same (replicate n false) line true false (subst (λ m. line < m) (sym (length-replicate n false)) lt)))
      | inr other ↦
          (bit-bits s.signs k i inside
          ∙ alone.signs k inside other
          ∙ sym (get_or-set_other (replicate n false) line k true false other ∙ get_or-replicate n k false false (subst (λ m. k < m) signs inside)))
    ]))

-- ---- a slot is opened

pub same_slots : (a b : Slots) → a.flips ≡ b.flips → a.signs ≡ b.signs → a.quarters ≡ b.quarters → a.halves ≡ b.halves → a.live ≡ b.live → a ≡ b
same_slots a b f g h j k = λ i. record { flips = f i; signs = g i; quarters = h i; halves = j i; live = k i }

-- one slot is cleared on all lines
pub record IsClear (old now : List ℕ) (slot : ℕ) : Type 0 where
  pub count : length now ≡ length old
  pub each : (k : ℕ) → k < length old → get_or now k 0 ≡ without (get_or old k 0) (2 ^ slot)

has-other : (slot i : ℕ) → i ≢ slot → has (2 ^ slot) i ≡ false
has-other slot i ne = has-line slot i ∙ ne_eqb i slot ne

pub without_here : (a slot : ℕ) → has (without a (2 ^ slot)) slot ≡ false
without_here a slot = grind (arith, has-without, has_self)

pub without_other : (a slot i : ℕ) → i ≢ slot → has (without a (2 ^ slot)) i ≡ has a i
without_other a slot i ne = grind (arith, has-without, has-other)

clear_here : (old now : List ℕ) (slot : ℕ) → IsClear old now slot → bits slot now ≡ replicate (length old) false
clear_here old now slot c =
    ext_get_or false _ _
    (length-map now (λ w. has w slot) ∙ c.count ∙ sym (length-replicate (length old) false))
    (λ k h. let inside : k < length now = subst (λ m. k < m) (length-map now (λ w. has w slot)) h in
    let within : k < length old = subst (λ m. k < m) c.count inside in
    bit-bits now k slot inside ∙ ap (λ w. has w slot) (c.each k within) ∙ without_here (get_or old k 0) slot ∙ sym (get_or-replicate (length old) k false false within))

clear_other : (old now : List ℕ) (slot i : ℕ) → IsClear old now slot → i ≢ slot → bits i now ≡ bits i old
clear_other old now slot i c ne =
    ext_get_or false _ _
    (length-map now (λ w. has w i) ∙ c.count ∙ sym (length-map old (λ w. has w i)))
    (λ k h. let inside : k < length now = subst (λ m. k < m) (length-map now (λ w. has w i)) h in
    let within : k < length old = subst (λ m. k < m) c.count inside in
    bit-bits now k i inside ∙ ap (λ w. has w i) (c.each k within) ∙ without_other (get_or old k 0) slot i ne ∙ sym (bit-bits old k i within))

module _ (old : Slots) (flips signs : List ℕ) (slot line w : ℕ) (is_flips : IsClear old.flips flips slot) (is_signs : IsClear old.signs signs slot) (even : length old.signs ≡ length old.flips) (lt : line < length old.flips) (is : w ≡ get_or signs line 0) where
  abbrev pub with_slot : Slots
  with_slot = record {
    flips = flips;
    signs = set signs line (bit_or w (2 ^ slot));
    quarters = without old.quarters (2 ^ slot);
    halves = without old.halves (2 ^ slot);
    live = bit_or old.live (2 ^ slot);
  }

  pub opened_here : pauli_at with_slot slot ≡ sign_on (length old.flips) line
  opened_here =
      same_pauli _ _
      (without_here old.quarters slot)
      (without_here old.halves slot)
      (clear_here old.flips flips slot is_flips)
      (map-set (λ v. has v slot) signs line (bit_or w (2 ^ slot))
      ∙ ap₂ (λ l b. set l line b) (clear_here old.signs signs slot is_signs ∙ ap (λ n. replicate n false) even) (with_same w slot))

  pub opened_other : (i : ℕ) → i ≢ slot → pauli_at with_slot i ≡ pauli_at old i
  opened_other i ne =
      same_pauli _ _
      (without_other old.quarters slot i ne)
      (without_other old.halves slot i ne)
      (clear_other old.flips flips slot i is_flips ne)
      (map-set (λ v. has v i) signs line (bit_or w (2 ^ slot))
      ∙ ap (set (bits i signs) line) (with_other w slot i ne ∙ ap (λ v. has v i) is ∙ sym (bit-bits signs line i (subst (λ n. line < n) (sym (is_signs.count ∙ even)) lt)))
      ∙ set-get_or (bits i signs) line false
      ∙ clear_other old.signs signs slot i is_signs ne)
