-- Slots and a map together: what is found once a place is noted.
use Rattle.std.proofs.Common.{◌≡◌, ℕ, ◌+◌, ◌-◌, ◌*◌, ◌%◌, ◌<◌, ◌≤◌, Bool, true, false, cond, ◌&&◌, eqb, Option, Some, None, List, length, get_or, set, sym, ap, ap₂, ◌∙◌, arith, inl, inr, ◌⊎◌, get_or-set_same, get_or-set_other, length-set}
use Rattle.std.proofs.Math.Nat.{mod-eq_of_lt}
use Rattle.std.proofs.lemmas.Bool.{cases_Bool, cases_eq}
use Rattle.rv_fold.specs.Parities.{Parity, same_parity}
use Rattle.rv_fold.specs.inside.Slots.{at_slot, key_cmp, slot_of}
use Rattle.std.specs.Ordering.{is_eq, nat_cmp, bool_cmp, ordering_then}
use Rattle.std.specs.declared.cmp.Ordering.{Ordering}
use Rattle.rv_gate.specs.Gate.{same}
use Rattle.rv_fold.specs.declared.firsts.Begun.{Begun}
use Rattle.rv_fold.proofs.Walking.{same_parity-eq, same_parity-refl}

-- ---- keys of the map are equal where the parities are

same_flags : (a b : Bool) → is_eq (bool_cmp a b) ≡ same a b
same_flags a b = grind arith

same_numbers : (x y : ℕ) (o : Ordering) (s : Bool) → is_eq o ≡ s → is_eq (ordering_then (nat_cmp x y) o) ≡ (eqb x y && s)
same_numbers x y o s e = grind arith

pub same_keys : (p key : Parity) → is_eq (key_cmp (p.lines, p.flipped) (key.lines, key.flipped)) ≡ same_parity p key
same_keys p key = same_numbers p.lines key.lines (bool_cmp p.flipped key.flipped) (same p.flipped key.flipped) (same_flags p.flipped key.flipped)

-- ---- slots

pub slot_below : (count : ℕ) (p : Parity) (r f : ℕ) → r ≡ p.lines % count → f ≡ cond p.flipped 1 0 → r * 2 + f < count → r * 2 + f ≡ slot_of count p
slot_below count p r f e g lt = sym (mod-eq_of_lt lt) ∙ ap₂ (λ (a b : ℕ). (a * 2 + b) % count) e g

pub slot_above : (count : ℕ) (p : Parity) (r f : ℕ) → 0 < count → r ≡ p.lines % count → f ≡ cond p.flipped 1 0 → count ≤ r * 2 + f → r * 2 + f - count ≡ slot_of count p
slot_above count p r f some e g le = grind arith

-- what is found, by the slots and what the map has
abbrev pub looked : List (Option Begun) → (Parity → Option ℕ) → Parity → Option ℕ
looked slots other key = at_slot (get_or slots (slot_of (length slots) key) None) key (other key)

abbrev pub noted : Parity → ℕ → (Parity → Option ℕ) → Parity → Option ℕ
noted p place before key = cond (same_parity p key) (Some place) (before key)

-- the slot has nothing, or the parity itself
abbrev pub IsFree : Option Begun → Parity → Type 0
IsFree slot p = (slot ≡ None) ⊎ ((b : Begun) × (slot ≡ Some b) × (same_parity b.parity p ≡ true))

-- a slot that is free for a parity says nothing of another
free_silent : (slot : Option Begun) (p key : Parity) (other : Option ℕ) → IsFree slot p → same_parity p key ≡ false → at_slot slot key other ≡ other
free_silent slot p key other h h2 = grind (arith, same_parity-eq)

module _ (slots : List (Option Begun)) (other : Parity → Option ℕ) where
  pub noted_at_slot : (b : Begun) (slot : ℕ) → slot ≡ slot_of (length slots) b.parity → slot < length slots → IsFree (get_or slots slot None) b.parity → (key : Parity) → looked (set slots slot (Some b)) other key ≡ noted b.parity b.place (looked slots other) key
  noted_at_slot b slot is lt free key =
      let at : ℕ = slot_of (length slots) key in
      ap (λ n. at_slot (get_or (set slots slot (Some b)) (slot_of n key) None) key (other key)) (length-set slots slot (Some b))
      ∙ elim (cases_eq at slot) [
        | inl e ↦
            (ap (λ k. at_slot (get_or (set slots slot (Some b)) k None) key (other key)) e
            ∙ ap (λ s. at_slot s key (other key)) (get_or-set_same slots slot (Some b) None lt)
            ∙ elim (cases_Bool (same_parity p key)) [
              | inl same ↦ by_same same
              | inr differ ↦ by_other differ e
            ])
        | inr d ↦
            (ap (λ s. at_slot s key (other key)) (get_or-set_other slots slot at (Some b) None d)
            ∙ sym (ap (λ c. cond c (Some b.place) (looked slots other key)) (unlike d)))
      ]
    where
      p : Parity
      p = b.parity

      by_same : same_parity p key ≡ true → cond (same_parity p key) (Some b.place) (other key) ≡ noted p b.place (looked slots other) key
      by_same same = ap (λ c. cond c (Some b.place) (other key)) same ∙ sym (ap (λ c. cond c (Some b.place) (looked slots other key)) same)

      by_other : same_parity p key ≡ false → slot_of (length slots) key ≡ slot → cond (same_parity p key) (Some b.place) (other key) ≡ noted p b.place (looked slots other) key
      by_other differ e =
          ap (λ c. cond c (Some b.place) (other key)) differ
          ∙ sym (ap (λ k. at_slot (get_or slots k None) key (other key)) e ∙ free_silent (get_or slots slot None) p key (other key) free differ)
          ∙ sym (ap (λ c. cond c (Some b.place) (looked slots other key)) differ)

      unlike : (slot_of (length slots) key ≡ slot → ⊥) → same_parity p key ≡ false
      unlike d =
          elim (cases_Bool (same_parity p key)) [
            | inl same ↦ absurd (d (ap (slot_of (length slots)) (sym (same_parity-eq p key same)) ∙ sym is))
            | inr differ ↦ differ
          ]

  pub noted_in_map : (p : Parity) (place : ℕ) (b : Begun) (later : Parity → Option ℕ) → get_or slots (slot_of (length slots) p) None ≡ Some b → same_parity b.parity p ≡ false → ((key : Parity) → later key ≡ noted p place other key) → (key : Parity) → looked slots later key ≡ noted p place (looked slots other) key
  noted_in_map p place b later taken differ is key =
      elim (cases_Bool (same_parity p key)) [
        | inl same ↦
            (let e : p ≡ key = same_parity-eq p key same in
            ap (looked slots later) (sym e)
            ∙ ap (λ s. at_slot s p (later p)) taken
            ∙ ap (λ c. cond c (Some b.place) (later p)) differ
            ∙ is p
            ∙ ap (λ c. cond c (Some place) (other p)) (same_parity-refl p)
            ∙ sym (ap (λ c. cond c (Some place) (looked slots other key)) same))
        | inr unlike ↦
            (ap (at_slot (get_or slots (slot_of (length slots) key) None) key) (is key ∙ ap (λ c. cond c (Some place) (other key)) unlike)
            ∙ sym (ap (λ c. cond c (Some place) (looked slots other key)) unlike))
      ]
