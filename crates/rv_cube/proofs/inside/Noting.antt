-- What is found by its inputs, after a slot has changed.
use Rattle.std.proofs.Common.{◌≡◌, ◌≢◌, ℕ, ◌<◌, true, false, cond, ◌&&◌, List, [], ◌∷◌, ◌++◌, length, set, refl, sym, ◌∙◌, ap, inl, inr, arith, eq-eqb, ne_eqb, get_or-set_same, get_or-set_other, length-set}
use Rattle.std.specs.Prelude.{Option, None, Some, All, bit_or}
use Rattle.std.proofs.lemmas.Bool.{cases_eq, eqb-true, false≢true, and_parts, and_from}
use Rattle.std.proofs.lemmas.List.Elements.{All-set, All-push}
use Rattle.std.proofs.lemmas.Option.{same_Some}
use Rattle.rv_pla.specs.declared.cube.Cube.{Cube}
use Rattle.rv_pla.specs.Cube.{IsCube}
use Rattle.rv_pla.specs.declared.cube.TheConstants.{MOST_OUTPUTS}
use Rattle.rv_cube.specs.Reduction.{no_cube, at}
use Rattle.rv_cube.specs.inside.Slots.{carries, full, is_alike, slot_of, key_of, key_eq}
use Rattle.rv_cube.specs.inside.Slotted.{Noted, IsReplaced, AsksWithin, IsSlotted}
use Rattle.std.proofs.lemmas.Nat.Bits.{bit_at-lt, bit_at-zero, bit_at_or}
use Rattle.rv_cube.proofs.inside.Full.{full_cleared, no_cube_valid, at_open}
use Rattle.rv_cube.proofs.inside.Keys.{alike_care, alike_want, alike_from, slot_of-none, slot_of-some}
use Rattle.std.proofs.lemmas.Grind.{common_steps}

-- ---- keys

key_from : (x y : ℕ × ℕ) → x.0 ≡ y.0 → x.1 ≡ y.1 → x ≡ y
key_from x y a b = ap (λ k. let r : ℕ × ℕ = (k, x.1) in r) a ∙ ap (λ k. let r : ℕ × ℕ = (y.0, k) in r) b

pub key_eq-true : (x y : ℕ × ℕ) → key_eq x y ≡ true → x ≡ y
key_eq-true x y h = let p = and_parts _ _ h in key_from x y (eqb-true _ _ p.0) (eqb-true _ _ p.1)

pub key_eq-same : (x y : ℕ × ℕ) → x ≡ y → key_eq x y ≡ true
key_eq-same x y e = and_from _ _ (eq-eqb x.0 y.0 (ap (λ (k : ℕ × ℕ). k.0) e)) (eq-eqb x.1 y.1 (ap (λ (k : ℕ × ℕ). k.1) e))

pub alike_key : (x y : Cube) → is_alike x y ≡ true → key_of x ≡ key_of y
alike_key x y h = key_from (key_of x) (key_of y) (alike_care x y h) (alike_want x y h)

pub key_alike : (x y : Cube) → key_of x ≡ key_of y → is_alike x y ≡ true
key_alike x y e = alike_from x y (ap (λ (k : ℕ × ℕ). k.0) e) (ap (λ (k : ℕ × ℕ). k.1) e)

no_slot : (find : ℕ × ℕ → Option ℕ) (slots : List Cube) (cube : Cube) (o : Option ℕ) → Noted find slots → slot_of slots cube ≡ None → find (key_of cube) ≡ o → o ≡ None
no_slot find slots cube None h e f = refl
no_slot find slots cube (Some i) h e f =
    let s = h.sound (key_of cube) i f in
    absurd (slot_of-none slots cube e i s.0 (key_alike (at slots i) cube s.1))

noted_slot : (find : ℕ × ℕ → Option ℕ) (slots : List Cube) (cube : Cube) (o : Option ℕ) → Noted find slots → slot_of slots cube ≡ o → find (key_of cube) ≡ o
noted_slot find slots cube None h e = no_slot find slots cube (find (key_of cube)) h e refl
noted_slot find slots cube (Some j) h e =
    let s = slot_of-some slots cube j e in
    ap find (sym (alike_key (at slots j) cube s.1)) ∙ h.complete j s.0

pub slot_of_noted : (find : ℕ × ℕ → Option ℕ) (slots : List Cube) (cube : Cube) → Noted find slots → find (key_of cube) ≡ slot_of slots cube
slot_of_noted find slots cube h = noted_slot find slots cube (slot_of slots cube) h refl

-- ---- after a change a key leads to the slot with it, and to no other

-- a cube that carries an output is put into an empty slot
put_sound : (find : ℕ × ℕ → Option ℕ) (slots : List Cube) (k : ℕ) (cube : Cube) → Noted find slots → k < length slots → full slots k ≡ false → carries cube ≡ true
    → (q : ℕ × ℕ) (i : ℕ) → cond (key_eq (key_of cube) q) (Some k) (find q) ≡ Some i → (full (set slots k cube) i ≡ true) × (key_of (at (set slots k cube) i) ≡ q)
put_sound find slots k cube h l empty some q i e = grind (arith, cases_eq, key_eq-true, get_or-set_same, get_or-set_other, no_cube)

put_complete : (find : ℕ × ℕ → Option ℕ) (slots : List Cube) (k : ℕ) (cube : Cube) → Noted find slots → k < length slots → full slots k ≡ false → carries cube ≡ true
    → find (key_of cube) ≡ None → (i : ℕ) → full (set slots k cube) i ≡ true → cond (key_eq (key_of cube) (key_of (at (set slots k cube) i))) (Some k) (find (key_of (at (set slots k cube) i))) ≡ Some i
put_complete find slots k cube h l empty some none i f = grind (arith, cases_eq, key_eq-true, key_eq-same, get_or-set_same, get_or-set_other, no_cube)

noted_put : (find then : ℕ × ℕ → Option ℕ) (slots : List Cube) (i : ℕ) (cube : Cube) → Noted find slots → i < length slots → full slots i ≡ false
    → carries cube ≡ true → find (key_of cube) ≡ None → ((q : ℕ × ℕ) → then q ≡ cond (key_eq (key_of cube) q) (Some i) (find q)) → Noted then (set slots i cube)
noted_put find then slots i cube h l empty some none e = grind (arith, common_steps, put_sound, put_complete)

-- a slot is emptied
clear_sound : (find : ℕ × ℕ → Option ℕ) (slots : List Cube) (k : ℕ) → Noted find slots
    → (q : ℕ × ℕ) (i : ℕ) → cond (full slots k && key_eq (key_of (at slots k)) q) None (find q) ≡ Some i → (full (set slots k no_cube) i ≡ true) × (key_of (at (set slots k no_cube) i) ≡ q)
clear_sound find slots k h q i e = grind (arith, cases_eq, key_eq-same, get_or-set_other, no_cube)

clear_complete : (find : ℕ × ℕ → Option ℕ) (slots : List Cube) (k : ℕ) → Noted find slots
    → (i : ℕ) → full (set slots k no_cube) i ≡ true → cond (full slots k && key_eq (key_of (at slots k)) (key_of (at (set slots k no_cube) i))) None (find (key_of (at (set slots k no_cube) i))) ≡ Some i
clear_complete find slots k h i f = grind (arith, cases_eq, full_cleared, and_parts, key_eq-true, get_or-set_other, no_cube)

noted_clear : (find then : ℕ × ℕ → Option ℕ) (slots : List Cube) (i : ℕ) → Noted find slots
    → ((q : ℕ × ℕ) → then q ≡ cond (full slots i && key_eq (key_of (at slots i)) q) None (find q)) → Noted then (set slots i no_cube)
noted_clear find then slots i h e = grind (arith, common_steps, clear_sound, clear_complete)

-- a cube comes into slot a, and slot b is emptied
replaced_only : (find : ℕ × ℕ → Option ℕ) (slots : List Cube) (a b : ℕ) (cube : Cube) → Noted find slots → IsReplaced slots a b cube
    → (j : ℕ) → j ≢ a → j ≢ b → full slots j ≡ true → key_of (at slots j) ≡ key_of cube → ⊥
replaced_only find slots a b cube h (inl x) j na nb f k = na (same_Some j a (sym (h.complete j f) ∙ ap find (k ∙ sym x.1) ∙ h.complete a x.0))
replaced_only find slots a b cube h (inr x) j na nb f k = nb (same_Some j b (sym (h.complete j f) ∙ ap find (k ∙ sym x.2) ∙ h.complete b x.1))

replaced_a : (slots : List Cube) (a b : ℕ) (cube : Cube) → IsReplaced slots a b cube → full slots a ≡ true → key_of (at slots a) ≡ key_of cube
replaced_a slots a b cube h h2 = grind arith

replaced_b : (slots : List Cube) (a b : ℕ) (cube : Cube) → IsReplaced slots a b cube → full slots b ≡ true → key_of (at slots b) ≡ key_of cube
replaced_b slots a b cube h h2 = grind arith

replace_sound : (find : ℕ × ℕ → Option ℕ) (slots : List Cube) (a b : ℕ) (cube : Cube) → Noted find slots → a < length slots → b ≢ a → carries cube ≡ true → IsReplaced slots a b cube
    → (q : ℕ × ℕ) (i : ℕ) → cond (key_eq (key_of cube) q) (Some a) (find q) ≡ Some i
    → (full (set (set slots b no_cube) a cube) i ≡ true) × (key_of (at (set (set slots b no_cube) a cube) i) ≡ q)
replace_sound find slots a b cube h l ne some is q i e = grind (arith, cases_eq, key_eq-true, key_eq-same, replaced_a, replaced_b, get_or-set_same, get_or-set_other, length-set, no_cube)

replace_complete : (find : ℕ × ℕ → Option ℕ) (slots : List Cube) (a b : ℕ) (cube : Cube) → Noted find slots → a < length slots → b ≢ a → IsReplaced slots a b cube
    → (i : ℕ) → full (set (set slots b no_cube) a cube) i ≡ true
    → cond (key_eq (key_of cube) (key_of (at (set (set slots b no_cube) a cube) i))) (Some a) (find (key_of (at (set (set slots b no_cube) a cube) i))) ≡ Some i
replace_complete find slots a b cube h l ne is i f =
    grind (arith, cases_eq, full_cleared, key_eq-true, key_eq-same, replaced_only, get_or-set_same, get_or-set_other, length-set, no_cube)

noted_replace : (find then : ℕ × ℕ → Option ℕ) (slots : List Cube) (a b : ℕ) (cube : Cube) → Noted find slots → a < length slots → b ≢ a
    → carries cube ≡ true → IsReplaced slots a b cube → ((q : ℕ × ℕ) → then q ≡ cond (key_eq (key_of cube) q) (Some a) (find q))
    → Noted then (set (set slots b no_cube) a cube)
noted_replace find then slots a b cube h l ne some is e = grind (arith, common_steps, replace_sound, replace_complete)

-- ---- what every `Slots` keeps

no_cube_asks : (asked : ℕ) → AsksWithin asked no_cube
no_cube_asks asked input on = let z = bit_at-zero input in absurd (false≢true (sym (ne_eqb _ 1 (omega arith)) ∙ on))

pub own_asked : (asked : ℕ) (cube : Cube) → AsksWithin (bit_or asked cube.care) cube
own_asked asked cube input on = grind (arith, bit_at_or, eqb-true, bit_at-lt, eq-eqb)

pub more_asked : (asked : ℕ) (cube : Cube) (slots : List Cube) → All (AsksWithin asked) slots → All (AsksWithin (bit_or asked cube.care)) slots
more_asked asked cube slots all = grind (arith, bit_at_or, eqb-true, bit_at-lt, eq-eqb)

pub slotted_open : (find : ℕ × ℕ → Option ℕ) (asked n : ℕ) (slots : List Cube) → IsSlotted find asked n slots → IsSlotted find asked n (slots ++ no_cube ∷ [])
slotted_open find asked n slots h = grind (arith, common_steps, All-push, no_cube_valid, at_open, no_cube_asks)

pub slotted_put : (find then : ℕ × ℕ → Option ℕ) (asked n : ℕ) (slots : List Cube) (i : ℕ) (cube : Cube) → IsSlotted find asked n slots → i < length slots → full slots i ≡ false
    → carries cube ≡ true → IsCube n MOST_OUTPUTS cube → slot_of slots cube ≡ None
    → ((q : ℕ × ℕ) → then q ≡ cond (key_eq (key_of cube) q) (Some i) (find q)) → IsSlotted then (bit_or asked cube.care) n (set slots i cube)
slotted_put find then asked n slots i cube h l empty some own none e = record {
  some_inputs = h.some_inputs;
  few_inputs = h.few_inputs;
  valid = All-set (IsCube n MOST_OUTPUTS) slots i cube own h.valid;
  noted = noted_put find then slots i cube h.noted l empty some (slot_of_noted find slots cube h.noted ∙ none) e;
  asks = All-set (AsksWithin (bit_or asked cube.care)) slots i cube (own_asked asked cube) (more_asked asked cube slots h.asks);
}

pub slotted_clear : (find then : ℕ × ℕ → Option ℕ) (asked n : ℕ) (slots : List Cube) (i : ℕ) (cube : Cube) → IsSlotted find asked n slots → i < length slots → cube ≡ at slots i
    → ((q : ℕ × ℕ) → then q ≡ cond (carries cube && key_eq (key_of cube) q) None (find q)) → IsSlotted then asked n (set slots i no_cube)
slotted_clear find then asked n slots i cube h l is e = grind (arith, common_steps, All-set, no_cube_valid, noted_clear, no_cube_asks)

pub slotted_replace : (find then : ℕ × ℕ → Option ℕ) (asked n : ℕ) (slots : List Cube) (a b : ℕ) (cube : Cube) → IsSlotted find asked n slots → a < b → b < length slots
    → carries cube ≡ true → IsCube n MOST_OUTPUTS cube → IsReplaced slots a b cube
    → ((q : ℕ × ℕ) → then q ≡ cond (key_eq (key_of cube) q) (Some a) (find q)) → IsSlotted then (bit_or asked cube.care) n (set (set slots b no_cube) a cube)
slotted_replace find then asked n slots a b cube h ab bl some own is e = record {
  some_inputs = h.some_inputs;
  few_inputs = h.few_inputs;
  valid = All-set (IsCube n MOST_OUTPUTS) (set slots b no_cube) a cube own (All-set (IsCube n MOST_OUTPUTS) slots b no_cube (no_cube_valid n MOST_OUTPUTS) h.valid);
  noted = noted_replace find then slots a b cube h.noted (omega arith) (λ e. omega arith) some is e;
  asks =
      let all = more_asked asked cube slots h.asks in
      All-set (AsksWithin (bit_or asked cube.care)) (set slots b no_cube) a cube (own_asked asked cube)
      (All-set (AsksWithin (bit_or asked cube.care)) slots b no_cube (no_cube_asks (bit_or asked cube.care)) all);
}

-- what cubes ask for
pub ruleset asking = (own_asked, more_asked)
