-- Cubes with the same inputs, and the slot that has some inputs.
use Rattle.std.proofs.Common.{◌≡◌, ℕ, zero, suc, ◌<◌, ◌≤◌, Bool, true, false, cond, refl, sym, ◌∙◌, ap, inl, inr, arith, eq-eqb, ne_eqb, ◌&&◌, List, length, [], eqb}
use Rattle.std.specs.Cmp.{both_ways}
use Rattle.std.specs.Prelude.{Option, None, Some, IfSome}
use Rattle.std.proofs.lemmas.Bool.{cases_lt, eqb-true, false≢true, and_parts, and_from}
use Rattle.std.proofs.lemmas.Nat.Bits.{same_from_bits, bit_at_above}
use Rattle.rv_gate.specs.Word.{has}
use Rattle.rv_gate.proofs.LineSets.{bits_from_has}
use Rattle.rv_pla.specs.Cube.{symbol_of, symbol, IsCube}
use Rattle.rv_pla.specs.declared.cube.Cube.{Cube}
use Rattle.rv_cube.specs.Distance.{differing, cares, wants_one}
use Rattle.rv_cube.specs.Reduction.{at, have_same_inputs}
use Rattle.rv_cube.specs.inside.Slots.{is_alike, full, IsKeyed, slot_of}
use Rattle.rv_cube.proofs.inside.Differing.{IsDiffering, differing_is, differing_only, differing-none, differing-suc}
use Rattle.rv_gate.proofs.FirstAnswer.{none_at}
use Rattle.rv_cube.proofs.Searches.{finds_first, finds_if}
use Rattle.rv_cube.proofs.inside.Full.{full_within}
use Rattle.rv_gate.proofs.Options.{none_false}

-- ---- the sets of a cube

pub alike_care : (x y : Cube) → is_alike x y ≡ true → x.care ≡ y.care
alike_care x y h = eqb-true _ _ (and_parts _ _ h).0

pub alike_want : (x y : Cube) → is_alike x y ≡ true → x.want ≡ y.want
alike_want x y h = eqb-true _ _ (and_parts _ _ h).1

pub alike_from : (x y : Cube) → x.care ≡ y.care → x.want ≡ y.want → is_alike x y ≡ true
alike_from x y c w = and_from _ _ (eq-eqb _ _ c) (eq-eqb _ _ w)

pub is_alike-self : (x : Cube) → is_alike x x ≡ true
is_alike-self x = alike_from x x refl refl

pub is_alike-comm : (x y : Cube) → is_alike x y ≡ true → is_alike y x ≡ true
is_alike-comm x y h = alike_from y x (sym (alike_care x y h)) (sym (alike_want x y h))

pub is_alike-trans : (x y z : Cube) → is_alike x y ≡ true → is_alike y z ≡ true → is_alike x z ≡ true
is_alike-trans x y z h k = alike_from x z (alike_care x y h ∙ alike_care y z k) (alike_want x y h ∙ alike_want y z k)

-- ---- its symbols

pub alike_symbols : (x y : Cube) (i : ℕ) → is_alike x y ≡ true → symbol x i ≡ symbol y i
alike_symbols x y i h =
    ap (λ s. symbol_of (has s i) (has x.want i)) (alike_care x y h) ∙ ap (λ s. symbol_of (has y.care i) (has s i)) (alike_want x y h)

pub alike_differing : (n : ℕ) (x y : Cube) → is_alike x y ≡ true → differing n x y ≡ []
alike_differing n x y h = differing_only n x y [] (λ i l. alike_symbols x y i h) (omega arith)

-- cubes with the same inputs differ from another in the same inputs
pub alike_from_another : (n : ℕ) (x y z : Cube) → is_alike x y ≡ true → differing n x z ≡ differing n y z
alike_from_another zero x y z h = differing-none x z ∙ sym (differing-none y z)
alike_from_another (suc n) x y z h = let i0 = alike_from_another n x y z h in grind (arith, i0, differing-suc, alike_symbols)

-- ---- the symbols below n make the sets

cares-symbol : (c w : Bool) → cares (symbol_of c w) ≡ c
cares-symbol c w = grind arith

wants_one-symbol : (c w : Bool) → (w ≡ true → c ≡ true) → wants_one (symbol_of c w) ≡ w
wants_one-symbol c w h = grind arith

same_sets : (c w d v : Bool) → (w ≡ true → c ≡ true) → (v ≡ true → d ≡ true) → symbol_of c w ≡ symbol_of d v → (c ≡ d) × (w ≡ v)
same_sets c w d v hw hv e =
    (sym (cares-symbol c w) ∙ ap cares e ∙ cares-symbol d v, sym (wants_one-symbol c w hw) ∙ ap wants_one e ∙ wants_one-symbol d v hv)

care_above : (n outputs : ℕ) (x : Cube) (i : ℕ) → IsCube n outputs x → n ≤ i → has x.care i ≡ false
care_above n outputs x i v l = ne_eqb _ 1 (λ o. let z = bit_at_above x.care n i v.asked l in omega arith)

-- past the inputs of two cubes their symbols are the same
same_above : (n outputs : ℕ) (a b : Cube) (i : ℕ) → IsCube n outputs a → IsCube n outputs b → n ≤ i → symbol a i ≡ symbol b i
same_above n outputs a b i va vb l =
    ap (λ c. symbol_of c (has a.want i)) (care_above n outputs a i va l) ∙ ap (λ c. symbol_of c (has b.want i)) (sym (care_above n outputs b i vb l))

pub has_same : (n outputs : ℕ) (x y : Cube) (i : ℕ) → IsCube n outputs x → IsCube n outputs y → (i < n → symbol x i ≡ symbol y i)
    → (has x.care i ≡ has y.care i) × (has x.want i ≡ has y.want i)
has_same n outputs x y i vx vy h =
    same_sets _ _ _ _ (vx.wanted i) (vy.wanted i) (elim (cases_lt i n) [ inl l ↦ h l | inr g ↦ same_above n outputs x y i vx vy g ])

pub symbols_alike : (n outputs : ℕ) (x y : Cube) → IsCube n outputs x → IsCube n outputs y → ((i : ℕ) → i < n → symbol x i ≡ symbol y i) → is_alike x y ≡ true
symbols_alike n outputs x y vx vy h =
    let e : (i : ℕ) → (has x.care i ≡ has y.care i) × (has x.want i ≡ has y.want i) = λ i. has_same n outputs x y i vx vy (h i) in
    alike_from x y (same_from_bits _ _ (λ i. bits_from_has x.care i y.care i (e i).0)) (same_from_bits _ _ (λ i. bits_from_has x.want i y.want i (e i).1))

-- ---- the same as the rule

none_alike : (n outputs : ℕ) (x y : Cube) (a : List ℕ) → IsCube n outputs x → IsCube n outputs y → IsDiffering x y n a → eqb (length a) 0 ≡ true → is_alike x y ≡ true
none_alike n outputs x y a h h2 h3 h4 = grind (arith, symbols_alike, eqb-true, length)

pub alike_same_inputs : (n : ℕ) (x y : Cube) → is_alike x y ≡ true → have_same_inputs n x y ≡ true
alike_same_inputs n x y h = ap (λ l. eqb (length l) 0) (alike_differing n x y h)

pub same_inputs_alike : (n outputs : ℕ) (x y : Cube) → IsCube n outputs x → IsCube n outputs y → have_same_inputs n x y ≡ true → is_alike x y ≡ true
same_inputs_alike n outputs x y vx vy h = none_alike n outputs x y (differing n x y) vx vy (differing_is n x y) h

pub is_alike-same_inputs : (n outputs : ℕ) (x y : Cube) → IsCube n outputs x → IsCube n outputs y → is_alike x y ≡ have_same_inputs n x y
is_alike-same_inputs n outputs x y vx vy = both_ways _ _ (alike_same_inputs n x y) (same_inputs_alike n outputs x y vx vy)

-- ---- the slot with some inputs

pub slot_of-none : (slots : List Cube) (cube : Cube) → slot_of slots cube ≡ None → (i : ℕ) → full slots i ≡ true → is_alike (at slots i) cube ≡ true → ⊥
unfolding slot_of
slot_of-none slots cube e i f a =
    let l = full_within slots i f in
    let t = none_false _ i (none_at (λ k. cond (full slots k && is_alike (at slots k) cube) (Some k) None) 0 (length slots) i e (omega arith) (omega arith)) in
    false≢true (sym t ∙ and_from _ _ f a)

pub slot_of-some : (slots : List Cube) (cube : Cube) (j : ℕ) → slot_of slots cube ≡ Some j → (full slots j ≡ true) × (is_alike (at slots j) cube ≡ true)
unfolding slot_of
slot_of-some slots cube =
    let Found : ℕ → Type 0 = λ k. (full slots k ≡ true) × (is_alike (at slots k) cube ≡ true) in
    finds_first Found (λ k. cond (full slots k && is_alike (at slots k) cube) (Some k) None) 0 (length slots)
    (λ k l u. finds_if Found (full slots k && is_alike (at slots k) cube) k (λ t. and_parts _ _ t))

-- a full slot with the inputs of the cube is found
pub slot_of-alike : (slots : List Cube) (cube : Cube) (c : ℕ) (o : Option ℕ) → slot_of slots cube ≡ o → IsKeyed slots → full slots c ≡ true → is_alike (at slots c) cube ≡ true → o ≡ Some c
slot_of-alike slots cube c None e keyed f a = absurd (slot_of-none slots cube e c f a)
slot_of-alike slots cube c (Some j) e keyed f a =
    let h = slot_of-some slots cube j e in
    ap (λ k. Some k) (keyed j c h.0 f (is_alike-trans (at slots j) cube (at slots c) h.1 (is_alike-comm (at slots c) cube a)))

-- a slot that is found is one of the slots
pub slot_within : (slots : List Cube) (cube : Cube) (o : Option ℕ) → o ≡ slot_of slots cube → IfSome o (λ k. k < length slots)
slot_within slots cube None e = tt
slot_within slots cube (Some k) e = full_within slots k (slot_of-some slots cube k (sym e)).0
