-- A list is settled exactly if it is irreducible.
use Rattle.std.proofs.Common.{◌≡◌, ◌≢◌, ℕ, ◌+◌, ◌-◌, ◌<◌, Bool, true, not, ◌&&◌, ◌||◌, cond, eqb, List, [], ◌∷◌, length, refl, sym, ◌∙◌, ap, inl, inr, arith, eq-eqb, ne_eqb}
use Rattle.std.specs.Option.{option_or}
use Rattle.std.specs.Prelude.{◌⊎◌, Option, None, Some, option_map}
use Rattle.std.proofs.lemmas.Bool.{and_parts, cases_order, cases_Bool, eqb-false, eqb-true, false≢true, not-true}
use Rattle.std.proofs.lemmas.Option.{none-some}
use Rattle.rv_gate.proofs.AllBelow.{all_below-from}
use Rattle.rv_gate.proofs.FirstAnswer.{none_at, none_first, or_none}
use Rattle.rv_gate.specs.FirstAnswer.{first}
use Rattle.rv_gate.specs.Gate.{all_below}
use Rattle.rv_gate.specs.Word.{word_of}
use Rattle.rv_gate.specs.inside.laws.WordLaws.{length-word_of}
use Rattle.rv_pla.specs.declared.cube.Cube.{Cube}
use Rattle.rv_pla.specs.Pla.{TwoLevel}
use Rattle.rv_cube.specs.Distance.{differing, distance, with_third}
use Rattle.rv_cube.specs.Reduction.{at, are_adjacent, can_merge, have_same_inputs, first_pair, changed, merge_at, first_merge, partner_at, with_partner, form, exorlink_at_by, exorlink_at, first_exorlink, found_step, first_step, IsSettled}
use Rattle.rv_cube.specs.declared.step.Step.TheVariants.{Merge as MergeStep, Exorlink}
use Rattle.rv_cube.specs.ReductionFor.{IsSettledFor, dropped, dropping, first_drop, first_step_for, free_where, is_idle}
use Rattle.rv_cube.specs.Settled.{AreAdjacent, ArePlaces, DifferInOne, DifferInTwo, HaveOneInputPart, IsIdle, IsIrreducible, IsIrreducibleFor, LeadsOn, Merge}
use Rattle.rv_cube.proofs.inside.Differing.{differ_not, differing_as, differing_only, differs-true, both_from, both_other, both_back}
use Rattle.rv_gate.proofs.Options.{unmapped}
use Rattle.rv_cube.proofs.Searches.{cond_none}

-- ---- in which inputs two cubes differ

same-true : (n : ℕ) (x y : Cube) → HaveOneInputPart n x y → have_same_inputs n x y ≡ true
same-true n x y same = ap (λ (inputs : List ℕ). eqb (length inputs) 0) (differing_only n x y [] same (omega arith))

adjacent-true : (n : ℕ) (x y : Cube) → AreAdjacent n x y → are_adjacent n x y ≡ true
adjacent-true n x y a =
    ap (λ t. t && eqb (distance n x y) 1) (eq-eqb x.outs y.outs a.outputs)
    ∙ ap (λ (inputs : List ℕ). eqb (length inputs) 1) (differing_only n x y (a.input ∷ []) (a.one.input, differs-true x y a.input a.one.differ, a.one.others) (omega arith))

or-true : (s t : Bool) → (s ≡ true) ⊎ (t ≡ true) → (s || t) ≡ true
or-true s t h = grind arith

merge-true : (n : ℕ) (x y : Cube) → Merge n x y → can_merge n x y ≡ true
merge-true n x y (inl same) = or-true (have_same_inputs n x y) (are_adjacent n x y) (inl (same-true n x y same))
merge-true n x y (inr adjacent) = or-true (have_same_inputs n x y) (are_adjacent n x y) (inr (adjacent-true n x y adjacent))

-- ---- where no pair has an answer

none_pair : {A : Type 0} (f : ℕ → ℕ → Option A) (cubes : List Cube) (a b : ℕ) → first_pair f cubes ≡ None → a < b → b < length cubes → f a b ≡ None
none_pair f cubes a b none ab within =
    none_at (f a) (a + 1) (length cubes - (a + 1)) b
    (none_at (λ a. first (f a) (a + 1) (length cubes - (a + 1))) 0 (length cubes) a none (omega arith) (omega arith)) (omega arith) (omega arith)

-- a test that gives nothing fails
fails : {A : Type 0} (test : Bool) (x : A) → test ≡ true → cond test (Some x) None ≡ None → ⊥
fails test x holds none = none-some x (sym none ∙ ap (λ t. cond t (Some x) None) holds)

sym_one : (n : ℕ) (x y : Cube) (p : ℕ) → DifferInOne n x y p → DifferInOne n y x p
sym_one n x y p d = record { input = d.input; differ = λ e. d.differ (sym e); others = λ i l ne. sym (d.others i l ne) }

-- ---- exorlinks

-- a cube of a form that finds no partner merges with no third cube
lonely : (n : ℕ) (cubes : List Cube) (a b : ℕ) (x y : Cube) (place : ℕ) (cube : Cube) → with_partner n cubes a b x y place cube ≡ None
    → (c : ℕ) → c < length cubes → c ≢ a → c ≢ b → Merge n cube (at cubes c) → ⊥
lonely n cubes a b x y place cube none c lc na nb merge =
    let test : Bool = not (eqb c a) && not (eqb c b) && can_merge n cube (at cubes c) in
    let holds : test ≡ true =
    ap (λ s. not s && not (eqb c b) && can_merge n cube (at cubes c)) (ne_eqb c a na)
    ∙ ap (λ s. not s && can_merge n cube (at cubes c)) (ne_eqb c b nb) ∙ merge-true n cube (at cubes c) merge in
    fails test (Exorlink a b x y place c) holds (none_at (partner_at n cubes a b x y place cube) 0 (length cubes) c none (omega arith) (omega arith))

module _ (n : ℕ) (cubes : List Cube) (a b : ℕ) (x y : Cube) (none : form n cubes a b x y ≡ None) where
  lonely_first : (c : ℕ) → c < length cubes → c ≢ a → c ≢ b → Merge n x (at cubes c) → ⊥
  lonely_first = lonely n cubes a b x y a x (or_none (with_partner n cubes a b x y a x) (with_partner n cubes a b x y b y) none).0

  lonely_second : (c : ℕ) → c < length cubes → c ≢ a → c ≢ b → Merge n y (at cubes c) → ⊥
  lonely_second = lonely n cubes a b x y b y (or_none (with_partner n cubes a b x y a x) (with_partner n cubes a b x y b y) none).1

-- both forms of two cubes that differ in the inputs p < q
forms : (n : ℕ) (cubes : List Cube) (a b p q : ℕ) → exorlink_at n cubes a b ≡ None → (at cubes a).outs ≡ (at cubes b).outs → DifferInTwo n (at cubes a) (at cubes b) p q → p < q
    → (form n cubes a b (with_third (at cubes a) (at cubes b) p) (with_third (at cubes b) (at cubes a) q) ≡ None)
    × (form n cubes a b (with_third (at cubes b) (at cubes a) p) (with_third (at cubes a) (at cubes b) q) ≡ None)
forms n cubes a b p q none outs d pq =
    let x : Cube = at cubes a in
    let y : Cube = at cubes b in
    let is = differing_only n x y (p ∷ q ∷ []) (pq, d.second, differs-true x y p d.differ_first, differs-true x y q d.differ_second, d.others) (omega arith) in
    or_none (form n cubes a b (with_third x y p) (with_third y x q)) (form n cubes a b (with_third y x p) (with_third x y q))
    (sym (ap (λ t. cond t (exorlink_at_by (differing n x y) n cubes a b) None) (eq-eqb x.outs y.outs outs) ∙ ap (λ inputs. exorlink_at_by inputs n cubes a b) is) ∙ none)

-- in either order of the places and of the inputs
module _ (n : ℕ) (cubes : List Cube) (none : first_exorlink n cubes ≡ None) where
  unlinked-by : (a b p q c : ℕ) → LeadsOn n cubes a b p q c → (a < b) ⊎ (b < a) → (p < q) ⊎ (q < p) → ⊥
  unlinked-by a b p q c l (inl ab) (inl pq) =
      let f = forms n cubes a b p q (none_pair (exorlink_at n cubes) cubes a b none ab l.places.second) l.outputs l.inputs pq in
      lonely_first n cubes a b _ _ f.0 c l.third l.not_first l.not_second l.merge
  unlinked-by a b p q c l (inl ab) (inr qp) =
      let f = forms n cubes a b q p (none_pair (exorlink_at n cubes) cubes a b none ab l.places.second) l.outputs (both_back n (at cubes a) (at cubes b) p q l.inputs) qp in
      lonely_second n cubes a b _ _ f.1 c l.third l.not_first l.not_second l.merge
  unlinked-by a b p q c l (inr ba) (inl pq) =
      let f = forms n cubes b a p q (none_pair (exorlink_at n cubes) cubes b a none ba l.places.first) (sym l.outputs) (both_other n (at cubes a) (at cubes b) p q l.inputs) pq in
      lonely_first n cubes b a _ _ f.1 c l.third l.not_second l.not_first l.merge
  unlinked-by a b p q c l (inr ba) (inr qp) =
      let d = both_other n (at cubes a) (at cubes b) q p (both_back n (at cubes a) (at cubes b) p q l.inputs) in
      let f = forms n cubes b a q p (none_pair (exorlink_at n cubes) cubes b a none ba l.places.first) (sym l.outputs) d qp in
      lonely_second n cubes b a _ _ f.0 c l.third l.not_second l.not_first l.merge

either : (a b : ℕ) → a ≢ b → (a < b) ⊎ (b < a)
either a b ne = elim (cases_order a b) [ inl e ↦ absurd (ne e) | inr order ↦ order ]

-- ---- the law

-- two cubes that a test holds of, in either order
module _ (n : ℕ) (cubes : List Cube) (test : Cube → Cube → Bool) (none : first_merge test cubes ≡ None) where
  unpaired : (a b : ℕ) → ArePlaces cubes a b → test (at cubes a) (at cubes b) ≡ true → test (at cubes b) (at cubes a) ≡ true → ⊥
  unpaired a b places holds back = elim (either a b places.two) [
    | inl ab ↦ fails (test (at cubes a) (at cubes b)) (MergeStep a b) holds (none_pair (merge_at test cubes) cubes a b none ab places.second)
    | inr ba ↦ fails (test (at cubes b) (at cubes a)) (MergeStep b a) back (none_pair (merge_at test cubes) cubes b a none ba places.first)
  ]

pub irreducible : (n : ℕ) (cubes : List Cube) → IsSettled n cubes → IsIrreducible n cubes
unfolding found_step
irreducible n cubes settled =
    let one = or_none (first_merge (have_same_inputs n) cubes) _ (unmapped (changed n cubes) (found_step n cubes) settled) in
    let two = or_none (first_merge (are_adjacent n) cubes) (first_exorlink n cubes) one.1 in record {
      apart = λ a b places same.
          unpaired n cubes (have_same_inputs n) one.0 a b places (same-true n (at cubes a) (at cubes b) same)
          (same-true n (at cubes b) (at cubes a) (λ i l. sym (same i l)));
      unmerged = λ a b places adjacent.
          let back : AreAdjacent n (at cubes b) (at cubes a) =
          record { outputs = sym adjacent.outputs; input = adjacent.input; one = sym_one n (at cubes a) (at cubes b) adjacent.input adjacent.one } in
          unpaired n cubes (are_adjacent n) two.0 a b places (adjacent-true n (at cubes a) (at cubes b) adjacent)
          (adjacent-true n (at cubes b) (at cubes a) back);
      unlinked = λ a b p q c leads. unlinked-by n cubes two.1 a b p q c leads (either a b leads.places.two) (either p q leads.inputs.two);
    }

-- ---- for a PLA

idle-true : (pla : TwoLevel) (cube : Cube) (output : ℕ) → IsIdle pla cube output → is_idle pla cube output ≡ true
unfolding is_idle
idle-true pla cube output idle = grind (arith, all_below, free_where, all_below-from, word_of, length-word_of)

pub irreducible_for : (pla : TwoLevel) (cubes : List Cube) → IsSettledFor pla cubes → IsIrreducibleFor pla cubes
unfolding first_step_for
irreducible_for pla cubes settled =
    let both = or_none (first_step pla.inputs cubes) (first_drop pla cubes) settled in record {
      irreducible = irreducible pla.inputs cubes both.0;
      needed = λ a output within idle.
          fails (is_idle pla (at cubes a) output) (dropped cubes a output) (idle-true pla (at cubes a) output idle)
          (none_at (dropping pla cubes a) 0 pla.outputs output
          (none_at (λ a. first (dropping pla cubes a) 0 pla.outputs) 0 (length cubes) a both.1 (omega arith) (omega arith)) (omega arith) (let l = idle.output_in in omega arith));
    }

-- ---- and back: an irreducible list is settled

same-from : (n : ℕ) (x y : Cube) (inputs : List ℕ) → differing n x y ≡ inputs → eqb (length inputs) 0 ≡ true → HaveOneInputPart n x y
same-from n x y [] is none = differing_as n x y [] is
same-from n x y (p ∷ rest) is none = absurd (let z = eqb-true (length (p ∷ rest)) 0 none in omega (arith, z))

one-from : (n : ℕ) (x y : Cube) (inputs : List ℕ) → differing n x y ≡ inputs → eqb (length inputs) 1 ≡ true → x.outs ≡ y.outs → AreAdjacent n x y
one-from n x y [] is one outs = absurd (false≢true one)
one-from n x y (p ∷ []) is one outs =
    let d = differing_as n x y (p ∷ []) is in
    record { outputs = outs; input = p; one = record { input = d.0; differ = differ_not x y p d.1; others = d.2 } }
one-from n x y (p ∷ q ∷ rest) is one outs = absurd (let z = eqb-true (length (p ∷ q ∷ rest)) 1 one in omega (arith, z))

adjacent-from : (n : ℕ) (x y : Cube) → are_adjacent n x y ≡ true → AreAdjacent n x y
adjacent-from n x y holds = grind (arith, one-from, eqb-true)

merge-from : (n : ℕ) (x y : Cube) → can_merge n x y ≡ true → Merge n x y
merge-from n x y holds = elim (cases_Bool (have_same_inputs n x y)) [
  | inl same ↦ inl (same-from n x y (differing n x y) refl same)
  | inr other ↦ inr (adjacent-from n x y (ap (λ t. t || are_adjacent n x y) (sym other) ∙ holds))
]

all_none : {A : Type 0} (f : ℕ → ℕ → Option A) (cubes : List Cube) → ((a b : ℕ) → a < b → b < length cubes → f a b ≡ None) → first_pair f cubes ≡ None
all_none f cubes none = grind (arith, none_first)

module _ (n : ℕ) (cubes : List Cube) (free : IsIrreducible n cubes) where
  places-of : (a b : ℕ) → a < b → b < length cubes → ArePlaces cubes a b
  places-of a b ab within = record { first = omega arith; second = within; two = omega arith }

  no_partner : (a b : ℕ) (x y : Cube) (place : ℕ) (cube : Cube)
      → ((c : ℕ) → c < length cubes → c ≢ a → c ≢ b → Merge n cube (at cubes c) → ⊥) → with_partner n cubes a b x y place cube ≡ None
  no_partner a b x y place cube alone =
      none_first (partner_at n cubes a b x y place cube) 0 (length cubes) (λ c lc uc.
      cond_none (not (eqb c a) && not (eqb c b) && can_merge n cube (at cubes c)) (Some (Exorlink a b x y place c)) (λ holds.
      let parts = and_parts (not (eqb c a) && not (eqb c b)) (can_merge n cube (at cubes c)) holds in
      let others = and_parts (not (eqb c a)) (not (eqb c b)) parts.0 in
      let na : c ≢ a = eqb-false c a (not-true (eqb c a) others.0) in
      let nb : c ≢ b = eqb-false c b (not-true (eqb c b) others.1) in
      absurd (alone c (omega arith) na nb (merge-from n cube (at cubes c) parts.1))))

  no_form : (a b : ℕ) (x y : Cube) → ((c : ℕ) → c < length cubes → c ≢ a → c ≢ b → Merge n x (at cubes c) → ⊥)
      → ((c : ℕ) → c < length cubes → c ≢ a → c ≢ b → Merge n y (at cubes c) → ⊥) → form n cubes a b x y ≡ None
  no_form a b x y no_x no_y = ap (λ o. option_or o (with_partner n cubes a b x y b y)) (no_partner a b x y a x no_x) ∙ no_partner a b x y b y no_y

  no_exorlink : (a b : ℕ) → a < b → b < length cubes → exorlink_at n cubes a b ≡ None
  no_exorlink a b ab within =
      cond_none (eqb (at cubes a).outs (at cubes b).outs) (exorlink_at_by (differing n (at cubes a) (at cubes b)) n cubes a b)
      (λ same. by (differing n (at cubes a) (at cubes b)) refl (eqb-true (at cubes a).outs (at cubes b).outs same))
    where
      by : (inputs : List ℕ) → differing n (at cubes a) (at cubes b) ≡ inputs → (at cubes a).outs ≡ (at cubes b).outs → exorlink_at_by inputs n cubes a b ≡ None
      by [] is outs = refl
      by (p ∷ []) is outs = refl
      by (p ∷ q ∷ r ∷ rest) is outs = refl
      by (p ∷ q ∷ []) is outs =
          let x : Cube = at cubes a in
          let y : Cube = at cubes b in
          let d = differing_as n x y (p ∷ q ∷ []) is in
          let two = both_from n x y p q d in
          let there : ArePlaces cubes a b = places-of a b ab within in
          let back : ArePlaces cubes b a = record { first = there.second; second = there.first; two = λ e. there.two (sym e) } in
          ap (λ o. option_or o (form n cubes a b (with_third y x p) (with_third x y q)))
          (no_form a b (with_third x y p) (with_third y x q)
          (λ c lc na nb m. free.unlinked a b p q c (record { places = there; outputs = outs; inputs = two; third = lc; not_first = na; not_second = nb; merge = m }))
          (λ c lc na nb m. free.unlinked b a q p c (record { places = back; outputs = sym outs; inputs = both_other n x y q p (both_back n x y p q two); third = lc; not_first = nb; not_second = na; merge = m })))
          ∙ no_form a b (with_third y x p) (with_third x y q)
          (λ c lc na nb m. free.unlinked b a p q c (record { places = back; outputs = sym outs; inputs = both_other n x y p q two; third = lc; not_first = nb; not_second = na; merge = m }))
          (λ c lc na nb m. free.unlinked a b q p c (record { places = there; outputs = outs; inputs = both_back n x y p q two; third = lc; not_first = na; not_second = nb; merge = m }))

  settled : IsSettled n cubes
  unfolding found_step
  settled =
      ap (option_map (changed n cubes))
      (ap (λ o. option_or o (option_or (first_merge (are_adjacent n) cubes) (first_exorlink n cubes)))
      (all_none (merge_at (have_same_inputs n) cubes) cubes (λ a b ab within.
      cond_none (have_same_inputs n (at cubes a) (at cubes b)) (Some (MergeStep a b))
      (λ same. absurd (free.apart a b (places-of a b ab within) (same-from n (at cubes a) (at cubes b) (differing n (at cubes a) (at cubes b)) refl same)))))
      ∙ ap (λ o. option_or o (first_exorlink n cubes))
      (all_none (merge_at (are_adjacent n) cubes) cubes (λ a b ab within.
      cond_none (are_adjacent n (at cubes a) (at cubes b)) (Some (MergeStep a b))
      (λ adjacent. absurd (free.unmerged a b (places-of a b ab within) (adjacent-from n (at cubes a) (at cubes b) adjacent)))))
      ∙ all_none (exorlink_at n cubes) cubes no_exorlink)
