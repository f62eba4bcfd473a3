-- Each step that is found keeps the value and makes the list shorter.
use Rattle.std.proofs.Common.{◌≡◌, ◌≢◌, ℕ, ◌<◌, Bool, true, not, eqb, List, length, set, refl, sym, ◌∙◌, subst, inl, inr, arith, length-set, get_or-set_same, get_or-set_other, ◌∷◌, []}
use Rattle.std.specs.Prelude.{◌⊎◌}
use Rattle.std.proofs.lemmas.Bool.{or_left, or_right, eqb-true, eqb-false, and_parts, not-true}
use Rattle.rv_pla.specs.declared.cube.Cube.{Cube}
use Rattle.rv_cube.specs.Distance.{differing}
use Rattle.rv_cube.specs.Reduction.{no_cube, at, have_same_inputs, are_adjacent, can_merge, changed, merge_at, first_merge, partner_at, with_partner, form, exorlink_at_by, exorlink_at, first_exorlink, found_step}
use Rattle.rv_cube.specs.declared.step.Step.{Step}
use Rattle.rv_cube.specs.declared.step.Step.TheVariants.{Merge, Exorlink}
use Rattle.rv_cube.proofs.Searches.{Finds, finds_else, finds_first, finds_none, finds_pair, finds_if, finds_cond}
use Rattle.rv_cube.proofs.inside.Differing.{IsDiffering, differing_is}
use Rattle.rv_cube.proofs.inside.Merges.{Kept, Mergeable, merged_kept, can_merge_Mergeable}
use Rattle.rv_cube.proofs.Exorlinks.{IsForm, form_1, form_2, with_form, exorlink_kept}

-- the list after a step has the value, and is shorter
abbrev Good : ℕ → ℕ → List Cube → Step → Type 0
Good n outputs cubes step = Kept n outputs cubes (changed n cubes step)

good_merges : (n outputs : ℕ) (cubes : List Cube) (test : Cube → Cube → Bool) → ((x y : Cube) → test x y ≡ true → can_merge n x y ≡ true)
    → Finds (Good n outputs cubes) (first_merge test cubes)
good_merges n outputs cubes test can =
    finds_pair (Good n outputs cubes) (merge_at test cubes) cubes
    (λ a b ab within. finds_if (Good n outputs cubes) (test (at cubes a) (at cubes b)) (Merge a b)
    (λ e. merged_kept n outputs cubes a b ab within (can_merge_Mergeable n (at cubes a) (at cubes b) (can (at cubes a) (at cubes b) e))))

apart_places : (a b : ℕ) → not (eqb a b) ≡ true → a ≢ b
apart_places a b h = eqb-false a b (not-true (eqb a b) h)

good_partner : (n outputs : ℕ) (cubes : List Cube) (a b : ℕ) (f s : Cube) (place : ℕ) (cube : Cube) → a < b → b < length cubes
    → IsForm n outputs (at cubes a) (at cubes b) f s → at (with_form cubes a b f s) place ≡ cube → (place ≡ a) ⊎ (place ≡ b)
    → Finds (Good n outputs cubes) (with_partner n cubes a b f s place cube)
good_partner n outputs cubes a b f s place cube ab within is stands which =
    finds_first (Good n outputs cubes) (partner_at n cubes a b f s place cube) 0 (length cubes)
    (λ c l u. finds_if (Good n outputs cubes) _ (Exorlink a b f s place c)
    (λ e.
    let p = and_parts _ _ e in
    let p2 = and_parts _ _ p.0 in
    let na : c ≢ a = apart_places c a p2.0 in
    let nb : c ≢ b = apart_places c b p2.1 in
    let P : Cube → Type 0 = λ x. Mergeable x (at cubes c) (differing n x (at cubes c)) in
    let there = subst P (sym stands) (can_merge_Mergeable n cube (at cubes c) p.1) in
    let place_in : place < length cubes = elim which [ inl e ↦ omega arith | inr e ↦ omega arith ] in
    let other : place ≢ c = elim which [ inl e ↦ omega arith | inr e ↦ omega arith ] in
    exorlink_kept n outputs cubes a b f s place c (record {
      ab = ab;
      within = within;
      is_form = is;
      place_in = place_in;
      partner_in = omega arith;
      other_a = na;
      other_b = nb;
      other_place = other;
      mergeable_there = there;
    })))

good_form : (n outputs : ℕ) (cubes : List Cube) (a b : ℕ) (f s : Cube) → a < b → b < length cubes
    → IsForm n outputs (at cubes a) (at cubes b) f s → Finds (Good n outputs cubes) (form n cubes a b f s)
good_form n outputs cubes a b f s ab within is =
    let ne : a ≢ b = omega arith in
    let l = length-set cubes a f in
    let la : a < length cubes = omega arith in
    let lb : b < length (set cubes a f) = omega arith in
    finds_else (Good n outputs cubes) (with_partner n cubes a b f s a f) (with_partner n cubes a b f s b s)
    (good_partner n outputs cubes a b f s a f ab within is (get_or-set_other (set cubes a f) b a s no_cube ne ∙ get_or-set_same cubes a f no_cube la) (inl refl))
    (good_partner n outputs cubes a b f s b s ab within is (get_or-set_same (set cubes a f) b s no_cube lb) (inr refl))

good_exorlink_at : (n outputs : ℕ) (cubes : List Cube) (a b : ℕ) (x : List ℕ) → a < b → b < length cubes → (at cubes a).outs ≡ (at cubes b).outs
    → IsDiffering (at cubes a) (at cubes b) n x → Finds (Good n outputs cubes) (exorlink_at_by x n cubes a b)
good_exorlink_at n outputs cubes a b (p ∷ q ∷ []) ab within o is =
    finds_else (Good n outputs cubes) _ _
    (good_form n outputs cubes a b _ _ ab within (form_1 n outputs (at cubes a) (at cubes b) p q is o))
    (good_form n outputs cubes a b _ _ ab within (form_2 n outputs (at cubes a) (at cubes b) p q is o))
good_exorlink_at n outputs cubes a b v ab within o is = finds_none (Good n outputs cubes)

good_exorlinks : (n outputs : ℕ) (cubes : List Cube) → Finds (Good n outputs cubes) (first_exorlink n cubes)
good_exorlinks n outputs cubes =
    finds_pair (Good n outputs cubes) (exorlink_at n cubes) cubes
    (λ a b ab within. finds_cond (Good n outputs cubes) (eqb (at cubes a).outs (at cubes b).outs) _
    (λ e. good_exorlink_at n outputs cubes a b (differing n (at cubes a) (at cubes b)) ab within (eqb-true _ _ e) (differing_is n (at cubes a) (at cubes b))))

-- each step that is found keeps the value and makes the list shorter
pub found_good : (n outputs : ℕ) (cubes : List Cube) → Finds (Good n outputs cubes) (found_step n cubes)
unfolding found_step
found_good n outputs cubes =
    finds_else (Good n outputs cubes) _ _ (good_merges n outputs cubes (have_same_inputs n) (λ x y e. or_left _ _ e))
    (finds_else (Good n outputs cubes) _ _ (good_merges n outputs cubes (are_adjacent n) (λ x y e. or_right _ _ e)) (good_exorlinks n outputs cubes))
