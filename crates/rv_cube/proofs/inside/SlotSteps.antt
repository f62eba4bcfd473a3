-- A step on slots is the step on the list of their cubes, and what is found on the slots is the first step of the list.
use Rattle.std.proofs.Common.{◌≡◌, ◌≢◌, ℕ, ◌+◌, ◌-◌, ◌<◌, Bool, true, false, cond, not, eqb, List, length, set, refl, sym, ◌∙◌, ap, inl, inr, arith}
use Rattle.std.specs.Option.{option_or}
use Rattle.std.specs.Prelude.{Option, None, Some, ◌⊎◌, nat_lt, option_map, All, Result, Ok, Err, IfOk, MatchOption}
use Rattle.std.proofs.lemmas.Bool.{ltb-true, ltb-false, cases_Bool}
use Rattle.std.proofs.lemmas.Option.{same_Some}
use Rattle.rv_pla.specs.declared.cube.Cube.{Cube}
use Rattle.rv_cube.specs.Esop.{terms_of}
use Rattle.rv_cube.specs.Distance.{with_third}
use Rattle.rv_gate.specs.FirstAnswer.{first}
use Rattle.rv_cube.specs.Reduction.{no_cube, at, merge_by, standing, merged, merged_any, changed, exorlink_at, exorlink_at_by, first_exorlink, first_merge, form, merge_at, partner_at, with_partner, IsSettled, are_adjacent, found_step, have_same_inputs}
use Rattle.rv_cube.specs.inside.Slots.{carries, full, list_place, or_empty, merged_in, merged_in_any, moved, ranked, partner_in_at, partner_in, form_in, exorlink_in_by, exorlink_in, ExorlinksNone, IsFirstExorlink, IsKeyed, MergesNone, IsFirstMerge}
use Rattle.rv_cube.specs.declared.step.Step.{Step}
use Rattle.rv_cube.specs.declared.step.Step.TheVariants.{Merge, Exorlink}
use Rattle.rv_gate.proofs.FirstAnswer.{none_first}
use Rattle.rv_cube.proofs.Searches.{first_found, first_same, option_or-map, first-map}
use Rattle.rv_cube.proofs.inside.Full.{full_within, full_set-other, full_set, at_valid}
use Rattle.rv_cube.proofs.inside.Ranks.{at-rank, terms_of-set, terms_of-remove, eqb-rank, lt-rank, rank_set, rank_set-before, by_rank, by_rank-full, by_rank-none, first-rank_all, first-rank_after, rank_found, rank_none}
use Rattle.rv_pla.specs.Cube.{IsCube}
use Rattle.rv_pla.specs.declared.cube.TheConstants.{MOST_OUTPUTS}
use Rattle.rv_cube.specs.inside.Reducing.{IsNext}
use Rattle.rv_cube.proofs.inside.Keys.{same_inputs_alike}
use Rattle.rv_cube.proofs.inside.ExorlinksIn.{exorlink_in_is}

-- ---- a search over pairs of places is one over pairs of full slots

abbrev row : (ℕ → ℕ → Option Step) → ℕ → ℕ → Option Step
row f n a = first (f a) (a + 1) (n - (a + 1))

row_found : (f : ℕ → ℕ → Option Step) (slots : List Cube) (a b : ℕ) (x : Step) → a < b → full slots a ≡ true → full slots b ≡ true
    → f (list_place slots a) (list_place slots b) ≡ Some x
    → ((j : ℕ) → a < j → j < b → full slots j ≡ true → f (list_place slots a) (list_place slots j) ≡ None)
    → row f (length (terms_of slots)) (list_place slots a) ≡ Some x
row_found f slots a b x ab fa fb is between =
    let g : ℕ → Option Step = f (list_place slots a) in
    let w = full_within slots b fb in
    first-rank_after g slots a fa
    ∙ first_found (by_rank g slots) (a + 1) (length slots - (a + 1)) b x (omega arith) (omega arith) (by_rank-full g slots b fb ∙ is)
    (λ j l u. by_rank-none g slots j (between j (omega arith) u))

row_none : (f : ℕ → ℕ → Option Step) (slots : List Cube) (a : ℕ) → full slots a ≡ true
    → ((j : ℕ) → a < j → full slots j ≡ true → f (list_place slots a) (list_place slots j) ≡ None)
    → row f (length (terms_of slots)) (list_place slots a) ≡ None
row_none f slots a fa none = grind (arith, first-rank_after, none_first, by_rank, by_rank-none)

pairs_found : (f : ℕ → ℕ → Option Step) (slots : List Cube) (a b : ℕ) (x : Step) → a < b → full slots a ≡ true → full slots b ≡ true
    → f (list_place slots a) (list_place slots b) ≡ Some x
    → ((i j : ℕ) → i < a → i < j → full slots i ≡ true → full slots j ≡ true → f (list_place slots i) (list_place slots j) ≡ None)
    → ((j : ℕ) → a < j → j < b → full slots j ≡ true → f (list_place slots a) (list_place slots j) ≡ None)
    → first (row f (length (terms_of slots))) 0 (length (terms_of slots)) ≡ Some x
pairs_found f slots a b x ab fa fb is before between =
    rank_found (row f (length (terms_of slots))) slots a x fa (row_found f slots a b x ab fa fb is between)
    (λ i u fi. row_none f slots i fi (λ j ij fj. before i j u ij fi fj))

pairs_none : (f : ℕ → ℕ → Option Step) (slots : List Cube)
    → ((i j : ℕ) → i < j → full slots i ≡ true → full slots j ≡ true → f (list_place slots i) (list_place slots j) ≡ None)
    → first (row f (length (terms_of slots))) 0 (length (terms_of slots)) ≡ None
pairs_none f slots none =
    rank_none (row f (length (terms_of slots))) slots (λ i fi. row_none f slots i fi (λ j ij fj. none i j ij fi fj))

-- ---- merges

merge_ranks : (test : Cube → Cube → Bool) (slots : List Cube) (a b : ℕ) (t : Bool) → full slots a ≡ true → full slots b ≡ true
    → test (at slots a) (at slots b) ≡ t
    → merge_at test (terms_of slots) (list_place slots a) (list_place slots b) ≡ cond t (Some (Merge (list_place slots a) (list_place slots b))) None
merge_ranks test slots a b t fa fb h = grind (arith, list_place, terms_of, at-rank)

-- the first merge by a rule, and none
pub merge_first : (test : Cube → Cube → Bool) (slots : List Cube) (a b : ℕ) → a < b → full slots a ≡ true → full slots b ≡ true
    → test (at slots a) (at slots b) ≡ true
    → ((i j : ℕ) → i < a → i < j → full slots i ≡ true → full slots j ≡ true → test (at slots i) (at slots j) ≡ false)
    → ((j : ℕ) → a < j → j < b → full slots j ≡ true → test (at slots a) (at slots j) ≡ false)
    → first_merge test (terms_of slots) ≡ Some (Merge (list_place slots a) (list_place slots b))
merge_first test slots a b ab fa fb j before between =
    pairs_found (merge_at test (terms_of slots)) slots a b (Merge (list_place slots a) (list_place slots b)) ab fa fb
    (merge_ranks test slots a b true fa fb j)
    (λ i k l ik fi fk. merge_ranks test slots i k false fi fk (before i k l ik fi fk))
    (λ k l u fk. merge_ranks test slots a k false fa fk (between k l u fk))

pub merge_none : (test : Cube → Cube → Bool) (slots : List Cube)
    → ((i j : ℕ) → i < j → full slots i ≡ true → full slots j ≡ true → test (at slots i) (at slots j) ≡ false)
    → first_merge test (terms_of slots) ≡ None
merge_none test slots h =
    pairs_none (merge_at test (terms_of slots)) slots (λ i j l fi fj. merge_ranks test slots i j false fi fj (h i j l fi fj))

-- ---- exorlinks

exorlinks_same : (t u : Bool) (step : Step) (slots : List Cube) → t ≡ u
    → cond t (Some (ranked slots step)) None ≡ option_map (ranked slots) (cond u (Some step) None)
exorlinks_same t u step slots h = grind arith

partner_at_ranks : (n : ℕ) (slots : List Cube) (a b : ℕ) (f s : Cube) (place : ℕ) (cube : Cube) (c : ℕ) (t : Bool)
    → full slots a ≡ true → full slots b ≡ true → full slots c ≡ t
    → cond t (partner_at n (terms_of slots) (list_place slots a) (list_place slots b) f s (list_place slots place) cube (list_place slots c)) None
    ≡ option_map (ranked slots) (cond t (partner_at n slots a b f s place cube c) None)
partner_at_ranks n slots a b f s place cube c t h h2 h3 = grind (arith, exorlinks_same, eqb, eqb-rank, at-rank)

partner_ranks : (n : ℕ) (slots : List Cube) (a b : ℕ) (f s : Cube) (place : ℕ) (cube : Cube) → full slots a ≡ true → full slots b ≡ true
    → with_partner n (terms_of slots) (list_place slots a) (list_place slots b) f s (list_place slots place) cube
    ≡ option_map (ranked slots) (partner_in n slots a b f s place cube)
partner_ranks n slots a b f s place cube fa fb =
    let on_list : ℕ → Option Step = partner_at n (terms_of slots) (list_place slots a) (list_place slots b) f s (list_place slots place) cube in
    let on_slots : ℕ → Option Step = partner_in_at n slots a b f s place cube in
    first-rank_all on_list slots
    ∙ first_same (by_rank on_list slots) (λ i. option_map (ranked slots) (on_slots i)) 0 (length slots)
    (λ c. partner_at_ranks n slots a b f s place cube c (full slots c) fa fb refl)
    ∙ first-map (ranked slots) on_slots 0 (length slots)

form_ranks : (n : ℕ) (slots : List Cube) (a b : ℕ) (f s : Cube) → full slots a ≡ true → full slots b ≡ true
    → form n (terms_of slots) (list_place slots a) (list_place slots b) f s ≡ option_map (ranked slots) (form_in n slots a b f s)
form_ranks n slots a b f s fa fb =
    grind (arith, option_or, with_partner, terms_of, list_place, partner_ranks, option_map, partner_in, option_or-map)

-- one form, or the other
forms_ranks : (n : ℕ) (slots : List Cube) (a b : ℕ) (f s g t : Cube) → full slots a ≡ true → full slots b ≡ true
    → option_or (form n (terms_of slots) (list_place slots a) (list_place slots b) f s) (form n (terms_of slots) (list_place slots a) (list_place slots b) g t)
    ≡ option_map (ranked slots) (option_or (form_in n slots a b f s) (form_in n slots a b g t))
forms_ranks n slots a b f s g t fa fb =
    grind (arith, option_or, terms_of, list_place, form_ranks, option_map, form_in, option_or-map)

exorlink_by_ranks : (d : List ℕ) (n : ℕ) (slots : List Cube) (a b : ℕ) → full slots a ≡ true → full slots b ≡ true
    → exorlink_at_by d n (terms_of slots) (list_place slots a) (list_place slots b) ≡ option_map (ranked slots) (exorlink_in_by d n slots a b (at slots a) (at slots b))
exorlink_by_ranks d n slots a b h h2 = grind (arith, at-rank, forms_ranks)

map-cond : (h : Step → Step) (t : Bool) (o : Option Step) → cond t (option_map h o) None ≡ option_map h (cond t o None)
map-cond h t o = grind arith

exorlink_ranks : (n : ℕ) (slots : List Cube) (a b : ℕ) → full slots a ≡ true → full slots b ≡ true
    → exorlink_at n (terms_of slots) (list_place slots a) (list_place slots b) ≡ option_map (ranked slots) (exorlink_in n slots a b)
exorlink_ranks n slots a b fa fb =
    grind (arith, terms_of, exorlink_at_by, list_place, at-rank, exorlink_by_ranks, map-cond, exorlink_in_by)

-- the first exorlink, and none
pub exorlink_first : (n : ℕ) (slots : List Cube) (a b : ℕ) (step : Step) → IsFirstExorlink n slots a b step
    → first_exorlink n (terms_of slots) ≡ Some (ranked slots step)
exorlink_first n slots a b step h =
    let fa = h.full_a in
    pairs_found (exorlink_at n (terms_of slots)) slots a b (ranked slots step) h.order fa h.full_b
    (exorlink_ranks n slots a b fa h.full_b ∙ ap (option_map (ranked slots)) h.is)
    (λ i j l ij fi fj. exorlink_ranks n slots i j fi fj ∙ ap (option_map (ranked slots)) (h.before i l j ij fi fj))
    (λ j l u fj. exorlink_ranks n slots a j fa fj ∙ ap (option_map (ranked slots)) (h.between j l u fj))

pub exorlink_none : (n : ℕ) (slots : List Cube) → ((a : ℕ) → ExorlinksNone n slots a) → first_exorlink n (terms_of slots) ≡ None
exorlink_none n slots h =
    pairs_none (exorlink_at n (terms_of slots)) slots
    (λ i j ij fi fj. exorlink_ranks n slots i j fi fj ∙ ap (option_map (ranked slots)) (h i j ij fi fj))

-- ---- what a step does

-- a cube that carries an output, or none
put_list : (slots : List Cube) (a : ℕ) (o : Option Cube) → full slots a ≡ true → ((cube : Cube) → o ≡ Some cube → carries cube ≡ true)
    → terms_of (set slots a (or_empty o)) ≡ standing (terms_of slots) (list_place slots a) o
put_list slots a None fa h = terms_of-remove slots a no_cube fa refl
put_list slots a (Some cube) fa h = terms_of-set slots a cube fa (h cube refl)

carrying_carries : (x y : Cube) (t : Bool) → eqb x.outs 0 ≡ t → cond t None (Some x) ≡ Some y → carries y ≡ true
carrying_carries x y true h e = absurd (let ne : None ≡ Some y = e in cc)
carrying_carries x y false h e = ap carries (sym (same_Some x y e)) ∙ ap not h

pub merge_carries : (d : List ℕ) (x y cube : Cube) → carries x ≡ true → merge_by d x y ≡ Some cube → carries cube ≡ true
unfolding with_third
merge_carries d x y cube h h2 = grind (arith, same_Some, carrying_carries)

-- what a step makes of the list
pub merged_in_list : (n : ℕ) (slots : List Cube) (a b : ℕ) → a < b → full slots a ≡ true → full slots b ≡ true
    → terms_of (merged_in n slots a b) ≡ merged n (terms_of slots) (list_place slots a) (list_place slots b)
unfolding merged
merged_in_list n slots a b ab fa fb = grind (arith, full_set-other, put_list, merge_carries, rank_set-before, terms_of-remove, at-rank)

merged_in_choice : (n : ℕ) (slots : List Cube) (a b : ℕ) (t : Bool) → a ≢ b → full slots a ≡ true → full slots b ≡ true → nat_lt a b ≡ t
    → terms_of (cond t (merged_in n slots a b) (merged_in n slots b a))
    ≡ cond t (merged n (terms_of slots) (list_place slots a) (list_place slots b)) (merged n (terms_of slots) (list_place slots b) (list_place slots a))
merged_in_choice n slots a b true ne fa fb e = merged_in_list n slots a b (ltb-true a b e) fa fb
merged_in_choice n slots a b false ne fa fb e = let le = ltb-false a b e in merged_in_list n slots b a (omega arith) fb fa

merged_in_any_list : (n : ℕ) (slots : List Cube) (a b : ℕ) → a ≢ b → full slots a ≡ true → full slots b ≡ true
    → terms_of (merged_in_any n slots a b) ≡ merged_any n (terms_of slots) (list_place slots a) (list_place slots b)
merged_in_any_list n slots a b ne fa fb = grind (arith, merged_in_choice, terms_of, list_place, lt-rank)

pub moved_list : (n : ℕ) (slots : List Cube) (a b : ℕ) (f s : Cube) (place partner : ℕ) → a < b → full slots a ≡ true → full slots b ≡ true
    → carries f ≡ true → carries s ≡ true → (place ≡ a) ⊎ (place ≡ b) → full slots partner ≡ true → partner ≢ a → partner ≢ b
    → terms_of (moved n slots (Exorlink a b f s place partner)) ≡ changed n (terms_of slots) (ranked slots (Exorlink a b f s place partner))
moved_list n slots a b f s place partner ab fa fb cf cs which fp na nb = grind (arith, full_set, rank_set, terms_of-set, merged_in_any_list)

keyed_none : (n : ℕ) (slots : List Cube) → All (IsCube n MOST_OUTPUTS) slots → IsKeyed slots → first_merge (have_same_inputs n) (terms_of slots) ≡ None
keyed_none n slots all keyed =
    merge_none (have_same_inputs n) slots (λ i j lt fi fj. elim (cases_Bool (have_same_inputs n (at slots i) (at slots j))) [
      | inl on ↦
          (let e : i ≡ j = keyed i j fi fj (same_inputs_alike n MOST_OUTPUTS (at slots i) (at slots j) (at_valid n MOST_OUTPUTS slots i all) (at_valid n MOST_OUTPUTS slots j all) on) in
          absurd (omega arith))
      | inr off ↦ off
    ])

merges_none : (n : ℕ) (slots : List Cube) → ((a : ℕ) → MergesNone n slots a) → first_merge (are_adjacent n) (terms_of slots) ≡ None
merges_none n slots h = merge_none (are_adjacent n) slots (λ i j lt fi fj. h i j lt fi fj)

first_step_by : (n : ℕ) (cubes : List Cube) (x y : Option Step) → first_merge (have_same_inputs n) cubes ≡ None → first_merge (are_adjacent n) cubes ≡ x
    → first_exorlink n cubes ≡ y → found_step n cubes ≡ option_or x y
unfolding found_step
first_step_by n cubes x y e f g = grind arith

pub merge_is_next : (n : ℕ) (slots : List Cube) (a b : ℕ) → All (IsCube n MOST_OUTPUTS) slots → IsKeyed slots → IsFirstMerge n slots a b
    → found_step n (terms_of slots) ≡ Some (Merge (list_place slots a) (list_place slots b))
merge_is_next n slots a b all keyed h =
    grind (arith, first_step_by, terms_of, list_place, first_exorlink, keyed_none, merge_first, are_adjacent)

pub exorlink_is_next : (n : ℕ) (slots : List Cube) (a b : ℕ) (step : Step) → All (IsCube n MOST_OUTPUTS) slots → IsKeyed slots
    → ((i : ℕ) → MergesNone n slots i) → IsFirstExorlink n slots a b step → found_step n (terms_of slots) ≡ Some (ranked slots step)
exorlink_is_next n slots a b step all keyed none h =
    grind (arith, first_step_by, terms_of, keyed_none, merges_none, exorlink_first)

none_is_next : (n : ℕ) (slots : List Cube) → All (IsCube n MOST_OUTPUTS) slots → IsKeyed slots
    → ((i : ℕ) → MergesNone n slots i) → ((i : ℕ) → ExorlinksNone n slots i) → found_step n (terms_of slots) ≡ None
none_is_next n slots all keyed merges exorlinks =
    first_step_by n (terms_of slots) None None (keyed_none n slots all keyed) (merges_none n slots merges) (exorlink_none n slots exorlinks)

-- what was found is the next step
found_next : (n : ℕ) (slots : List Cube) (o : Option Step) → All (IsCube n MOST_OUTPUTS) slots → IsKeyed slots → ((i : ℕ) → MergesNone n slots i)
    → MatchOption o ((a : ℕ) → ExorlinksNone n slots a) (λ step. (a : ℕ) × (b : ℕ) × IsFirstExorlink n slots a b step)
    → MatchOption o (IsSettled n (terms_of slots)) (IsNext n slots)
found_next n slots None all keyed none h = ap (option_map (changed n (terms_of slots))) (none_is_next n slots all keyed none h)
found_next n slots (Some (Merge i j)) all keyed none h = absurd (exorlink_in_is n slots h.0 h.1 (Merge i j) h.2.is)
found_next n slots (Some (Exorlink i j f s place c)) all keyed none h = (none, h)

pub exorlink_next : {E : Type 0} (n : ℕ) (slots : List Cube) (r : Result (Option Step) E) → All (IsCube n MOST_OUTPUTS) slots → IsKeyed slots
    → ((i : ℕ) → MergesNone n slots i)
    → IfOk r (λ o. MatchOption o ((a : ℕ) → ExorlinksNone n slots a) (λ step. (a : ℕ) × (b : ℕ) × IsFirstExorlink n slots a b step))
    → IfOk r (λ o. MatchOption o (IsSettled n (terms_of slots)) (IsNext n slots))
exorlink_next n slots (Ok o) all keyed none h = found_next n slots o all keyed none h
exorlink_next n slots (Err e) all keyed none h = h
