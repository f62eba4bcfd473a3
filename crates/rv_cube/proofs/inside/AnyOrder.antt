-- Cubes with the same inputs may become one in any order.
use Rattle.std.proofs.Common.{◌≡◌, ◌≢◌, ℕ, zero, suc, ◌<◌, ◌≤◌, Bool, true, false, ◌&&◌, List, length, set, sym, ◌∙◌, ap, inl, inr, arith, lt-ltb, refl, cond}
use Rattle.std.specs.Option.{option_or}
use Rattle.std.specs.Prelude.{Option, None, Some, All, nat_lt}
use Rattle.std.proofs.lemmas.Bool.{cases_lt, false≢true, and_parts, and_from, ltb-true, false_from_ne_true}
use Rattle.std.proofs.lemmas.List.{set_comm}
use Rattle.rv_pla.specs.Cube.{IsCube}
use Rattle.rv_pla.specs.declared.cube.Cube.{Cube}
use Rattle.rv_pla.specs.declared.cube.TheConstants.{MOST_OUTPUTS}
use Rattle.rv_cube.specs.Esop.{terms_of}
use Rattle.rv_cube.specs.Reduction.{no_cube, at, reduced, are_adjacent, first_exorlink, first_merge, found_step, have_same_inputs}
use Rattle.rv_cube.specs.inside.Slots.{carries, full, list_place, is_alike, merge_in, merged_in}
use Rattle.rv_cube.specs.declared.step.Step.{Step}
use Rattle.rv_cube.specs.declared.step.Step.TheVariants.{Merge}
use Rattle.rv_gate.specs.FirstAnswer.{first}
use Rattle.rv_gate.proofs.FirstAnswer.{none_at}
use Rattle.rv_cube.proofs.Searches.{first_is, passes_some}
use Rattle.rv_cube.proofs.Reduced.{found_shorter, reduced_once}
use Rattle.rv_cube.proofs.inside.Full.{full_within, at_valid}
use Rattle.rv_cube.proofs.inside.Keys.{is_alike-self, is_alike-comm, is_alike-trans, is_alike-same_inputs}
use Rattle.rv_cube.proofs.inside.SlotSteps.{merge_first, merged_in_list}
use Rattle.rv_cube.proofs.inside.MergesIn.{merged_in_valid, merged_in_other, Stood, merged_in_stood}
use Rattle.std.proofs.lemmas.Grind.{common_steps}
use Rattle.rv_gate.proofs.Options.{none_false}

-- ---- the first slots with the same inputs

record IsFirstPair (slots : List Cube) (a b : ℕ) : Type 0 where
  order : a < b
  full_a : full slots a ≡ true
  full_b : full slots b ≡ true
  same : is_alike (at slots a) (at slots b) ≡ true
  before : (i j : ℕ) → i < a → i < j → full slots i ≡ true → full slots j ≡ true → is_alike (at slots i) (at slots j) ≡ false
  between : (j : ℕ) → a < j → j < b → full slots j ≡ true → is_alike (at slots a) (at slots j) ≡ false

abbrev is_pair : List Cube → ℕ → ℕ → Bool
is_pair slots a b = nat_lt a b && (full slots a && (full slots b && is_alike (at slots a) (at slots b)))

pair_from : (slots : List Cube) (a b : ℕ) → a < b → full slots a ≡ true → full slots b ≡ true → is_alike (at slots a) (at slots b) ≡ true → is_pair slots a b ≡ true
pair_from slots a b ab fa fb s = and_from _ _ (lt-ltb a b ab) (and_from _ _ fa (and_from _ _ fb s))

not_pair : (slots : List Cube) (a b : ℕ) → is_pair slots a b ≡ false → a < b → full slots a ≡ true → full slots b ≡ true → is_alike (at slots a) (at slots b) ≡ false
not_pair slots a b n ab fa fb = false_from_ne_true _ (λ s. false≢true (sym n ∙ pair_from slots a b ab fa fb s))

-- an answer where slot i makes a pair with a later one
abbrev paired : List Cube → ℕ → Option ℕ
paired slots i = first (λ j. cond (is_pair slots i j) (Some i) None) 0 (length slots)

first_pair : (slots : List Cube) (i j : ℕ) → i < j → full slots i ≡ true → full slots j ≡ true → is_alike (at slots i) (at slots j) ≡ true
    → (a : ℕ) × (b : ℕ) × IsFirstPair slots a b
first_pair slots i j ij fi fj s = choose (first (paired slots) 0 (length slots)) refl
  where
    none_after : (k : ℕ) → paired slots k ≡ None → (l : ℕ) → full slots l ≡ true → is_pair slots k l ≡ false
    none_after k e l f = let w = full_within slots l f in none_false _ k (none_at _ 0 (length slots) l e (omega arith) (omega arith))

    choose : (o : Option ℕ) → first (paired slots) 0 (length slots) ≡ o → (a : ℕ) × (b : ℕ) × IsFirstPair slots a b
    choose None e =
        let w = full_within slots i fi in
        absurd (false≢true (sym (none_after i (none_at (paired slots) 0 (length slots) i e (omega arith) (omega arith)) j fj) ∙ pair_from slots i j ij fi fj s))
    choose (Some x) e =
        let r = first_is (paired slots) 0 (length slots) x e in
        let c = first_is _ 0 (length slots) x r.3 in
        let p = and_parts _ _ (passes_some _ r.0 x c.3) in
        let q = and_parts _ _ p.1 in
        let t = and_parts _ _ q.1 in (
          r.0,
          c.0,
          record {
            order = ltb-true _ _ p.0;
            full_a = q.0;
            full_b = t.0;
            same = t.1;
            before = λ k l ka kl fk fl. not_pair slots k l (none_after k (r.4 k (omega arith) ka) l fl) kl fk fl;
            between = λ l al lb fl. not_pair slots r.0 l (none_false _ r.0 (c.4 l (omega arith) lb)) al q.0 fl;
          },
        )

-- ---- they become one first

first_step_merge : (n : ℕ) (cubes : List Cube) (x : Step) → first_merge (have_same_inputs n) cubes ≡ Some x → found_step n cubes ≡ Some x
unfolding found_step
first_step_merge n cubes x e = ap (λ o. option_or o (option_or (first_merge (are_adjacent n) cubes) (first_exorlink n cubes))) e

same_inputs_none : (n : ℕ) (slots : List Cube) (i j : ℕ) → All (IsCube n MOST_OUTPUTS) slots → is_alike (at slots i) (at slots j) ≡ false
    → have_same_inputs n (at slots i) (at slots j) ≡ false
same_inputs_none n slots i j all e =
    sym (is_alike-same_inputs n MOST_OUTPUTS (at slots i) (at slots j) (at_valid n MOST_OUTPUTS slots i all) (at_valid n MOST_OUTPUTS slots j all)) ∙ e

first_pair_step : (n : ℕ) (slots : List Cube) (a b : ℕ) → All (IsCube n MOST_OUTPUTS) slots → IsFirstPair slots a b
    → found_step n (terms_of slots) ≡ Some (Merge (list_place slots a) (list_place slots b))
first_pair_step n slots a b all h =
    first_step_merge n (terms_of slots) (Merge (list_place slots a) (list_place slots b))
    (merge_first (have_same_inputs n) slots a b h.order h.full_a h.full_b
    (sym (is_alike-same_inputs n MOST_OUTPUTS (at slots a) (at slots b) (at_valid n MOST_OUTPUTS slots a all) (at_valid n MOST_OUTPUTS slots b all)) ∙ h.same)
    (λ i j ia ij fi fj. same_inputs_none n slots i j all (h.before i j ia ij fi fj))
    (λ j aj jb fj. same_inputs_none n slots a j all (h.between j aj jb fj)))

first_pair_reduced : (n : ℕ) (slots : List Cube) (a b : ℕ) → All (IsCube n MOST_OUTPUTS) slots → IsFirstPair slots a b
    → reduced n (terms_of (merged_in n slots a b)) ≡ reduced n (terms_of slots)
first_pair_reduced n slots a b all h =
    ap (reduced n) (merged_in_list n slots a b h.order h.full_a h.full_b)
    ∙ reduced_once n (terms_of slots) (Merge (list_place slots a) (list_place slots b)) (first_pair_step n slots a b all h)

first_pair_shorter : (n : ℕ) (slots : List Cube) (a b : ℕ) → All (IsCube n MOST_OUTPUTS) slots → IsFirstPair slots a b
    → length (terms_of (merged_in n slots a b)) < length (terms_of slots)
first_pair_shorter n slots a b all h =
    let s = found_shorter n (terms_of slots) (Merge (list_place slots a) (list_place slots b)) (first_pair_step n slots a b all h) in
    let e = ap length (merged_in_list n slots a b h.order h.full_a h.full_b) in
    omega arith

-- ---- a pair, and later slots

-- slots i < j with the same inputs, of which no other slot before j has them
record IsNearest (slots : List Cube) (i j : ℕ) : Type 0 where
  order : i < j
  full_i : full slots i ≡ true
  full_j : full slots j ≡ true
  same : is_alike (at slots i) (at slots j) ≡ true
  only : (k : ℕ) → k < j → k ≢ i → full slots k ≡ true → is_alike (at slots k) (at slots j) ≡ true → ⊥

-- the first pair and a nearest pair that begins later
record Both (slots : List Cube) (a b i j : ℕ) : Type 0 where
  first : IsFirstPair slots a b
  nearest : IsNearest slots i j
  earlier : a < i

record AllOther (a b i j : ℕ) : Type 0 where
  a_i : a ≢ i
  a_j : a ≢ j
  b_i : b ≢ i
  b_j : b ≢ j

not_alike_a : (slots : List Cube) (a b i j : ℕ) → Both slots a b i j → is_alike (at slots a) (at slots j) ≡ true → ⊥
not_alike_a slots a b i j h s = grind arith

all_other : (slots : List Cube) (a b i j : ℕ) → Both slots a b i j → AllOther a b i j
all_other slots a b i j h =
    let l = h.earlier in
    let m = h.nearest.order in
    record {
      a_i = omega arith;
      a_j = omega arith;
      b_i = grind (arith, common_steps, not_alike_a, is_alike-trans);
      b_j = λ e. not_alike_a slots a b i j h (ap (λ k. is_alike (at slots a) (at slots k)) (sym e) ∙ h.first.same);
    }

stood_alike : (slots : List Cube) (x y : ℕ) (c d : Cube) → Stood slots x c → Stood slots y d → is_alike c d ≡ true → is_alike (at slots x) (at slots y) ≡ true
stood_alike slots x y c d hx hy s =
    is_alike-trans (at slots x) c (at slots y) (is_alike-comm c (at slots x) hx.was_alike) (is_alike-trans c d (at slots y) s hy.was_alike)

stood_apart : (slots : List Cube) (x y : ℕ) (c d : Cube) → Stood slots x c → Stood slots y d → is_alike (at slots x) (at slots y) ≡ false → is_alike c d ≡ false
stood_apart slots x y c d hx hy e = false_from_ne_true _ (λ s. false≢true (sym e ∙ stood_alike slots x y c d hx hy s))

stood_still : (slots : List Cube) (x : ℕ) (c : Cube) → c ≡ at slots x → full slots x ≡ true → Stood slots x c
stood_still slots x c e f = record { was_full = f; was_alike = ap (λ d. is_alike d (at slots x)) e ∙ is_alike-self (at slots x) }

-- the nearest pair is one after the first pair became one
nearest_stays : (n : ℕ) (slots : List Cube) (a b i j : ℕ) → Both slots a b i j → IsNearest (merged_in n slots a b) i j
nearest_stays n slots a b i j h =
    let u : List Cube = merged_in n slots a b in
    let o = all_other slots a b i j h in
    let ab = h.first.order in
    let ei : at u i ≡ at slots i = merged_in_other n slots a b i (λ e. o.a_i (sym e)) (λ e. o.b_i (sym e)) in
    let ej : at u j ≡ at slots j = merged_in_other n slots a b j (λ e. o.a_j (sym e)) (λ e. o.b_j (sym e)) in
    record {
      order = h.nearest.order;
      full_i = ap carries ei ∙ h.nearest.full_i;
      full_j = ap carries ej ∙ h.nearest.full_j;
      same = ap (λ c. is_alike c (at u j)) ei ∙ ap (is_alike (at slots i)) ej ∙ h.nearest.same;
      only = λ k kj ki fk s.
          let stood = merged_in_stood n slots a b k (omega arith) h.first.full_a h.first.full_b h.first.same fk in
          h.nearest.only k kj ki stood.was_full
          (stood_alike slots k j (at u k) (at u j) stood (stood_still slots j (at u j) ej h.nearest.full_j) s);
    }

-- the first pair is the first after the nearest pair became one
first_stays : (n : ℕ) (slots : List Cube) (a b i j : ℕ) → Both slots a b i j → IsFirstPair (merged_in n slots i j) a b
first_stays n slots a b i j h =
    let v : List Cube = merged_in n slots i j in
    let o = all_other slots a b i j h in
    let ij = h.nearest.order in
    let ea : at v a ≡ at slots a = merged_in_other n slots i j a o.a_i o.a_j in
    let eb : at v b ≡ at slots b = merged_in_other n slots i j b o.b_i o.b_j in
    let stood = λ (k : ℕ) (f : full v k ≡ true). merged_in_stood n slots i j k (omega arith) h.nearest.full_i h.nearest.full_j h.nearest.same f in
    record {
      order = h.first.order;
      full_a = ap carries ea ∙ h.first.full_a;
      full_b = ap carries eb ∙ h.first.full_b;
      same = ap (λ c. is_alike c (at v b)) ea ∙ ap (is_alike (at slots a)) eb ∙ h.first.same;
      before = λ x y xa xy fx fy.
          let sx = stood x fx in
          let sy = stood y fy in
          stood_apart slots x y (at v x) (at v y) sx sy (h.first.before x y xa xy sx.was_full sy.was_full);
      between = λ y ay yb fy.
          let sy = stood y fy in
          stood_apart slots a y (at v a) (at v y) (stood_still slots a (at v a) ea h.first.full_a) sy (h.first.between y ay yb sy.was_full);
    }

set_four : (slots : List Cube) (a b i j : ℕ) (t w : Cube) → AllOther a b i j
    → set (set (set (set slots b no_cube) a t) j no_cube) i w ≡ set (set (set (set slots j no_cube) i w) b no_cube) a t
set_four slots a b i j t w h = grind (arith, set_comm, no_cube)

-- two slots become one that are as they were
merged_in_as : (n : ℕ) (slots now : List Cube) (i j : ℕ) → at now i ≡ at slots i → at now j ≡ at slots j
    → merged_in n now i j ≡ set (set now j no_cube) i (merge_in n (at slots i) (at slots j))
merged_in_as n slots now i j ei ej =
    ap (λ c. set (set now j no_cube) i (merge_in n c (at now j))) ei ∙ ap (λ c. set (set now j no_cube) i (merge_in n (at slots i) c)) ej

merged_in_twice : (n : ℕ) (slots : List Cube) (a b i j : ℕ) → AllOther a b i j → merged_in n (merged_in n slots a b) i j ≡ merged_in n (merged_in n slots i j) a b
merged_in_twice n slots a b i j h = grind (arith, merged_in_as, merged_in, merged_in_other, set_four, merge_in)

-- ---- any order

-- a nearest pair that begins no later is the first
second_same : (slots : List Cube) (b i j : ℕ) → IsFirstPair slots i b → IsNearest slots i j → b ≡ j
second_same slots b i j f h = grind arith

nearest_first : (slots : List Cube) (a b i j : ℕ) → IsFirstPair slots a b → IsNearest slots i j → i ≤ a → IsFirstPair slots i j
nearest_first slots a b i j f h le = grind (arith, second_same)

nearest_reduced : (n m : ℕ) (slots : List Cube) (i j : ℕ) → length (terms_of slots) < m → All (IsCube n MOST_OUTPUTS) slots → IsNearest slots i j
    → reduced n (terms_of (merged_in n slots i j)) ≡ reduced n (terms_of slots)
nearest_reduced n zero slots i j few all h = absurd (omega arith)
nearest_reduced n (suc m) slots i j few all h =
    let f = first_pair slots i j h.order h.full_i h.full_j h.same in
    elim (cases_lt f.0 i) [
      | inl lt ↦
          let both : Both slots f.0 f.1 i j = record { first = f.2; nearest = h; earlier = lt } in
          let less = first_pair_shorter n slots f.0 f.1 all f.2 in
          sym (first_pair_reduced n (merged_in n slots i j) f.0 f.1 (merged_in_valid n MOST_OUTPUTS slots i j all) (first_stays n slots f.0 f.1 i j both))
          ∙ ap (λ l. reduced n (terms_of l)) (sym (merged_in_twice n slots f.0 f.1 i j (all_other slots f.0 f.1 i j both)))
          ∙ nearest_reduced n m (merged_in n slots f.0 f.1) i j (omega arith) (merged_in_valid n MOST_OUTPUTS slots f.0 f.1 all) (nearest_stays n slots f.0 f.1 i j both)
          ∙ first_pair_reduced n slots f.0 f.1 all f.2
      | inr ge ↦ first_pair_reduced n slots i j all (nearest_first slots f.0 f.1 i j f.2 h ge)
    ]

pub merges_anyway : (n : ℕ) (slots : List Cube) (i j : ℕ) → All (IsCube n MOST_OUTPUTS) slots → i < j → full slots i ≡ true → full slots j ≡ true
    → is_alike (at slots i) (at slots j) ≡ true
    → ((k : ℕ) → k < j → k ≢ i → full slots k ≡ true → is_alike (at slots k) (at slots j) ≡ true → ⊥)
    → reduced n (terms_of (merged_in n slots i j)) ≡ reduced n (terms_of slots)
merges_anyway n slots i j all ij fi fj same only = grind (arith, nearest_reduced, terms_of)
