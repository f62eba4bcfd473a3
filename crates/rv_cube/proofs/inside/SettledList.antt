-- A cube is put into a slot, and the list stays one that is reduced to the same; and so it is with one after the other.
use Rattle.std.proofs.Common.{◌≡◌, ◌≢◌, ℕ, ◌<◌, ◌≤◌, Bool, true, false, cond, List, ◌++◌, length, set, refl, sym, ◌∙◌, ap, inl, inr, arith, length-set, get_or-set_same, get_or-set_other, suc, ◌+◌, [], ◌∷◌, drop, subst, length-append, append_assoc}
use Rattle.std.specs.Prelude.{Option, None, Some, All, ◌⊎◌, nat_lt}
use Rattle.std.proofs.lemmas.List.{get_or_append_left, set-append_left, set_comm, append-nil}
use Rattle.std.proofs.lemmas.List.Elements.{All-append, All-get_or, All-drop, All-head, All-tail, All-weaker, All-push}
use Rattle.std.proofs.lemmas.Bool.{cases_eq, ltb-true, ltb-false, cond_both, cond-true}
use Rattle.rv_pla.specs.Cube.{IsCube}
use Rattle.rv_pla.specs.declared.cube.Cube.{Cube}
use Rattle.rv_pla.specs.declared.cube.TheConstants.{MOST_OUTPUTS}
use Rattle.rv_cube.specs.Esop.{terms_of, IsTerm}
use Rattle.rv_cube.specs.Reduction.{no_cube, at, reduced}
use Rattle.rv_cube.specs.inside.Slots.{carries, full, is_alike, IsKeyed, slot_of, merge_in, merged_in, merged_in_any, settled_by, settled}
use Rattle.rv_cube.proofs.inside.Full.{full_within, apart_from, valid_set, no_cube_valid, at_open, carries_some}
use Rattle.rv_cube.proofs.inside.Keys.{is_alike-self, is_alike-comm, is_alike-trans, slot_of-some}
use Rattle.rv_cube.proofs.inside.AnyOrder.{merges_anyway}
use Rattle.std.proofs.Math.ListN.{drop_of_length-le}
use Rattle.std.proofs.Math.Seq.{set-append_seam, get_or-append_seam, drop-cons}
use Rattle.rv_cube.specs.inside.Slotted.{Slotted}
use Rattle.rv_cube.proofs.inside.MergesIn.{settled_length}

-- ---- two cubes with the same inputs become one

-- the slots within a longer list, which stays the same elsewhere when slots i and j are set
abbrev Within : (List Cube → List Cube) → ℕ → ℕ → ℕ → Type 0
Within W len i j =
    (k : ℕ) → (k ≡ i) ⊎ (k ≡ j) → (l : List Cube) → length l ≡ len → (at (W l) k ≡ at l k) × ((x : Cube) → W (set l k x) ≡ set (W l) k x)

merged_in_within : (n : ℕ) (W : List Cube → List Cube) (l : List Cube) (i j : ℕ) → Within W (length l) i j → W (merged_in n l i j) ≡ merged_in n (W l) i j
merged_in_within n W l i j w =
    let wi = w i (inl refl) in
    let wj = w j (inr refl) in
    let t : Cube = merge_in n (at l i) (at l j) in
    (wi (set l j no_cube) (length-set l j no_cube)).1 t
    ∙ ap (λ x. set x i t) ((wj l refl).1 no_cube)
    ∙ ap (λ x. set (set (W l) j no_cube) i x)
    (ap (λ a. merge_in n a (at l j)) (sym (wi l refl).0) ∙ ap (merge_in n (at (W l) i)) (sym (wj l refl).0))

-- what is asked where a cube is put into slot i
pub record Settles (n : ℕ) (slots : List Cube) (i : ℕ) (cube : Cube) : Type 0 where
  pub valid : All (IsCube n MOST_OUTPUTS) slots
  pub keyed : IsKeyed slots
  pub own : IsCube n MOST_OUTPUTS cube
  pub some : carries cube ≡ true
  pub within : i < length slots
  pub empty : full slots i ≡ false

-- no third slot before both has the inputs
abbrev NoThird : List Cube → ℕ → ℕ → Cube → Type 0
NoThird u i j cube = (k : ℕ) → k ≢ i → k ≢ j → (k < i) ⊎ (k < j) → full u k ≡ true → is_alike (at u k) cube ≡ true → ⊥

pair_kept : (n : ℕ) (u : List Cube) (i j : ℕ) (cube : Cube) → All (IsCube n MOST_OUTPUTS) u → i ≢ j → full u i ≡ true → full u j ≡ true
    → is_alike (at u i) cube ≡ true → is_alike (at u j) cube ≡ true → NoThird u i j cube
    → reduced n (terms_of (merged_in_any n u i j)) ≡ reduced n (terms_of u)
pair_kept n u i j cube valid ne fi fj ai aj lone = grind (arith, cond_both, ltb-true, merges_anyway, is_alike-trans, is_alike-comm, ltb-false)

-- the same, seen in a longer list
pair_within : (n : ℕ) (W : List Cube → List Cube) (slots : List Cube) (i j : ℕ) (cube : Cube) → Settles n slots i cube → full slots j ≡ true
    → is_alike (at slots j) cube ≡ true → Within W (length slots) i j → All (IsCube n MOST_OUTPUTS) (W (set slots i cube))
    → NoThird (W (set slots i cube)) i j cube
    → reduced n (terms_of (W (merged_in_any n (set slots i cube) i j))) ≡ reduced n (terms_of (W (set slots i cube)))
pair_within n W slots i j cube h fj aj w valid lone =
    let t : List Cube = set slots i cube in
    let len : length (set slots i cube) ≡ length slots = length-set slots i cube in
    let ne : j ≢ i = apart_from slots i j h.empty fj in
    let at_i : at (W t) i ≡ cube = (w i (inl refl) t len).0 ∙ get_or-set_same slots i cube no_cube h.within in
    let at_j : at (W t) j ≡ at slots j = (w j (inr refl) t len).0 ∙ get_or-set_other slots i j cube no_cube ne in
    let wt : Within W (length t) i j = λ k o l e. w k o l (e ∙ len) in
    let wr : Within W (length t) j i = λ k o l e. w k (elim o [ inl x ↦ inr x | inr x ↦ inl x ]) l (e ∙ len) in
    let through : W (merged_in_any n t i j) ≡ merged_in_any n (W t) i j = both (nat_lt i j) (merged_in_within n W t i j wt) (merged_in_within n W t j i wr) in
    ap (λ l. reduced n (terms_of l)) through
    ∙ pair_kept n (W t) i j cube valid (λ e. ne (sym e)) (ap carries at_i ∙ h.some) (ap carries at_j ∙ fj)
    (ap (λ x. is_alike x cube) at_i ∙ is_alike-self cube) (ap (λ x. is_alike x cube) at_j ∙ aj) lone
  where
    both : (t : Bool) → {a b c d : List Cube} → W a ≡ c → W b ≡ d → W (cond t a b) ≡ cond t c d
    both true p q = p
    both false p q = q

settled_within : (n : ℕ) (W : List Cube → List Cube) (slots : List Cube) (i : ℕ) (cube : Cube) → Settles n slots i cube
    → All (IsCube n MOST_OUTPUTS) (W (set slots i cube))
    → ((j : ℕ) → full slots j ≡ true → is_alike (at slots j) cube ≡ true → j ≢ i → Within W (length slots) i j × NoThird (W (set slots i cube)) i j cube)
    → reduced n (terms_of (W (settled n slots i cube))) ≡ reduced n (terms_of (W (set slots i cube)))
settled_within n W slots i cube h valid each = choose (slot_of slots cube) refl
  where
    choose : (o : Option ℕ) → slot_of slots cube ≡ o → reduced n (terms_of (W (settled_by o n slots i cube))) ≡ reduced n (terms_of (W (set slots i cube)))
    choose None e = refl
    choose (Some j) e =
        let f = slot_of-some slots cube j e in
        let w = each j f.0 f.1 (apart_from slots i j h.empty f.0) in
        pair_within n W slots i j cube h f.0 f.1 w.0 valid w.1

-- no other full slot has the inputs of slot j
third_absent : (slots : List Cube) (cube : Cube) (i j k : ℕ) → IsKeyed slots → full slots j ≡ true → is_alike (at slots j) cube ≡ true → k ≢ j
    → full slots k ≡ true → is_alike (at slots k) cube ≡ true → ⊥
third_absent slots cube i j k keyed fj aj ne fk ak = ne (keyed k j fk fj (is_alike-trans (at slots k) cube (at slots j) ak (is_alike-comm (at slots j) cube aj)))

-- ---- the list that it makes

pub settled_kept : (n : ℕ) (slots : List Cube) (i : ℕ) (cube : Cube) → Settles n slots i cube
    → reduced n (terms_of (settled n slots i cube)) ≡ reduced n (terms_of (set slots i cube))
settled_kept n slots i cube h =
    settled_within n (λ l. l) slots i cube h (valid_set n slots i cube h.valid h.own)
    (λ j fj aj ne. (
      λ k o l e. (refl, λ x. refl),
      λ k ni nj b fk ak.
          let s : at (set slots i cube) k ≡ at slots k = get_or-set_other slots i k cube no_cube ni in
          third_absent slots cube i j k h.keyed fj aj nj (ap carries (sym s) ∙ fk) (ap (λ x. is_alike x cube) (sym s) ∙ ak),
    ))

-- with more cubes after them
pub settled_before : (n : ℕ) (slots : List Cube) (i : ℕ) (cube : Cube) (rest : List Cube) → Settles n slots i cube → All (IsCube n MOST_OUTPUTS) rest
    → reduced n (terms_of (settled n slots i cube ++ rest)) ≡ reduced n (terms_of (set slots i cube ++ rest))
settled_before n slots i cube rest h valid =
    let len : length (set slots i cube) ≡ length slots = length-set slots i cube in
    let within = h.within in
    settled_within n (λ l. l ++ rest) slots i cube h
    (All-append (IsCube n MOST_OUTPUTS) (set slots i cube) rest (valid_set n slots i cube h.valid h.own) valid)
    (λ j fj aj ne.
    let lj : j < length slots = full_within slots j fj in (
      λ k o l e.
          let lk : k < length l = elim o [ inl x ↦ omega arith | inr x ↦ omega arith ] in
          (get_or_append_left l rest no_cube k lk, λ x. sym (set-append_left l rest k x lk)),
      λ k ni nj b fk ak.
          let lk : k < length (set slots i cube) = elim b [ inl x ↦ omega arith | inr x ↦ omega arith ] in
          let s : at (set slots i cube ++ rest) k ≡ at slots k = get_or_append_left (set slots i cube) rest no_cube k lk ∙ get_or-set_other slots i k cube no_cube ni in
          third_absent slots cube i j k h.keyed fj aj nj (ap carries (sym s) ∙ fk) (ap (λ x. is_alike x cube) (sym s) ∙ ak),
    ))

-- with a cube of other inputs in another slot
pub settled_beside : (n : ℕ) (slots : List Cube) (i k : ℕ) (cube other : Cube) → Settles n slots i cube → k < length slots → k ≢ i → full slots k ≡ false
    → IsCube n MOST_OUTPUTS other → (is_alike other cube ≡ true → ⊥)
    → reduced n (terms_of (set (settled n slots i cube) k other)) ≡ reduced n (terms_of (set (set slots i cube) k other))
settled_beside n slots i k cube other h lk ki empty own differing =
    let t : List Cube = set slots i cube in
    let len : length (set slots i cube) ≡ length slots = length-set slots i cube in
    settled_within n (λ l. set l k other) slots i cube h (valid_set n t k other (valid_set n slots i cube h.valid h.own) own)
    (λ j fj aj ne.
    let kj : j ≢ k = apart_from slots k j empty fj in (
      λ m o l e.
          let mk : m ≢ k = elim o [ inl x ↦ (λ y. ki (sym y ∙ x)) | inr x ↦ (λ y. kj (sym x ∙ y)) ] in
          (get_or-set_other l k m other no_cube mk, λ x. set_comm l m k x other mk),
      λ m ni nj b fm am. elim (cases_eq m k) [
        | inl s ↦
            let c : at (set t k other) m ≡ other = ap (at (set t k other)) s ∙ get_or-set_same t k other no_cube (omega arith) in
            differing (ap (λ x. is_alike x cube) (sym c) ∙ am)
        | inr nk ↦
            let c : at (set t k other) m ≡ at slots m = get_or-set_other t k m other no_cube nk ∙ get_or-set_other slots i m cube no_cube ni in
            third_absent slots cube i j m h.keyed fj aj nj (ap carries (sym c) ∙ fm) (ap (λ x. is_alike x cube) (sym c) ∙ am)
      ],
    ))

keyed_more : (slots : List Cube) → IsKeyed slots → IsKeyed (slots ++ no_cube ∷ [])
keyed_more slots h p q fp fq e = grind (arith, at_open)

filled : (n : ℕ) (slots : List Cube) (cube : Cube) (rest : List Cube) → All (IsCube n MOST_OUTPUTS) slots → IsKeyed slots → IsTerm n MOST_OUTPUTS cube
    → All (IsCube n MOST_OUTPUTS) rest
    → reduced n (terms_of (settled n (slots ++ no_cube ∷ []) (length slots) cube ++ rest)) ≡ reduced n (terms_of (slots ++ cube ∷ rest))
filled n slots cube rest valid keyed own others =
    let V : Cube → Type 0 = IsCube n MOST_OUTPUTS in
    let one : List Cube = slots ++ no_cube ∷ [] in
    settled_before n one (length slots) cube rest
    (record {
      valid = All-push V slots no_cube valid (no_cube_valid n MOST_OUTPUTS);
      keyed = keyed_more slots keyed;
      own = own.is_cube;
      some = carries_some cube own.some;
      within = let l = length-append slots (no_cube ∷ []) in omega arith;
      empty = ap carries (get_or-append_seam slots no_cube [] no_cube);
    })
    others
    ∙ ap (λ l. reduced n (terms_of (l ++ rest))) (set-append_seam slots no_cube [] cube)
    ∙ ap (λ l. reduced n (terms_of l)) (append_assoc slots (cube ∷ []) rest)

-- each term is kept
terms_of-terms : (n : ℕ) (cubes : List Cube) → All (IsTerm n MOST_OUTPUTS) cubes → terms_of cubes ≡ cubes
terms_of-terms n [] all = refl
terms_of-terms n (x ∷ xs) all =
    cond-true (carries x) (x ∷ terms_of xs) (terms_of xs) (carries_some x (All-head (IsTerm n MOST_OUTPUTS) x xs all).some)
    ∙ ap (λ l. x ∷ l) (terms_of-terms n xs (All-tail (IsTerm n MOST_OUTPUTS) x xs all))

-- the slots hold the first i cubes
pub record Fills (n : ℕ) (cubes : List Cube) (i : ℕ) (slots : Slotted) : Type 0 where
  pub same : slots.inputs ≡ n
  pub as_many : length slots.cubes ≡ i
  pub kept : reduced n (terms_of (slots.cubes ++ drop i cubes)) ≡ reduced n cubes

pub fills_none : (n : ℕ) (cubes : List Cube) (slots : Slotted) → All (IsTerm n MOST_OUTPUTS) cubes → slots ≡ record { inputs = n; cubes = [] }
    → Fills n cubes 0 slots
fills_none n cubes slots all e =
    let P : Slotted → Type 0 = Fills n cubes 0 in
    subst P (sym e) (record { same = refl; as_many = refl; kept = ap (reduced n) (terms_of-terms n cubes all) })

pub fills_more : (n : ℕ) (cubes : List Cube) (i slot : ℕ) (cube : Cube) (old one new : Slotted) → All (IsTerm n MOST_OUTPUTS) cubes → i < length cubes
    → Fills n cubes i old → All (IsCube old.inputs MOST_OUTPUTS) old.cubes → IsKeyed old.cubes → cube ≡ at cubes i
    → slot ≡ length old.cubes → one ≡ record old { cubes = old.cubes ++ no_cube ∷ [] }
    → new ≡ record one { cubes = settled one.inputs one.cubes slot cube } → Fills n cubes (i + 1) new
fills_more n cubes i slot cube old one new all lt h valid keyed e last e1 e2 =
    let P : Slotted → Type 0 = Fills n cubes (i + 1) in
    let Q : Slotted → Type 0 = λ v. Fills n cubes (i + 1) (record v { cubes = settled v.inputs v.cubes slot cube }) in
    let V : ℕ → Type 0 = λ m. All (IsCube m MOST_OUTPUTS) old.cubes in
    let S : ℕ → Type 0 = λ m. reduced n (terms_of (settled m (old.cubes ++ no_cube ∷ []) slot cube ++ drop (i + 1) cubes)) ≡ reduced n cubes in
    let own : IsTerm n MOST_OUTPUTS cube = subst (IsTerm n MOST_OUTPUTS) (sym e) (All-get_or (IsTerm n MOST_OUTPUTS) cubes i no_cube lt all) in
    let many = h.as_many in
    let l = length-append old.cubes (no_cube ∷ []) in
    let next : suc i ≡ i + 1 = omega arith in
    let more : drop i cubes ≡ cube ∷ drop (i + 1) cubes = drop-cons cubes i no_cube lt ∙ ap (λ x. x ∷ drop (suc i) cubes) (sym e) ∙ ap (λ j. cube ∷ drop j cubes) next in
    let kept : reduced n (terms_of (settled n (old.cubes ++ no_cube ∷ []) slot cube ++ drop (i + 1) cubes)) ≡ reduced n cubes =
    ap (λ k. reduced n (terms_of (settled n (old.cubes ++ no_cube ∷ []) k cube ++ drop (i + 1) cubes))) last
    ∙ filled n old.cubes cube (drop (i + 1) cubes) (subst V h.same valid) keyed own
    (All-weaker (IsTerm n MOST_OUTPUTS) (IsCube n MOST_OUTPUTS) (λ x t. t.is_cube) (drop (i + 1) cubes) (All-drop (IsTerm n MOST_OUTPUTS) (i + 1) cubes all))
    ∙ ap (λ x. reduced n (terms_of (old.cubes ++ x))) (sym more)
    ∙ h.kept in
    let len = settled_length old.inputs (old.cubes ++ no_cube ∷ []) slot cube in
    subst P (sym e2) (subst Q (sym e1) (record { same = h.same; as_many = omega arith; kept = subst S (sym h.same) kept }))

pub fills_all : (n : ℕ) (cubes : List Cube) (i : ℕ) (slots : Slotted) → Fills n cubes i slots → length cubes ≤ i
    → reduced n (terms_of slots.cubes) ≡ reduced n cubes
fills_all n cubes i slots h all = grind (arith, terms_of, drop_of_length-le, append-nil)
