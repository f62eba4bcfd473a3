-- What an exorlink of two slots is.
use Rattle.std.proofs.Common.{◌≡◌, ◌≢◌, ℕ, ◌<◌, Bool, true, false, cond, List, length, refl, sym, ◌∙◌, arith, ◌∷◌, []}
use Rattle.std.specs.Prelude.{None, Some, ◌⊎◌, bit_xor}
use Rattle.std.proofs.lemmas.Bool.{cases_eq, eqb-true, not-true}
use Rattle.rv_pla.specs.Cube.{Symbol, symbol}
use Rattle.rv_pla.specs.declared.cube.Cube.{Cube}
use Rattle.rv_pla.specs.declared.cube.TheConstants.{MOST_OUTPUTS}
use Rattle.rv_cube.specs.Distance.{is_same, differing, third, with_third}
use Rattle.rv_cube.specs.Reduction.{at, merge_by, partner_at}
use Rattle.rv_cube.specs.inside.Slots.{carries, full, is_alike, or_empty, merge_in, IsPartner, partner_in_at, partner_in, form_in, exorlink_in_by, exorlink_in}
use Rattle.rv_cube.specs.inside.Reducing.{DifferAt}
use Rattle.rv_cube.specs.declared.step.Step.{Step}
use Rattle.rv_cube.specs.declared.step.Step.TheVariants.{Merge, Exorlink}
use Rattle.rv_cube.proofs.Symbols.{symbol_with-same, symbol_with-other}
use Rattle.rv_cube.proofs.inside.Differing.{differs-comm, IsDiffering, differing_is, differ_not, is_same-comm}
use Rattle.rv_cube.proofs.inside.Merges.{Mergeable}
use Rattle.rv_cube.proofs.Exorlinks.{IsForm, form_1, form_2}
use Rattle.rv_cube.proofs.Searches.{Finds, finds_else, finds_first, finds_none, finds_if, finds_cond}
use Rattle.rv_cube.proofs.inside.Keys.{alike_symbols}
use Rattle.rv_cube.proofs.inside.PartnerSearches.{test_partner}

-- the slots a and b are exorlinked as f and s, and the one of these at `place`, which is `cube`, has a partner
pub record IsExorlinkIn (n : ℕ) (slots : List Cube) (a b : ℕ) (f s : Cube) (place : ℕ) (cube : Cube) (c : ℕ) : Type 0 where
  pub form : IsForm n MOST_OUTPUTS (at slots a) (at slots b) f s
  pub far : (p : ℕ) × (q : ℕ) × DifferAt n f s p q
  pub which : ((place ≡ a) × (cube ≡ f)) ⊎ ((place ≡ b) × (cube ≡ s))
  pub partner : IsPartner n slots a b cube c

abbrev pub ExorlinksIn : ℕ → List Cube → ℕ → ℕ → Step → Type 0
ExorlinksIn n slots a b (Merge i j) = ⊥
ExorlinksIn n slots a b (Exorlink i j f s place c) = (i ≡ a) × (j ≡ b) × (cube : Cube) × IsExorlinkIn n slots a b f s place cube c

partner_is : (n : ℕ) (slots : List Cube) (a b : ℕ) (f s : Cube) (place : ℕ) (cube : Cube) → IsForm n MOST_OUTPUTS (at slots a) (at slots b) f s
    → (p : ℕ) × (q : ℕ) × DifferAt n f s p q → ((place ≡ a) × (cube ≡ f)) ⊎ ((place ≡ b) × (cube ≡ s))
    → Finds (ExorlinksIn n slots a b) (partner_in n slots a b f s place cube)
partner_is n slots a b f s place cube form far which =
    finds_first (ExorlinksIn n slots a b) (partner_in_at n slots a b f s place cube) 0 (length slots)
    (λ c l u. finds_cond (ExorlinksIn n slots a b) (full slots c) (partner_at n slots a b f s place cube c)
    (λ fc. finds_if (ExorlinksIn n slots a b) _ (Exorlink a b f s place c)
    (λ e. (refl, refl, cube, record { form = form; far = far; which = which; partner = test_partner n slots a b cube c fc e }))))

form_is : (n : ℕ) (slots : List Cube) (a b : ℕ) (f s : Cube) → IsForm n MOST_OUTPUTS (at slots a) (at slots b) f s
    → (p : ℕ) × (q : ℕ) × DifferAt n f s p q → Finds (ExorlinksIn n slots a b) (form_in n slots a b f s)
form_is n slots a b f s form far = grind (arith, finds_else, partner_is)

third-left : (s t : Symbol) → is_same s t ≡ false → is_same (third s t) t ≡ false
third-left s t h = grind arith

third-right : (s t : Symbol) → is_same s t ≡ false → is_same s (third t s) ≡ false
third-right s t h = is_same-comm s (third t s) ∙ third-left t s (is_same-comm t s ∙ h)

-- the cubes of a form differ in both inputs
form_far : (n : ℕ) (x y : Cube) (p q : ℕ) → IsDiffering x y n (p ∷ q ∷ []) → DifferAt n (with_third x y p) (with_third y x q) p q
unfolding with_third
form_far n x y p q is = grind (arith, not-true, symbol_with-same, symbol_with-other, third-left, third-right)

exorlinked_in_by : (n : ℕ) (slots : List Cube) (a b : ℕ) (x : List ℕ) → (at slots a).outs ≡ (at slots b).outs → IsDiffering (at slots a) (at slots b) n x
    → Finds (ExorlinksIn n slots a b) (exorlink_in_by x n slots a b (at slots a) (at slots b))
exorlinked_in_by n slots a b (p ∷ q ∷ []) o is =
    let x : Cube = at slots a in
    let y : Cube = at slots b in
    let back : IsDiffering y x n (p ∷ q ∷ []) = (is.0, is.1, differs-comm y x p ∙ is.2, differs-comm y x q ∙ is.3, λ i l np nq. sym (is.4 i l np nq)) in
    finds_else (ExorlinksIn n slots a b) _ _
    (form_is n slots a b _ _ (form_1 n MOST_OUTPUTS x y p q is o) (p, q, form_far n x y p q is))
    (form_is n slots a b _ _ (form_2 n MOST_OUTPUTS x y p q is o) (p, q, form_far n y x p q back))
exorlinked_in_by n slots a b v o is = finds_none (ExorlinksIn n slots a b)

pub exorlink_in_is : (n : ℕ) (slots : List Cube) (a b : ℕ) → Finds (ExorlinksIn n slots a b) (exorlink_in n slots a b)
exorlink_in_is n slots a b = grind (arith, finds_cond, exorlinked_in_by, eqb-true, differing_is)

-- ---- what a cube and its partner become has other inputs than a cube that differs from it in two

-- at one of p and q it has the cube's symbol
far_from : (n : ℕ) (x other z : Cube) (p q r : ℕ) → DifferAt n x other p q → ((i : ℕ) → i < n → i ≢ r → symbol z i ≡ symbol x i) → is_alike z other ≡ true → ⊥
far_from n x other z p q r far same e = grind (arith, cases_eq, differ_not, alike_symbols)

xor_symbols : (x y : Cube) (t : Bool) (i : ℕ) → carries (or_empty (cond t None (Some (record x { outs = bit_xor x.outs y.outs })))) ≡ true
    → symbol (or_empty (cond t None (Some (record x { outs = bit_xor x.outs y.outs })))) i ≡ symbol x i
xor_symbols x y t i h = grind arith

-- the inputs but one are those of both
merge_in_by_symbols : (n : ℕ) (x y : Cube) (a : List ℕ) → IsDiffering x y n a → Mergeable x y a → carries (or_empty (merge_by a x y)) ≡ true
    → (r : ℕ) × ((i : ℕ) → i < n → i ≢ r → (symbol (or_empty (merge_by a x y)) i ≡ symbol x i) × (symbol x i ≡ symbol y i))
unfolding with_third
merge_in_by_symbols n x y [] is j c = (n, λ i l ne. (xor_symbols x y _ i c, is i l))
merge_in_by_symbols n x y (p ∷ []) is j c = (p, λ i l ne. (symbol_with-other x p i (third (symbol x p) (symbol y p)) ne, is.2 i l ne))
merge_in_by_symbols n x y (p ∷ q ∷ []) is j c = absurd j
merge_in_by_symbols n x y (p ∷ q ∷ r ∷ rest) is j c = absurd j

pub merge_in_far : (n : ℕ) (x y other : Cube) (p q : ℕ) → DifferAt n x other p q → Mergeable x y (differing n x y)
    → carries (merge_in n x y) ≡ true → is_alike (merge_in n x y) other ≡ true → ⊥
merge_in_far n x y other p q far j c e =
    let h = merge_in_by_symbols n x y (differing n x y) (differing_is n x y) j c in
    far_from n x other (merge_in n x y) p q h.0 far (λ i l ne. (h.1 i l ne).0) e

pub merge_in_far-other : (n : ℕ) (x y other : Cube) (p q : ℕ) → DifferAt n x other p q → Mergeable y x (differing n y x)
    → carries (merge_in n y x) ≡ true → is_alike (merge_in n y x) other ≡ true → ⊥
merge_in_far-other n x y other p q far j c e =
    let h = merge_in_by_symbols n y x (differing n y x) (differing_is n y x) j c in
    far_from n x other (merge_in n y x) p q h.0 far (λ i l ne. (h.1 i l ne).0 ∙ (h.1 i l ne).1) e
