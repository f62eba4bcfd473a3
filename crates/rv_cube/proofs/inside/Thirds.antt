-- The pairs to which a third cube may bring an exorlink.
use Rattle.std.proofs.Common.{◌≡◌, ◌≢◌, ℕ, ◌<◌, true, false, List, [], ◌∷◌, refl, sym, ◌∙◌, ap, subst, inl, inr, arith}
use Rattle.std.specs.Prelude.{◌⊎◌, All}
use Rattle.std.proofs.lemmas.Bool.{cases_eq, cases_Bool, not-true}
use Rattle.rv_pla.specs.Cube.{Symbol, symbol, IsCube}
use Rattle.rv_pla.specs.declared.cube.Cube.{Cube}
use Rattle.rv_pla.specs.declared.cube.TheConstants.{MOST_OUTPUTS}
use Rattle.rv_cube.specs.Distance.{is_same, differs, differing, third, with_symbol, with_third}
use Rattle.rv_cube.specs.Reduction.{at, can_merge}
use Rattle.rv_cube.specs.inside.Slots.{full, is_alike, IsKeyed}
use Rattle.rv_cube.specs.inside.Slotted.{IsBeside, IsTwoApart}
use Rattle.rv_cube.specs.inside.Watching.{lower, IsLinkAcross, IsLinkFrom, IsThirdBy, IsThird}
use Rattle.rv_cube.proofs.Symbols.{symbol_with-same, symbol_with-other}
use Rattle.rv_cube.specs.Settled.{DifferInTwo}
use Rattle.rv_cube.proofs.inside.Differing.{is_same-self, differs-not, IsDiffering, differing_is, differ_not, not_three, differs-true}
use Rattle.rv_cube.proofs.inside.Merges.{Mergeable, can_merge_Mergeable, with_third-outs}
use Rattle.rv_cube.proofs.inside.Full.{at_valid}
use Rattle.rv_cube.proofs.inside.Keys.{symbols_alike}
use Rattle.rv_cube.proofs.inside.Listing.{two_at}

third_apart : (s t : Symbol) → is_same s t ≡ false → is_same s (third s t) ≡ false
third_apart s t h = grind arith

third_third : (s t : Symbol) → is_same s t ≡ false → third s (third s t) ≡ t
third_third s t h = grind arith

with_third-same : (x y : Cube) (p : ℕ) → symbol (with_third x y p) p ≡ third (symbol x p) (symbol y p)
unfolding with_third
with_third-same x y p = symbol_with-same x p (third (symbol x p) (symbol y p))

with_third-other : (x y : Cube) (p i : ℕ) → i ≢ p → symbol (with_third x y p) i ≡ symbol x i
unfolding with_third
with_third-other x y p i ne = symbol_with-other x p i (third (symbol x p) (symbol y p)) ne

-- ---- a form that can merge with a cube

-- they differ in one input at most, and have the same outputs if it is not u
record Meets (n u : ℕ) (f s : Cube) : Type 0 where
  input : ℕ
  same : (i : ℕ) → i < n → i ≢ input → symbol f i ≡ symbol s i
  outs : (input ≡ u) ⊎ (f.outs ≡ s.outs)

meets_by : (n u : ℕ) (f s : Cube) (r : List ℕ) → IsDiffering f s n r → Mergeable f s r → Meets n u f s
meets_by n u f s [] is j = record { input = u; same = λ i l ne. is i l; outs = inl refl }
meets_by n u f s (p ∷ []) is j = record { input = p; same = λ i l ne. is.2 i l ne; outs = inr j }
meets_by n u f s (p ∷ q ∷ []) is j = absurd j
meets_by n u f s (p ∷ q ∷ r ∷ rest) is j = absurd j

meets : (n u : ℕ) (f s : Cube) → can_merge n f s ≡ true → Meets n u f s
meets n u f s h = meets_by n u f s (differing n f s) (differing_is n f s) (can_merge_Mergeable n f s h)

-- the form of e that has its third symbol with g in u meets s
record MeetsForm (n : ℕ) (s e g : Cube) (u : ℕ) : Type 0 where
  u_in : u < n
  turned : differs e g u ≡ true
  by : Meets n u (with_third e g u) s

form_same : (n : ℕ) (s e g : Cube) (u : ℕ) (m : MeetsForm n s e g u) (i : ℕ) → i < n → i ≢ u → i ≢ m.by.input → symbol s i ≡ symbol e i
form_same n s e g u m i l nu ni = sym (m.by.same i l ni) ∙ with_third-other e g u i nu

-- a cube with the symbol of e in u, then, has the inputs of e
form_input : (n : ℕ) (s e g : Cube) (u : ℕ) (m : MeetsForm n s e g u) → symbol s u ≡ symbol e u → m.by.input ≡ u
form_input n s e g u m h = grind (arith, cases_eq, with_third-same, third_apart, not-true, is_same, is_same-self)

form_apart : (n : ℕ) (s e g : Cube) (u : ℕ) → IsCube n MOST_OUTPUTS s → IsCube n MOST_OUTPUTS e → MeetsForm n s e g u → (is_alike s e ≡ true → ⊥) → differs s e u ≡ true
form_apart n s e g u vs ve m apart =
    elim (cases_Bool (differs s e u)) [
      | inl on ↦ on
      | inr off ↦
          let same = differs-not s e u off in
          let iu = form_input n s e g u m same in
          absurd (apart (symbols_alike n MOST_OUTPUTS s e vs ve (λ i l. elim (cases_eq i u) [
            | inl x ↦ rw x same
            | inr ne ↦ form_same n s e g u m i l ne (λ x. ne (x ∙ iu))
          ])))
    ]

-- two inputs in which s and e differ are u and the one in which s and the form differ
form_two : (n : ℕ) (s e g : Cube) (u p q : ℕ) → MeetsForm n s e g u → IsDiffering s e n (p ∷ q ∷ [])
    → (s.outs ≡ e.outs) × (symbol s u ≡ third (symbol e u) (symbol g u))
form_two n s e g u p q m is =
    let pq = is.0 in
    let qn = is.1 in
    let other : m.by.input ≡ u → ⊥ = λ iu. elim (cases_eq p u) [
      | inl pu ↦ let ne : q ≢ u = omega arith in differ_not s e q is.3 (form_same n s e g u m q qn ne (λ x. ne (x ∙ iu)))
      | inr ne ↦ differ_not s e p is.2 (form_same n s e g u m p (omega arith) ne (λ x. ne (x ∙ iu)))
    ] in (
      elim m.by.outs [ inr o ↦ sym o ∙ with_third-outs e g u | inl iu ↦ absurd (other iu) ],
      sym (m.by.same u m.u_in (λ x. other (sym x))) ∙ with_third-same e g u,
    )

-- e with the third of its symbol and that of s in u has the symbol of g
form_turned : (s e g : Cube) (u : ℕ) → differs e g u ≡ true → symbol s u ≡ third (symbol e u) (symbol g u) → with_third e s u ≡ with_symbol e u (symbol g u)
unfolding with_third
form_turned s e g u d h = ap (with_symbol e u) (ap (third (symbol e u)) h ∙ third_third (symbol e u) (symbol g u) (not-true _ d))

third_by : (n : ℕ) (slots : List Cube) (k e g u w : ℕ) (r : List ℕ) → MeetsForm n (at slots k) (at slots e) (at slots g) u
    → IsDiffering (at slots k) (at slots e) n r → differs (at slots k) (at slots e) u ≡ true
    → w < n → full slots g ≡ true → IsTwoApart slots (at slots e) u w g → (at slots e).outs ≡ (at slots g).outs → IsThirdBy r n slots k e (lower e g)
third_by n slots k e g u w [] m is d wn fg x o = differ_not (at slots k) (at slots e) u d (is u m.u_in)
third_by n slots k e g u w (p ∷ []) m is d wn fg x o =
    elim (cases_eq u p) [
      | inl same ↦ subst (λ i. IsLinkFrom slots e i n (lower e g)) same (w, wn, (g, fg, x, (o, refl)))
      | inr ne ↦ absurd (differ_not (at slots k) (at slots e) u d (is.2 u m.u_in ne))
    ]
third_by n slots k e g u w (p ∷ q ∷ []) m is d wn fg x o =
    let s : Cube = at slots k in
    let y : Cube = at slots e in
    let f = form_two n s y (at slots g) u p q m is in
    let B : Cube → Type 0 = λ c. IsBeside slots c w g in
    let A : ℕ → Type 0 = λ i. IsLinkAcross slots e (with_third y s i) n (lower e g) in
    let link : A u = (w, wn, (g, fg, subst B (sym (form_turned s y (at slots g) u m.turned f.1)) x.1, (o, refl))) in (
      f.0,
      elim (cases_eq u p) [
        | inl same ↦ inl (subst A same link)
        | inr np ↦ (elim (cases_eq u q) [ inl same ↦ inr (subst A same link) | inr nq ↦ absurd (differ_not s y u d (is.4 u m.u_in np nq)) ])
      ],
    )
third_by n slots k e g u w (p ∷ q ∷ r ∷ rest) m is d wn fg x o =
    absurd (not_three n (at slots k) (at slots e) u m.by.input p q r rest (form_same n (at slots k) (at slots e) (at slots g) u m) is)

pub third_linked : (n : ℕ) (slots : List Cube) (k e g u w : ℕ) → All (IsCube n MOST_OUTPUTS) slots → IsKeyed slots → e ≢ k
    → full slots k ≡ true → full slots e ≡ true → full slots g ≡ true → (at slots e).outs ≡ (at slots g).outs
    → DifferInTwo n (at slots e) (at slots g) u w → can_merge n (with_third (at slots e) (at slots g) u) (at slots k) ≡ true
    → IsThird n slots k e (lower e g)
third_linked n slots k e g u w all keyed ne fk fe fg o d h =
    let s : Cube = at slots k in
    let x : Cube = at slots e in
    let y : Cube = at slots g in
    let m : MeetsForm n s x y u = record { u_in = d.first; turned = differs-true x y u d.differ_first; by = meets n u (with_third x y u) s h } in
    let far : differs s x u ≡ true =
    form_apart n s x y u (at_valid n MOST_OUTPUTS slots k all) (at_valid n MOST_OUTPUTS slots e all) m (λ a. ne (sym (keyed k e fk fe a))) in
    third_by n slots k e g u w (differing n s x) m (differing_is n s x) far d.second fg
    (two_at n slots x g u w all (at_valid n MOST_OUTPUTS slots e all) d) o
