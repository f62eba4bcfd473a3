-- The least partner of a cube is among the slots with the inputs of its neighbours.
use Rattle.std.proofs.Common.{◌≡◌, ℕ, ◌+◌, ◌<◌, ◌≤◌, Bool, true, cond, eqb, List, refl, sym, ◌∙◌, ap, inl, inr, arith, eq-eqb, ◌∷◌, [], length}
use Rattle.std.specs.Prelude.{Option, None, Some, nat_lt, ◌⊎◌, All}
use Rattle.std.proofs.lemmas.Bool.{false≢true, ltb-true, ltb-false, eqb-true, and_parts, and_from, or_cases, or_left, or_right}
use Rattle.std.proofs.lemmas.Option.{none-some}
use Rattle.rv_pla.specs.Cube.{symbol, IsCube}
use Rattle.rv_pla.specs.declared.cube.Cube.{Cube}
use Rattle.rv_pla.specs.declared.cube.TheConstants.{MOST_OUTPUTS}
use Rattle.rv_cube.specs.Distance.{differing, with_symbol, third, with_third}
use Rattle.rv_cube.specs.Reduction.{at, are_adjacent, have_same_inputs}
use Rattle.rv_cube.specs.inside.Slots.{IsPartner, key_of}
use Rattle.rv_cube.specs.inside.Slotted.{turn, Noted, IsLesser, IsLeast, IsOnly, least_of, IsTwin, IsEqual, IsNeighbour, IsPartnerBelow}
use Rattle.rv_cube.proofs.inside.Differing.{differing_as}
use Rattle.rv_cube.proofs.inside.Full.{at_valid}
use Rattle.rv_cube.proofs.inside.Keys.{alike_same_inputs, same_inputs_alike}
use Rattle.rv_cube.proofs.inside.Noting.{alike_key, key_alike}
use Rattle.rv_cube.proofs.inside.Neighbours.{turn_other, third_other, third_turn, neighbour_differing, partner_key, beside_either}
use Rattle.std.proofs.lemmas.Grind.{common_steps}

-- ---- the least of two

least_same : (P Q : ℕ → Type 0) (o : Option ℕ) → ((c : ℕ) → P c → Q c) → ((c : ℕ) → Q c → P c) → IsLeast P o → IsLeast Q o
least_same P Q o h h2 h3 = grind arith

only_least : (P : ℕ → Type 0) (o : Option ℕ) → IsOnly P o → IsLeast P o
only_least P o h = grind arith

least_choice : (P Q : ℕ → Type 0) (a b : ℕ) (t : Bool) → nat_lt b a ≡ t → P a → Q b → ((d : ℕ) → P d → a ≤ d) → ((d : ℕ) → Q d → b ≤ d)
    → IsLeast (λ c. P c ⊎ Q c) (cond t (Some b) (Some a))
least_choice P Q a b t h h2 h3 h4 h5 = grind (arith, ltb-true, ltb-false)

least_or : (P Q : ℕ → Type 0) (o p : Option ℕ) → IsLeast P o → IsLeast Q p → IsLeast (λ c. P c ⊎ Q c) (least_of o p)
least_or P Q o p h h2 = grind (arith, least_choice)

pub least_none : (o : Option ℕ) → least_of o None ≡ o
least_none o = grind arith

least_order_by : (a b c : ℕ) (t u v : Bool) → nat_lt b a ≡ t → nat_lt c b ≡ u → nat_lt c a ≡ v
    → least_of (cond t (Some b) (Some a)) (Some c) ≡ least_of (Some a) (cond u (Some c) (Some b))
least_order_by a b c t u v h h2 h3 = grind (arith, ltb-true, ltb-false)

least_order : (o p q : Option ℕ) → least_of (least_of o p) q ≡ least_of o (least_of p q)
least_order o p q = grind (arith, least_none, least_order_by)

-- of two that one after the other may be lesser
pub lesser_both : (P Q : Option ℕ → Type 0) (R : Option ℕ → Type 0) (o mid new : Option ℕ) → ((p q : Option ℕ) → P p → Q q → R (least_of p q))
    → IsLesser P o mid → IsLesser Q mid new → IsLesser R o new
lesser_both P Q R o mid new f h k =
    (least_of h.0 k.0, k.1 ∙ ap (λ m. least_of m k.0) h.1 ∙ least_order o h.0 k.0, f h.0 k.0 h.2 k.2)

-- ---- a key that leads nowhere

pub lesser_none : (find : ℕ × ℕ → Option ℕ) (slots : List Cube) (a b : ℕ) (cube : Cube) (best : Option ℕ) → Noted find slots → find (key_of cube) ≡ None
    → IsLesser (IsOnly (IsEqual slots a b cube)) best best
lesser_none find slots a b cube best h e =
    (None, sym (least_none best), λ c x. none-some c (sym e ∙ ap find (sym x.0.1) ∙ h.complete c x.0.0.stands))

-- ---- the neighbours at one input

equal_neighbour : (n : ℕ) (slots : List Cube) (a b : ℕ) (cube one other : Cube) (p c : ℕ) → p < n → one ≡ with_symbol cube p (turn (symbol cube p)) → other ≡ with_third cube one p
    → IsEqual slots a b one c ⊎ IsEqual slots a b other c → IsNeighbour n slots a b cube p c
equal_neighbour n slots a b cube one other p c l e f (inl x) =
    (x.0.0, x.1 ∙ ap (λ (y : Cube). y.outs) e, neighbour_differing n p cube (at slots c) (turn (symbol cube p)) l (turn_other (symbol cube p)) (x.0.1 ∙ ap key_of e))
equal_neighbour n slots a b cube one other p c l e f (inr x) =
    let g = f ∙ third_turn cube one p e in
    (x.0.0, x.1 ∙ ap (λ (y : Cube). y.outs) g, neighbour_differing n p cube (at slots c) (third (symbol cube p) (turn (symbol cube p))) l (third_other (symbol cube p)) (x.0.1 ∙ ap key_of g))

neighbour_equal : (n : ℕ) (slots : List Cube) (a b : ℕ) (cube one other : Cube) (p c : ℕ) → All (IsCube n MOST_OUTPUTS) slots → IsCube n MOST_OUTPUTS cube
    → one ≡ with_symbol cube p (turn (symbol cube p)) → other ≡ with_third cube one p
    → IsNeighbour n slots a b cube p c → IsEqual slots a b one c ⊎ IsEqual slots a b other c
neighbour_equal n slots a b cube one other p c all own e f x =
    let k = partner_key n MOST_OUTPUTS cube (at slots c) p own (at_valid n MOST_OUTPUTS slots c all) x.2 in
    elim (beside_either cube (at slots c) one other p e f k.0 k.1) [
      | inl y ↦ inl ((x.0, y), x.1 ∙ ap (λ (z : Cube). z.outs) (sym e))
      | inr y ↦ inr ((x.0, y), x.1 ∙ ap (λ (z : Cube). z.outs) (sym (f ∙ third_turn cube one p e)))
    ]

pub least_neighbour : (n : ℕ) (slots : List Cube) (a b : ℕ) (cube one other : Cube) (p : ℕ) (o q : Option ℕ) → p < n → All (IsCube n MOST_OUTPUTS) slots → IsCube n MOST_OUTPUTS cube
    → one ≡ with_symbol cube p (turn (symbol cube p)) → other ≡ with_third cube one p
    → IsOnly (IsEqual slots a b one) o → IsOnly (IsEqual slots a b other) q → IsLeast (IsNeighbour n slots a b cube p) (least_of o q)
least_neighbour n slots a b cube one other p o q l all own e f h k =
    let P : ℕ → Type 0 = IsEqual slots a b one in
    let Q : ℕ → Type 0 = IsEqual slots a b other in
    least_same (λ c. P c ⊎ Q c) (IsNeighbour n slots a b cube p) (least_of o q)
    (λ c. equal_neighbour n slots a b cube one other p c l e f) (λ c. neighbour_equal n slots a b cube one other p c all own e f)
    (least_or P Q o q (only_least P o h) (only_least Q q k))

-- ---- all inputs

pub least_start : (n : ℕ) (slots : List Cube) (a b : ℕ) (cube : Cube) (o : Option ℕ) → IsOnly (IsTwin slots a b cube) o → IsLeast (IsPartnerBelow n slots a b cube 0) o
least_start n slots a b cube o h = grind (arith, least_same, only_least)

pub least_more : (n : ℕ) (slots : List Cube) (a b : ℕ) (cube : Cube) (p : ℕ) (o q : Option ℕ) → IsLeast (IsPartnerBelow n slots a b cube p) o
    → IsLeast (IsNeighbour n slots a b cube p) q → IsLeast (IsPartnerBelow n slots a b cube (p + 1)) (least_of o q)
least_more n slots a b cube p o q h k = grind (arith, least_same, least_or)

pub one_is : (x : List ℕ) → eqb (length x) 1 ≡ true → (q : ℕ) × (x ≡ q ∷ [])
one_is (q ∷ []) h = (q, refl)
one_is (p ∷ q ∷ r ∷ rest) h = absurd (omega (arith, eqb-true (length (p ∷ q ∷ r ∷ rest)) 1 h))
one_is o h = absurd (false≢true h)

below_partner : (n : ℕ) (slots : List Cube) (a b : ℕ) (cube : Cube) (c : ℕ) → IsPartnerBelow n slots a b cube n c → IsPartner n slots a b cube c
below_partner n slots a b cube c (inl t) = grind (arith, common_steps, or_left, alike_same_inputs, key_alike)
below_partner n slots a b cube c (inr y) = grind (arith, or_right, and_from, eq-eqb)

partner_below : (n : ℕ) (slots : List Cube) (a b : ℕ) (cube : Cube) (c : ℕ) → All (IsCube n MOST_OUTPUTS) slots → IsCube n MOST_OUTPUTS cube
    → IsPartner n slots a b cube c → IsPartnerBelow n slots a b cube n c
partner_below n slots a b cube c all own x =
    elim (or_cases (have_same_inputs n cube (at slots c)) (are_adjacent n cube (at slots c)) x.one) [
      | inl e ↦ inl (x.other, sym (alike_key cube (at slots c) (same_inputs_alike n MOST_OUTPUTS cube (at slots c) own (at_valid n MOST_OUTPUTS slots c all) e)))
      | inr e ↦
          (let p = and_parts (eqb cube.outs (at slots c).outs) (eqb (length (differing n cube (at slots c))) 1) e in
          let q = one_is (differing n cube (at slots c)) p.1 in
          inr (q.0, (differing_as n cube (at slots c) (q.0 ∷ []) q.1).0, (x.other, sym (eqb-true _ _ p.0), q.1)))
    ]

pub least_end : (n : ℕ) (slots : List Cube) (a b : ℕ) (cube : Cube) (o : Option ℕ) → All (IsCube n MOST_OUTPUTS) slots → IsCube n MOST_OUTPUTS cube
    → IsLeast (IsPartnerBelow n slots a b cube n) o → IsLeast (IsPartner n slots a b cube) o
least_end n slots a b cube o all own h =
    least_same (IsPartnerBelow n slots a b cube n) (IsPartner n slots a b cube) o (below_partner n slots a b cube)
    (λ c. partner_below n slots a b cube c all own) h

-- the least partner so far
pub ruleset least = (least_start, least_more, least_end)
