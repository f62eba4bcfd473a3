-- What the search for a partner among the full slots finds, and so the first merge and the first exorlink of a slot.
use Rattle.std.proofs.Common.{◌≡◌, ℕ, ◌≤◌, Bool, true, not, ◌&&◌, eqb, List, length, sym, ◌∙◌, arith, ◌≢◌, ◌<◌, get_or, inl, inr, eq-eqb, ne_eqb, ◌∷◌, []}
use Rattle.std.specs.Prelude.{None, Some, Option, All, MatchOption}
use Rattle.std.proofs.lemmas.Bool.{eqb-false, and_parts, not-true, eqb-true, and_from, or_cases, or_right}
use Rattle.std.proofs.lemmas.Option.{none-some}
use Rattle.rv_pla.specs.declared.cube.Cube.{Cube}
use Rattle.rv_cube.specs.Reduction.{at, can_merge, are_adjacent, have_same_inputs}
use Rattle.rv_cube.specs.inside.Slots.{full, IsPartner, partner_in_at, partner_in, IsKeyed, exorlink_in, MergesNone, IsFirstMerge}
use Rattle.rv_cube.specs.declared.step.Step.TheVariants.{Exorlink}
use Rattle.rv_gate.proofs.FirstAnswer.{none_at, none_first}
use Rattle.rv_cube.proofs.Searches.{first_found}
use Rattle.rv_cube.proofs.inside.Full.{full_within, at_valid}
use Rattle.rv_pla.specs.Cube.{IsCube}
use Rattle.rv_pla.specs.declared.cube.TheConstants.{MOST_OUTPUTS}
use Rattle.rv_cube.specs.Distance.{differing}
use Rattle.rv_cube.specs.inside.Slotted.{Lists}
use Rattle.rv_cube.specs.inside.Reducing.{ExorlinksFirst}
use Rattle.rv_cube.specs.declared.step.Step.{Step}
use Rattle.rv_cube.proofs.inside.Differing.{differing-comm}
use Rattle.rv_cube.proofs.inside.Keys.{same_inputs_alike}

-- the test of the search at one slot
abbrev partner_test : ℕ → List Cube → ℕ → ℕ → Cube → ℕ → Bool
partner_test n slots a b cube c = (not (eqb c a) && not (eqb c b)) && can_merge n cube (at slots c)

pub test_partner : (n : ℕ) (slots : List Cube) (a b : ℕ) (cube : Cube) (c : ℕ) → full slots c ≡ true → partner_test n slots a b cube c ≡ true
    → IsPartner n slots a b cube c
test_partner n slots a b cube c f e = grind (arith, eqb-false, not-true)

at_none : (n : ℕ) (slots : List Cube) (a b : ℕ) (f s : Cube) (place : ℕ) (cube : Cube) (c : ℕ) → (IsPartner n slots a b cube c → ⊥)
    → partner_in_at n slots a b f s place cube c ≡ None
at_none n slots a b f s place cube c h = grind arith

at_some : (n : ℕ) (slots : List Cube) (a b : ℕ) (f s : Cube) (place : ℕ) (cube : Cube) (c : ℕ) → IsPartner n slots a b cube c
    → partner_in_at n slots a b f s place cube c ≡ Some (Exorlink a b f s place c)
at_some n slots a b f s place cube c h = grind arith

pub partner_in-none : (n : ℕ) (slots : List Cube) (a b : ℕ) (f s : Cube) (place : ℕ) (cube : Cube) → ((c : ℕ) → IsPartner n slots a b cube c → ⊥)
    → partner_in n slots a b f s place cube ≡ None
partner_in-none n slots a b f s place cube h =
    none_first (partner_in_at n slots a b f s place cube) 0 (length slots) (λ c l u. at_none n slots a b f s place cube c (h c))

pub none_partner : (n : ℕ) (slots : List Cube) (a b : ℕ) (f s : Cube) (place : ℕ) (cube : Cube) → partner_in n slots a b f s place cube ≡ None
    → (c : ℕ) → IsPartner n slots a b cube c → ⊥
none_partner n slots a b f s place cube e c h =
    let w = full_within slots c h.other.stands in
    none-some (Exorlink a b f s place c)
    (sym (none_at (partner_in_at n slots a b f s place cube) 0 (length slots) c e (omega arith) (omega arith)) ∙ at_some n slots a b f s place cube c h)

pub partner_in-some : (n : ℕ) (slots : List Cube) (a b : ℕ) (f s : Cube) (place : ℕ) (cube : Cube) (c : ℕ) → IsPartner n slots a b cube c
    → ((d : ℕ) → IsPartner n slots a b cube d → c ≤ d) → partner_in n slots a b f s place cube ≡ Some (Exorlink a b f s place c)
partner_in-some n slots a b f s place cube c h least =
    first_found (partner_in_at n slots a b f s place cube) 0 (length slots) c (Exorlink a b f s place c) (omega arith) (let w = full_within slots c h.other.stands in omega arith)
    (at_some n slots a b f s place cube c h)
    (λ i l u. at_none n slots a b f s place cube i (λ p. let le = least i p in omega arith))

-- what a search for a partner answers
pub ruleset searched = (partner_in-none, partner_in-some)

-- ---- the first merge of a slot

pub outputs-comm : (n : ℕ) (x y : Cube) → are_adjacent n x y ≡ true → are_adjacent n y x ≡ true
outputs-comm n x y h = grind (arith, and_parts, and_from, eq-eqb, eqb-true, differing-comm)

meeting : (n : ℕ) (slots : List Cube) (a b : ℕ) → b ≢ a → full slots b ≡ true → are_adjacent n (at slots a) (at slots b) ≡ true
    → IsPartner n slots a a (at slots a) b
meeting n slots a b ne f j = record { other = record { stands = f; other_a = ne; other_b = ne }; one = or_right (have_same_inputs n (at slots a) (at slots b)) _ j }

meets_none : (n : ℕ) (slots : List Cube) (a : ℕ) → ((c : ℕ) → IsPartner n slots a a (at slots a) c → ⊥) → MergesNone n slots a
meets_none n slots a h b ab fa fb = grind (arith, meeting)

by_outputs : (n : ℕ) (slots : List Cube) (a b : ℕ) → All (IsCube n MOST_OUTPUTS) slots → IsKeyed slots → full slots a ≡ true
    → IsPartner n slots a a (at slots a) b → are_adjacent n (at slots a) (at slots b) ≡ true
by_outputs n slots a b valid keyed fa h =
    elim (or_cases (have_same_inputs n (at slots a) (at slots b)) _ h.one) [
      | inl e ↦
          absurd (h.other.other_a (sym (keyed a b fa h.other.stands
          (same_inputs_alike n MOST_OUTPUTS (at slots a) (at slots b) (at_valid n MOST_OUTPUTS slots a valid) (at_valid n MOST_OUTPUTS slots b valid) e))))
      | inr e ↦ e
    ]

merge_some : (n : ℕ) (slots : List Cube) (a b : ℕ) → All (IsCube n MOST_OUTPUTS) slots → IsKeyed slots → full slots a ≡ true
    → ((i : ℕ) → i < a → MergesNone n slots i) → IsPartner n slots a a (at slots a) b → ((d : ℕ) → IsPartner n slots a a (at slots a) d → b ≤ d)
    → IsFirstMerge n slots a b
merge_some n slots a b valid keyed fa before h least = grind (arith, by_outputs, outputs-comm, meeting)

pub merge_found : (n : ℕ) (slots : List Cube) (a : ℕ) (cube : Cube) (o : Option ℕ) → cube ≡ at slots a → All (IsCube n MOST_OUTPUTS) slots → IsKeyed slots
    → cube.outs ≢ 0 → ((i : ℕ) → i < a → MergesNone n slots i)
    → MatchOption o ((c : ℕ) → IsPartner n slots a a cube c → ⊥) (λ c. IsPartner n slots a a cube c × ((d : ℕ) → IsPartner n slots a a cube d → c ≤ d))
    → MatchOption o (MergesNone n slots a) (IsFirstMerge n slots a)
merge_found n slots a cube o h h2 h3 h4 h5 h6 = grind (arith, meets_none, merge_some, ne_eqb)

-- ---- the first exorlink of a slot

-- the best of the slots that were looked at: those before `end` are not exorlinked
pub record Searched (n : ℕ) (slots : List Cube) (a : ℕ) (near : List ℕ) (i end : ℕ) (found : Option Step) : Type 0 where
  pub past : (k : ℕ) → k < i → a < get_or near k 0 → get_or near k 0 < end → exorlink_in n slots a (get_or near k 0) ≡ None
  pub best : MatchOption found (end ≡ length slots) (λ step. (a < end) × (full slots end ≡ true) × (exorlink_in n slots a end ≡ Some step))

-- each slot that can be exorlinked was looked at
looked_at : (n : ℕ) (slots : List Cube) (a : ℕ) (near : List ℕ) (i end : ℕ) (found : Option Step) → Searched n slots a near i end found → length near ≤ i
    → ((b p q : ℕ) → full slots b ≡ true → differing n (at slots a) (at slots b) ≡ p ∷ q ∷ [] → Lists near b)
    → (j : ℕ) → a < j → j < end → full slots j ≡ true → exorlink_in n slots a j ≡ None
looked_at n slots a near i end found h all lists j aj je fj = grind arith

pub searched_end : (n : ℕ) (slots : List Cube) (a : ℕ) (near : List ℕ) (i end : ℕ) (found : Option Step) → Searched n slots a near i end found
    → length near ≤ i → ((b p q : ℕ) → full slots b ≡ true → differing n (at slots a) (at slots b) ≡ p ∷ q ∷ [] → Lists near b)
    → ExorlinksFirst n slots a found
searched_end n slots a near i end None h all lists =
    λ b ab fa fb. looked_at n slots a near i end None h all lists b ab (let e = h.best in let w = full_within slots b fb in omega arith) fb
searched_end n slots a near i end (Some step) h all lists =
    (end, record { order = h.best.0; full_b = h.best.1; is = h.best.2; between = looked_at n slots a near i end (Some step) h all lists })
