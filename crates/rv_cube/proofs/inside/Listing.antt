-- The slots that differ in two inputs are among those with the inputs of a neighbour of a neighbour.
use Rattle.std.proofs.Common.{◌≡◌, ℕ, ◌+◌, ◌<◌, true, not, List, [], ◌∷◌, ◌++◌, sym, ◌∙◌, ap, subst, inl, inr, arith}
use Rattle.std.specs.Prelude.{None, Some, ◌⊎◌, Option, All}
use Rattle.std.proofs.lemmas.Bool.{cases_eq, not-true}
use Rattle.std.proofs.lemmas.List.{get_or_append_left, get_or_push, length-append}
use Rattle.std.proofs.lemmas.List.Elements.{All-nil}
use Rattle.std.proofs.lemmas.Option.{none-some, same_Some}
use Rattle.rv_pla.specs.Cube.{symbol, IsCube}
use Rattle.rv_pla.specs.declared.cube.Cube.{Cube}
use Rattle.rv_pla.specs.declared.cube.TheConstants.{MOST_OUTPUTS}
use Rattle.rv_cube.specs.Distance.{is_same, differing, with_third, with_symbol}
use Rattle.rv_cube.specs.Reduction.{at}
use Rattle.rv_cube.specs.inside.Slots.{full, key_of}
use Rattle.rv_cube.specs.inside.Slotted.{turn, Noted, Lists, Gains, IsAlike, IsBeside, IsTwoApart, IsTwoApartFrom, IsTwoApartBelow}
use Rattle.rv_cube.specs.inside.Watching.{IsNearList}
use Rattle.rv_cube.proofs.Symbols.{symbol_with-same, symbol_with-other}
use Rattle.rv_cube.specs.Settled.{DifferInTwo}
use Rattle.rv_cube.proofs.inside.Differing.{IsDiffering, differing_as, both_from, differs-true}
use Rattle.rv_cube.proofs.inside.Merges.{with_cube}
use Rattle.rv_cube.proofs.inside.Full.{at_valid}
use Rattle.rv_cube.proofs.inside.Neighbours.{two_others, third_turn, beside_either, same_but, partner_key}

-- ---- what a list gains

pub gains_nothing : (slots : List Cube) (P : ℕ → Type 0) (found : List ℕ) → ((b : ℕ) → full slots b ≡ true → P b → ⊥) → Gains slots P found found
gains_nothing slots P found h = record { stays = λ b l. l; holds = λ a. a; gets = λ b f p. absurd (h b f p) }

pub gains_then : (slots : List Cube) (P Q R : ℕ → Type 0) (old mid new : List ℕ) → ((b : ℕ) → full slots b ≡ true → R b → P b ⊎ Q b)
    → Gains slots P old mid → Gains slots Q mid new → Gains slots R old new
gains_then slots P Q R old mid new f h k = record {
  stays = λ b l. k.stays b (h.stays b l);
  holds = λ a. k.holds (h.holds a);
  gets = λ b g r. elim (f b g r) [ inl p ↦ k.stays b (h.gets b g p) | inr q ↦ k.gets b g q ];
}

-- ---- one look-up

pub gains_none : (find : ℕ × ℕ → Option ℕ) (slots : List Cube) (cube : Cube) (found : List ℕ) → Noted find slots → find (key_of cube) ≡ None
    → Gains slots (IsAlike slots cube) found found
gains_none find slots cube found h e =
    gains_nothing slots (IsAlike slots cube) found (λ b f k. none-some b (sym e ∙ ap find (sym k) ∙ h.complete b f))

pub gains_some : (find : ℕ × ℕ → Option ℕ) (slots : List Cube) (cube : Cube) (b : ℕ) (found : List ℕ) → Noted find slots → find (key_of cube) ≡ Some b
    → Gains slots (IsAlike slots cube) found (found ++ b ∷ [])
gains_some find slots cube b found h e = grind (arith, length-append, get_or_push, get_or_append_left, same_Some)

-- ---- the neighbours at one input

pub gains_beside : (slots : List Cube) (cube one other : Cube) (q : ℕ) (old mid new : List ℕ) → one ≡ with_symbol cube q (turn (symbol cube q)) → other ≡ with_third cube one q
    → Gains slots (IsAlike slots one) old mid → Gains slots (IsAlike slots other) mid new → Gains slots (IsBeside slots cube q) old new
gains_beside slots cube one other q old mid new e f h k =
    gains_then slots (IsAlike slots one) (IsAlike slots other) (IsBeside slots cube q) old mid new
    (λ b g x. beside_either cube (at slots b) one other q e f x.0 x.1) h k

-- ---- those at two inputs

pub two_either : (slots : List Cube) (cube one other : Cube) (p q b : ℕ) → one ≡ with_symbol cube p (turn (symbol cube p)) → other ≡ with_third cube one p
    → IsTwoApart slots cube p q b → IsBeside slots one q b ⊎ IsBeside slots other q b
two_either slots cube one other p q b e f x = grind (arith, two_others, not-true, third_turn)

pub gains_pair : (slots : List Cube) (cube one other : Cube) (p q : ℕ) (old mid new : List ℕ) → one ≡ with_symbol cube p (turn (symbol cube p)) → other ≡ with_third cube one p
    → Gains slots (IsBeside slots one q) old mid → Gains slots (IsBeside slots other q) mid new → Gains slots (IsTwoApart slots cube p q) old new
gains_pair slots cube one other p q old mid new e f h k = grind (arith, gains_then, two_either)

-- ---- the loops

pub from_start : (slots : List Cube) (cube : Cube) (q : ℕ) (found : List ℕ) → Gains slots (IsTwoApartFrom slots cube q 0) found found
from_start slots cube q found = gains_nothing slots (IsTwoApartFrom slots cube q 0) found (λ b f x. let l = x.1 in omega arith)

pub from_more : (slots : List Cube) (cube : Cube) (q p : ℕ) (old mid new : List ℕ) → Gains slots (IsTwoApartFrom slots cube q p) old mid
    → Gains slots (IsTwoApart slots cube p q) mid new → Gains slots (IsTwoApartFrom slots cube q (p + 1)) old new
from_more slots cube q p old mid new h k =
    gains_then slots (IsTwoApartFrom slots cube q p) (IsTwoApart slots cube p q) (IsTwoApartFrom slots cube q (p + 1)) old mid new
    (λ b f x. elim (cases_eq x.0 p) [
      | inl e ↦ inr (subst (λ i. IsTwoApart slots cube i q b) e x.2)
      | inr ne ↦ inl (x.0, (let l = x.1 in omega arith), x.2)
    ]) h k

pub below_start : (slots : List Cube) (cube : Cube) (found : List ℕ) → found ≡ [] → Gains slots (IsTwoApartBelow slots cube 0) [] found
below_start slots cube found e = grind (arith, gains_nothing)

pub below_more : (slots : List Cube) (cube : Cube) (q : ℕ) (old mid new : List ℕ) → Gains slots (IsTwoApartBelow slots cube q) old mid
    → Gains slots (IsTwoApartFrom slots cube q q) mid new → Gains slots (IsTwoApartBelow slots cube (q + 1)) old new
below_more slots cube q old mid new h k =
    gains_then slots (IsTwoApartBelow slots cube q) (IsTwoApartFrom slots cube q q) (IsTwoApartBelow slots cube (q + 1)) old mid new
    (λ b f x. elim (cases_eq x.0 q) [
      | inl e ↦ inr (subst (λ i. IsTwoApartFrom slots cube i i b) e x.2)
      | inr ne ↦ inl (x.0, (let l = x.1 in omega arith), x.2)
    ]) h k

pub two_at : (n : ℕ) (slots : List Cube) (cube : Cube) (b p q : ℕ) → All (IsCube n MOST_OUTPUTS) slots → IsCube n MOST_OUTPUTS cube
    → DifferInTwo n cube (at slots b) p q → IsTwoApart slots cube p q b
two_at n slots cube b p q all own d =
    let y : Cube = at slots b in
    let m : Cube = with_symbol cube p (symbol y p) in
    let there : symbol m q ≡ symbol cube q = symbol_with-other cube p q (symbol y p) (λ e. d.two (sym e)) in (
      differs-true cube y p d.differ_first,
      (
        ap (λ s. not (is_same s (symbol y q))) there ∙ differs-true cube y q d.differ_second,
        same_but n MOST_OUTPUTS m y q d.second (with_cube n MOST_OUTPUTS cube p (symbol y p) d.first own) (at_valid n MOST_OUTPUTS slots b all)
            (λ i l ne. elim (cases_eq i p) [
              | inl e ↦ rw e (symbol_with-same cube p (symbol y p))
              | inr np ↦ symbol_with-other cube p i (symbol y p) np ∙ d.others i l np ne
            ]),
      ),
    )

two_from : (n : ℕ) (slots : List Cube) (cube : Cube) (b p q : ℕ) → All (IsCube n MOST_OUTPUTS) slots → IsCube n MOST_OUTPUTS cube
    → IsDiffering cube (at slots b) n (p ∷ q ∷ []) → IsTwoApartBelow slots cube n b
two_from n slots cube b p q all own is = (q, is.1, (p, is.0, two_at n slots cube b p q all own (both_from n cube (at slots b) p q is)))

pub listed : (n : ℕ) (slots : List Cube) (cube : Cube) (found : List ℕ) → All (IsCube n MOST_OUTPUTS) slots → IsCube n MOST_OUTPUTS cube
    → Gains slots (IsTwoApartBelow slots cube n) [] found
    → (b p q : ℕ) → full slots b ≡ true → differing n cube (at slots b) ≡ p ∷ q ∷ [] → Lists found b
listed n slots cube found all own h b p q f e =
    h.gets b f (two_from n slots cube b p q all own (differing_as n cube (at slots b) (p ∷ q ∷ []) e))

pub listed_full : (slots : List Cube) (P : ℕ → Type 0) (found : List ℕ) → Gains slots P [] found → All (λ b. full slots b ≡ true) found
listed_full slots P found h = let Full : ℕ → Type 0 = λ d. full slots d ≡ true in h.holds (All-nil Full)

-- ---- those that differ in one input or two

-- with the ones that differ in an input below p
pub record NearBelow (n : ℕ) (slots : List Cube) (cube : Cube) (p : ℕ) (found : List ℕ) : Type 0 where
  pub all_full : All (λ b. full slots b ≡ true) found
  pub two : (b i j : ℕ) → full slots b ≡ true → differing n cube (at slots b) ≡ i ∷ j ∷ [] → Lists found b
  pub one : (b i : ℕ) → i < p → full slots b ≡ true → IsBeside slots cube i b → Lists found b

pub near_more : (n : ℕ) (slots : List Cube) (cube : Cube) (p : ℕ) (old new : List ℕ) → NearBelow n slots cube p old
    → Gains slots (IsBeside slots cube p) old new → NearBelow n slots cube (p + 1) new
near_more n slots cube p old new h g = record {
  all_full = g.holds h.all_full;
  two = λ b i j f e. g.stays b (h.two b i j f e);
  one = λ b i l f x. elim (cases_eq i p) [
    | inl e ↦ g.gets b f (subst (λ k. IsBeside slots cube k b) e x)
    | inr ne ↦ g.stays b (h.one b i (omega arith) f x)
  ];
}

pub near_end : (n : ℕ) (slots : List Cube) (cube : Cube) (found : List ℕ) → All (IsCube n MOST_OUTPUTS) slots → IsCube n MOST_OUTPUTS cube
    → NearBelow n slots cube n found → IsNearList n slots cube found
near_end n slots cube found all own h = record {
  all_full = h.all_full;
  one = λ b p f e. h.one b p (differing_as n cube (at slots b) (p ∷ []) e).0 f
      (partner_key n MOST_OUTPUTS cube (at slots b) p own (at_valid n MOST_OUTPUTS slots b all) e);
  two = h.two;
}

-- the slots that are listed at the start and at the end
pub ruleset listing = (below_start, listed_full)
