-- Numbers that are kept for their gates, and orders whose numbers rise.
use Rattle.std.proofs.Common.{◌≡◌, ◌≢◌, ℕ, zero, suc, ◌+◌, ◌-◌, ◌<◌, ◌≤◌, true, List, [], ◌∷◌, ◌++◌, length, take, drop, sym, subst, ◌∙◌, ap, inl, inr, arith, eqb}
use Rattle.std.specs.Prelude.{Option, Some, None, IfSome}
use Rattle.std.specs.List.{range_with_len}
use Rattle.std.proofs.lemmas.List.{take_at}
use Rattle.std.proofs.lemmas.Bool.{cases_eq, cases_Bool, false≢true}
use Rattle.rv_gate.specs.declared.gate.Shape.{Shape}
use Rattle.rv_links.specs.Order.{lists, Rising}
use Rattle.rv_links.specs.Seeking.{Tells}
use Rattle.rv_links.specs.declared.sought.Sought.{Sought}
use Rattle.rv_links.specs.declared.index.TheConstants.{MOST_ASKED}
use Rattle.rv_links.specs.inside.Ring.{Order, without}
use Rattle.rv_links.specs.inside.Chains.{nodes_of}
use Rattle.rv_links.specs.inside.Index.{asked, Kept, IsIndexed, AtMost, IsHere, IsSearchable, told}
use Rattle.rv_links.proofs.inside.RingLemmas.{lists_cases, lists_without}
use Rattle.rv_links.proofs.inside.LinkedLemmas.{ids_of_nodes, gate_of_nodes}

-- ---- what is found

tells : (gates : List Shape) (ids : List ℕ) (gate : Shape) (from : ℕ) (best : Option ℕ) → IfSome best (λ b. IsHere gates ids gate from b) → ((x : ℕ) → IsHere gates ids gate from x → AtMost best x)
    → Tells (nodes_of gates ids) gate from (told best)
tells gates ids gate from None here least =
    λ x on le e.
    let l : lists x ids ≡ true = ap (lists x) (sym (ids_of_nodes gates ids)) ∙ on in
    least x (record { on = l; is = sym (gate_of_nodes gates ids x l) ∙ e; late = le })
tells gates ids gate from (Some b) here least =
    record {
      on = ap (lists b) (ids_of_nodes gates ids) ∙ here.on;
      gate_is = gate_of_nodes gates ids b here.on ∙ here.is;
      late = here.late;
      least = λ x on le e.
          let l : lists x ids ≡ true = ap (lists x) (sym (ids_of_nodes gates ids)) ∙ on in
          least x (record { on = l; is = sym (gate_of_nodes gates ids x l) ∙ e; late = le });
    }

-- where a slot is empty, the numbers before it are all
pub told_all : (slots : List ℕ) (gates : List Shape) (ids : List ℕ) (gate : Shape) (from i slot : ℕ) (best : Option ℕ) (result : Sought) → IsIndexed slots gates ids → i < MOST_ASKED
    → slot ≡ asked slots gate i → slot ≡ 0 → IfSome best (λ b. IsHere gates ids gate from b)
    → ((x : ℕ) → IsHere gates ids gate from x → (j : ℕ) → j < i → asked slots gate j ≡ x + 1 → AtMost best x) → result ≡ told best
    → Tells (nodes_of gates ids) gate from result
told_all slots gates ids gate from i slot best result k lt e z here seen r =
    subst (λ (s : Sought). Tells (nodes_of gates ids) gate from s) (sym r)
    (tells gates ids gate from best here (λ x h. let w = subst (λ (g : Shape). Kept slots g x) h.is (k x h.on) i lt (sym e ∙ z) in seen x h w.0 w.1 w.2))

-- one slot more was seen
pub seen_more : (gates : List Shape) (ids : List ℕ) (slots : List ℕ) (gate : Shape) (from i slot : ℕ) (best next : Option ℕ) → slot ≡ asked slots gate i → slot ≢ 0 → ((x : ℕ) → lists x ids ≡ true → x < length gates)
    → ((x : ℕ) → IsHere gates ids gate from x → (j : ℕ) → j < i → asked slots gate j ≡ x + 1 → AtMost best x)
    → ((x : ℕ) → AtMost best x → AtMost next x) → (slot - 1 < length gates → IsHere gates ids gate from (slot - 1) → AtMost next (slot - 1))
    → (x : ℕ) → IsHere gates ids gate from x → (j : ℕ) → j < i + 1 → asked slots gate j ≡ x + 1 → AtMost next x
seen_more gates ids slots gate from i slot best next e some below seen more this x h j lt a =
    elim (cases_eq j i) [
      | inl same ↦
          let is : slot ≡ x + 1 = e ∙ ap (asked slots gate) (sym same) ∙ a in
          let one : slot - 1 ≡ x = omega (arith, is) in
          subst (λ (y : ℕ). AtMost next y) one (this (let l = below x h.on in omega (arith, one, l)) (subst (λ (y : ℕ). IsHere gates ids gate from y) (sym one) h))
      | inr ne ↦ more x (seen x h j (omega (arith, lt, ne)) a)
    ]

-- ---- rising numbers

pub rising_without : (x : ℕ) (ids : List ℕ) → Rising ids → Rising (without x ids)
unfolding without
rising_without x [] r = tt
rising_without x (y ∷ ys) r =
    elim (cases_Bool (eqb x y)) [
      | inl t ↦ rw t r.1
      | inr f ↦ rw f ((λ z l. r.0 z (lists_without x z ys l)), rising_without x ys r.1)
    ]

pub in_range : (a n x : ℕ) → lists x (range_with_len a n) ≡ true → (a ≤ x) × (x < a + n)
in_range a zero x h = absurd (false≢true h)
in_range a (suc n) x h =
    elim (lists_cases x a (range_with_len (a + 1) n) h) [
      | inl e ↦ (omega arith, omega arith)
      | inr l ↦ let r = in_range (a + 1) n x l in (omega (arith, r.0), omega (arith, r.1))
    ]

pub rising_range : (a n : ℕ) → Rising (range_with_len a n)
rising_range a zero = tt
rising_range a (suc n) = ((λ y l. let r = in_range (a + 1) n y l in omega (arith, r.0)), rising_range (a + 1) n)

-- ---- a linked cascade changes

pub searchable_erased : (slots : List ℕ) (gates : List Shape) (order after : Order) (x : ℕ) → after ≡ (let o : Order = record { room = order.room; ids = without x order.ids } in o) → IsSearchable slots gates order.ids
    → IsSearchable slots gates after.ids
searchable_erased slots gates order after x e s =
    subst (λ (o : Order). IsSearchable slots gates o.ids) (sym e)
    (record { some = s.some; indexed = λ id l. s.indexed id (lists_without x id order.ids l); rising = rising_without x order.ids s.rising })

-- after writes through `&mut self.slots`
pub searchable_with : (n : ℕ) (new old : List ℕ) (gates : List Shape) (ids : List ℕ) → length new ≡ n → 0 < length new → IsIndexed new gates ids → Rising ids → IsSearchable (take n (new ++ drop (length new) old)) gates ids
searchable_with n new old gates ids e some k r =
    subst (λ (l : List ℕ). IsSearchable l gates ids) (sym (take_at new (drop (length new) old) n e)) (record { some = some; indexed = k; rising = r })
