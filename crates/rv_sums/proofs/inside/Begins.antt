-- Words that hold the constants.
use Rattle.std.proofs.Common.{◌≡◌, ℕ, ◌+◌, ◌<◌, ◌≤◌, Bool, true, false, List, [], ◌∷◌, ◌++◌, length, length-append, get_or, refl, sym, ap, ◌∙◌, arith, subst, inl, inr}
use Rattle.std.specs.Prelude.{IsTrue}
use Rattle.std.proofs.lemmas.Bool.{cases_eq, cases_lt, cases_order, false≢true}
use Rattle.std.proofs.lemmas.List.{get_or_append_left, get_or_past, get_or_push}
use Rattle.rv_gate.specs.declared.circuit.Mark.{Mark}
use Rattle.rv_gate.specs.declared.circuit.Mark.TheVariants.{Input, Zero, One}
use Rattle.rv_net.proofs.Step.{Word, bit}
use Rattle.rv_sums.specs.Finding.{HasConstants, may_begin}

pub zero_bit : (bit sum : Bool) → IsTrue (may_begin Zero bit) → sum ≡ false → sum ≡ bit
zero_bit true sum h e = absurd (false≢true h)
zero_bit false sum h e = e

pub one_bit : (bit sum : Bool) → IsTrue (may_begin One bit) → sum ≡ true → sum ≡ bit
one_bit true sum h e = e
one_bit false sum h e = absurd (false≢true h)

abbrev pub HasFirst : List Mark → ℕ → Word → Type 0
HasFirst marks count word = (line : ℕ) → line < count → IsTrue (may_begin (get_or marks line Input) (bit word line))

pub first_more : (marks : List Mark) (k : ℕ) (mark : Mark) (b : Bool) (word : Word) → mark ≡ get_or marks k Input → b ≡ bit word k
    → IsTrue (may_begin mark b) → HasFirst marks k word → HasFirst marks (k + 1) word
first_more marks k mark b word is is_bit here before line lt =
    elim (cases_eq line k) [
      | inl e ↦
          let P : ℕ → Type 0 = λ j. IsTrue (may_begin (get_or marks j Input) (bit word j)) in
          subst P (sym e) (subst (λ (m : Mark). IsTrue (may_begin m (bit word k))) is (subst (λ (c : Bool). IsTrue (may_begin mark c)) is_bit here))
      | inr apart ↦ before line (omega (arith, apart))
    ]

pub first_all : (marks : List Mark) (k : ℕ) (word : Word) → length marks ≤ k → HasFirst marks k word → HasConstants marks word
first_all marks k word le before line =
    elim (cases_lt line k) [
      | inl lt ↦ before line lt
      | inr past ↦
          let P : Mark → Type 0 = λ m. IsTrue (may_begin m (bit word line)) in
          subst P (sym (get_or_past marks line Input (omega arith))) refl
    ]

-- ---- marks of which fewer say something

abbrev pub AreWeaker : List Mark → List Mark → Type 0
AreWeaker marks made =
    (line : ℕ) (bit : Bool) → IsTrue (may_begin (get_or marks line Input) bit) → IsTrue (may_begin (get_or made line Input) bit)

past_marks : (made : List Mark) (line : ℕ) (bit : Bool) → length made ≤ line → IsTrue (may_begin (get_or made line Input) bit)
past_marks made line bit le =
    let P : Mark → Type 0 = λ m. IsTrue (may_begin m bit) in subst P (sym (get_or_past made line Input le)) refl

pub weaker_none : (marks made : List Mark) → made ≡ [] → AreWeaker marks made
weaker_none marks made none line bit h = past_marks made line bit (omega (arith, ap length none))

pub weaker_more : (marks made made2 : List Mark) (k : ℕ) (mark next : Mark) → mark ≡ get_or marks k Input → length made ≡ k
    → made2 ≡ made ++ next ∷ [] → ((bit : Bool) → IsTrue (may_begin mark bit) → IsTrue (may_begin next bit)) → AreWeaker marks made
    → AreWeaker marks made2
weaker_more marks made made2 k mark next is count more here before line bit h =
    let P : Mark → Type 0 = λ m. IsTrue (may_begin m bit) in
    let whole : length made2 ≡ length made + 1 = ap length more ∙ length-append made (next ∷ []) in
    elim (cases_order line k) [
      | inl e ↦
          let asked : get_or marks line Input ≡ mark = ap (λ j. get_or marks j Input) e ∙ sym is in
          let goes : get_or made2 line Input ≡ next = ap (λ l. get_or l line Input) more ∙ get_or_push made next Input line (count ∙ sym e) in
          subst P (sym goes) (here bit (subst P asked h))
      | inr (inl less) ↦
          let goes : get_or made2 line Input ≡ get_or made line Input =
          ap (λ l. get_or l line Input) more ∙ get_or_append_left made (next ∷ []) Input line (omega (arith, count)) in
          subst P (sym goes) (before line bit h)
      | inr (inr after) ↦ past_marks made2 line bit (omega (arith, whole, count))
    ]
