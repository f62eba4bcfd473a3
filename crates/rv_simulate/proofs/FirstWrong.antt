-- The first wrong line has a byte that is no bit or another number of bits, and no line before it has.
use Rattle.std.proofs.Common.{◌≡◌, ◌≢◌, ℕ, zero, suc, ◌+◌, ◌<◌, ◌≤◌, Bool, List, [], ◌∷◌, length, get_or, Option, Some, None, if◌then◌else◌, eqb, sym, refl, ◌∙◌, ap, inl, inr, arith, eq-eqb, ne_eqb}
use Rattle.std.specs.Option.{is_none}
use Rattle.std.proofs.lemmas.Bool.{cases_eq, cond-true}
use Rattle.std.proofs.lemmas.Option.{none-some, same_Some}
use Rattle.rv_gate.specs.Circuit.{Cascade}
use Rattle.rv_gate.specs.Gate.{run}
use Rattle.rv_gate.specs.Marks.{input_count, with_constants}
use Rattle.rv_simulate.specs.Simulation.{answer_text, answer_to, answer_to_bits, line_bits, marks_asked, wrong_line, IsFirstWrong, IsWrong}

module _ (c : Cascade) (all : Bool) where
  wrong_count : (bits : List Bool) → 1 ≤ length bits → length bits ≢ input_count (marks_asked c all) → answer_to_bits c all (Some bits) ≡ None
  wrong_count [] some other = absurd (omega (arith, some))
  wrong_count (bit ∷ bits) some other = rw (ne_eqb (length (bit ∷ bits)) (input_count (marks_asked c all)) other) refl

  -- a line with an answer isn't wrong
  not_wrong : (line answer : List ℕ) → answer_to c all line ≡ Some answer → IsWrong c all line → ⊥
  not_wrong line answer is (inl none) = none-some answer (sym (ap (answer_to_bits c all) none) ∙ is)
  not_wrong line answer is (inr other) = none-some answer (sym (ap (answer_to_bits c all) other.1 ∙ wrong_count other.0 other.2 other.3) ∙ is)

  -- a line without one is
  is_wrong : (line : List ℕ) → answer_to c all line ≡ None → IsWrong c all line
  is_wrong line none = by (line_bits line) refl none
    where
      by : (known : Option (List Bool)) → line_bits line ≡ known → answer_to_bits c all known ≡ None → IsWrong c all line
      by None is none = inl is
      by (Some []) is none = absurd (none-some _ (sym none))
      by (Some (bit ∷ bits)) is none =
          let count : ℕ = input_count (marks_asked c all) in
          let answer : List ℕ = answer_text c all (run c.gates (with_constants (marks_asked c all) (bit ∷ bits))) in
          elim (cases_eq (length (bit ∷ bits)) count) [
            | inl same ↦ absurd (none-some answer (sym none ∙ cond-true (eqb (length (bit ∷ bits)) count) (Some answer) None (eq-eqb (length (bit ∷ bits)) count same)))
            | inr other ↦ inr (bit ∷ bits, is, omega arith, other)
          ]

  -- the same of lines that are counted from any number on
  record IsFirstFrom (number : ℕ) (lines : List (List ℕ)) (found : ℕ) : Type 0 where
    place : ℕ
    counted : found ≡ number + place
    within : place < length lines
    wrong : IsWrong c all (get_or lines place [])
    before : (k : ℕ) → k < place → IsWrong c all (get_or lines k []) → ⊥

  none_before : (line : List ℕ) (lines : List (List ℕ)) (place : ℕ) → (IsWrong c all line → ⊥) → ((k : ℕ) → k < place → IsWrong c all (get_or lines k []) → ⊥)
      → (k : ℕ) → k < suc place → IsWrong c all (get_or (line ∷ lines) k []) → ⊥
  none_before line lines place right before zero lt = right
  none_before line lines place right before (suc k) lt = before k (omega (arith, lt))

  first_from : (number : ℕ) (lines : List (List ℕ)) (found : ℕ) → wrong_line (answer_to c all) number lines ≡ Some found → IsFirstFrom number lines found
  first_from number [] found is = absurd (none-some found is)
  first_from number (line ∷ lines) found is = by (answer_to c all line) refl is (λ later. first_from (number + 1) lines found later)
    where
      by : (answer : Option (List ℕ)) → answer_to c all line ≡ answer → (if is_none answer then Some number else wrong_line (answer_to c all) (number + 1) lines) ≡ Some found
          → (wrong_line (answer_to c all) (number + 1) lines ≡ Some found → IsFirstFrom (number + 1) lines found) → IsFirstFrom number (line ∷ lines) found
      by None none here rec = record {
        place = 0;
        counted = let same = same_Some number found here in omega (arith, same);
        within = omega arith;
        wrong = is_wrong line none;
        before = λ k lt. absurd (omega (arith, lt));
      }
      by (Some answer) right later rec =
          let r = rec later in record {
            place = suc r.place;
            counted = let counted = r.counted in omega (arith, counted);
            within = let within = r.within in omega (arith, within);
            wrong = r.wrong;
            before = none_before line lines r.place (not_wrong line answer right) r.before;
          }

  -- the law
  pub wrong_line-first : (lines : List (List ℕ)) (found : ℕ) → wrong_line (answer_to c all) 1 lines ≡ Some found → IsFirstWrong c all lines found
  wrong_line-first lines found is =
      let r = first_from 1 lines found is in
      record { place = r.place; counted = r.counted; within = r.within; wrong = r.wrong; before = r.before }
