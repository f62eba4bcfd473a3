-- The answer that is computed is the one that holds.
use Rattle.std.proofs.Common.{◌≡◌, ◌≢◌, ◌≤◌, ℕ, zero, suc, ◌+◌, ◌^◌, ◌<◌, ◌==◌, Bool, true, false, List, if◌then◌else◌, Option, Some, None, refl, sym, ◌∙◌, ap, inl, inr, arith, eq-eqb, Decides}
use Rattle.std.specs.Option.{option_or}
use Rattle.std.proofs.lemmas.Bool.{cases_eq, eqb-true, false≢true}
use Rattle.rv_gate.specs.Circuit.{Cascade}
use Rattle.rv_gate.specs.FirstAnswer.{first}
use Rattle.rv_gate.specs.Gate.{same_word}
use Rattle.rv_gate.specs.Word.{bit_of, word_of}
use Rattle.rv_gate.proofs.AllBelow.{all_below-at, all_below-from}
use Rattle.rv_gate.proofs.Words.{same_word-is, same_word-true}
use Rattle.rv_perm.specs.Marked.{Marked}
use Rattle.rv_pla.specs.FreeEntries.{allows}
use Rattle.rv_pla.specs.Pla.{TwoLevel, entry}
use Rattle.rv_blif.specs.Logic.{Logic, outputs_of}
use Rattle.rv_compare.specs.Compare.{LogicAnswer, logic_answer, size_in}
use Rattle.rv_compare.specs.Compare.{CircuitsAnswer, GivesAllowed, IsAnswer, PermAnswer, Size, TableAnswer, answer_by, circuits_answer, function_by, function_of, gives_allowed, of_failing, perm_answer, size_by, size_for, size_of, table_answer}
use Rattle.rv_compare.specs.declared.comparison.Comparison.TheVariants.{Inputs, Outputs}
use Rattle.rv_compare.proofs.inside.Least.{at_each_word}

-- ---- the least number that fails

abbrev IsFound : (ℕ → Bool) → ℕ → ℕ → Option ℕ → Type 0
IsFound test k m None = (i : ℕ) → k ≤ i → i < k + m → test i ≡ true
IsFound test k m (Some n) = (k ≤ n) × (n < k + m) × (test n ≡ false) × ((i : ℕ) → k ≤ i → i < n → test i ≡ true)

found_next : (test : ℕ → Bool) (k m : ℕ) (now : Bool) (rest : Option ℕ) → test k ≡ now → IsFound test (k + 1) m rest
    → IsFound test k (suc m) (option_or (if now then None else Some k) rest)
found_next test k m false rest is h = (omega arith, omega arith, is, λ i from below. absurd (omega (arith, from, below)))
found_next test k m true None is h = λ i from below. elim (cases_eq i k) [
  | inl same ↦ ap test same ∙ is
  | inr other ↦ h i (omega arith) (omega arith)
]
found_next test k m true (Some n) is h = (
  omega (arith, h.0),
  omega (arith, h.1),
  h.2,
  λ i from below. elim (cases_eq i k) [
    | inl same ↦ ap test same ∙ is
    | inr other ↦ h.3 i (omega arith) below
  ],
)

found_from : (test : ℕ → Bool) (k m : ℕ) → IsFound test k m (first (λ i. if test i then None else Some i) k m)
unfolding first
found_from test k zero = λ i from below. absurd (omega (arith, from, below))
found_from test k (suc m) = found_next test k m (test k) (first (λ i. if test i then None else Some i) (k + 1) m) refl (found_from test (k + 1) m)

-- ---- the answer

other_from : (n m : ℕ) → (n == m) ≡ false → n ≢ m
other_from n m e same = false≢true (sym e ∙ eq-eqb n m same)

module _ (a b : Size) (Agree : List Bool → Type 0) (agree : List Bool → Bool) (decides : (x : List Bool) → Decides (agree x) (Agree x)) where
  by : (i o : Bool) (found : Option ℕ) → (a.inputs == b.inputs) ≡ i → (a.outputs == b.outputs) ≡ o → IsFound (λ k. agree (word_of a.inputs k)) 0 (2 ^ a.inputs) found
      → IsAnswer a b Agree (if i then (if o then of_failing found else Outputs a.outputs b.outputs) else Inputs a.inputs b.inputs)
  by false o found e f h = (refl, refl, other_from _ _ e)
  by true false found e f h = (eqb-true _ _ e, refl, refl, other_from _ _ f)
  by true true None e f h = (eqb-true _ _ e, eqb-true _ _ f, at_each_word a.inputs Agree (λ k lt. (decides (word_of a.inputs k)).0 (h k (omega arith) (omega arith))))
  by true true (Some n) e f h = (
    eqb-true _ _ e,
    eqb-true _ _ f,
    record {
      below = omega (arith, h.1);
      fails = λ p. false≢true (sym h.2 ∙ (decides (word_of a.inputs n)).1 p);
      least = λ k lt. (decides (word_of a.inputs k)).0 (h.3 k (omega arith) lt);
    },
  )

  pub answer_is : IsAnswer a b Agree (answer_by a b agree)
  answer_is = by (a.inputs == b.inputs) (a.outputs == b.outputs) _ refl refl (found_from (λ k. agree (word_of a.inputs k)) 0 (2 ^ a.inputs))

-- ---- the tests

same_word-decides : (x y : List Bool) → Decides (same_word x y) (x ≡ y)
same_word-decides x y = (same_word-is x y, same_word-true x y)

allowed-decides : (c : Cascade) (pla : TwoLevel) (x : List Bool) → Decides (gives_allowed c pla x) (GivesAllowed c pla x)
allowed-decides c pla x =
    let test : ℕ → Bool = λ output. allows (entry pla x output) (bit_of (function_of c x) output) in
    (λ on output lt. all_below-at test pla.outputs output on lt, λ each. all_below-from test pla.outputs each)

pub circuits_answer-is : (a b : Cascade) → CircuitsAnswer a b (circuits_answer a b)
circuits_answer-is a b = answer_is (size_of a) (size_of b) _ _ (λ x. same_word-decides (function_of a x) (function_of b x))

pub perm_answer-is : (c : Cascade) (m : Marked) → PermAnswer c m (perm_answer c m)
perm_answer-is c m = answer_is (size_of c) (size_by m) _ _ (λ x. same_word-decides (function_of c x) (function_by m x))

pub table_answer-is : (c : Cascade) (pla : TwoLevel) → TableAnswer c pla (table_answer c pla)
table_answer-is c pla = answer_is (size_of c) (size_for pla) _ _ (allowed-decides c pla)

pub logic_answer-is : (c : Cascade) (logic : Logic) → LogicAnswer c logic (logic_answer c logic)
logic_answer-is c logic = answer_is (size_of c) (size_in logic) _ _ (λ x. same_word-decides (function_of c x) (outputs_of logic x))
