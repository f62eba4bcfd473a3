-- From the first word of each block that fails to the answer.
use Rattle.std.proofs.Common.{◌≡◌, ℕ, ◌+◌, ◌-◌, ◌*◌, ◌^◌, ◌<◌, ◌≤◌, Bool, List, length, min, Decides, Option, None, Some, refl, sym, ◌∙◌, ap, subst, inl, inr, arith}
use Rattle.std.specs.Prelude.{◌↔◌, IsTrue}
use Rattle.rv_compare.specs.inside.Least.{IsFirstFailing}
use Rattle.std.proofs.lemmas.Bool.{cases_lt}
use Rattle.rv_gate.specs.Word.{number_of, word_of}
use Rattle.rv_gate.specs.inside.laws.WordLaws.{length-word_of, number_of-lt, word_of-number_of}
use Rattle.rv_compare.specs.Compare.{IsAnswer, IsLeastFailing, Size}
use Rattle.rv_compare.specs.declared.comparison.Comparison.{Comparison}
use Rattle.rv_compare.specs.declared.comparison.Comparison.TheVariants.{Same, Inputs, Outputs, Differs}

-- ---- blocks

-- none among the words of the blocks before one
abbrev pub HoldsTo : ℕ → (ℕ → Type 0) → ℕ → Type 0
HoldsTo words P block = (k : ℕ) → k < 256 * block → k < words → P k

pub block_holds : (words : ℕ) (P : ℕ → Type 0) (block count : ℕ) → count ≡ min 256 (words - block * 256) → HoldsTo words P block → ((j : ℕ) → j < count → P (256 * block + j)) → HoldsTo words P (block + 1)
block_holds words P block count is before here k lt within =
    elim (cases_lt k (256 * block)) [
      | inl less ↦ before k less within
      | inr ge ↦ let e : 256 * block + (k - 256 * block) ≡ k = omega arith in subst P e (here (k - 256 * block) (omega arith))
    ]

pub block_fails : (words : ℕ) (P : ℕ → Type 0) (block count place : ℕ) → count ≡ min 256 (words - block * 256) → HoldsTo words P block → IsLeastFailing count (λ j. P (256 * block + j)) place
    → IsLeastFailing words P (block * 256 + place)
block_fails words P block count place is before h =
    let e : 256 * block + place ≡ block * 256 + place = omega arith in
    record {
      below = omega (arith, h.below);
      fails = λ p. h.fails (subst P (sym e) p);
      least = λ k lt.
          elim (cases_lt k (256 * block)) [
            | inl less ↦ before k less (omega (arith, h.below))
            | inr ge ↦ let at : 256 * block + (k - 256 * block) ≡ k = omega arith in subst P at (h.least (k - 256 * block) (omega arith))
          ];
    }

-- what a test tells of each
pub first_failing-as : (count : ℕ) (bit : ℕ → Bool) (P : ℕ → Type 0) (r : Option ℕ) → ((j : ℕ) → j < count → Decides (bit j) (P j))
    → IsFirstFailing count (λ j. IsTrue (bit j)) r → IsFirstFailing count P r
first_failing-as count bit P None each h = λ j lt. (each j lt).0 (h j lt)
first_failing-as count bit P (Some place) each h = record {
  below = h.below;
  fails = λ p. h.fails ((each place h.below).1 p);
  least = λ k lt. (each k (omega (arith, lt, h.below))).0 (h.least k lt);
}

-- ---- answers

-- what holds at the word of each number holds at each word
pub at_each_word : (n : ℕ) (Agree : List Bool → Type 0) → ((k : ℕ) → k < 2 ^ n → Agree (word_of n k)) → (x : List Bool) → length x ≡ n → Agree x
at_each_word n Agree each x len =
    let lt : number_of x < 2 ^ n = let P : ℕ → Type 0 = λ m. number_of x < 2 ^ m in subst P len (number_of-lt x) in
    subst Agree (ap (λ m. word_of m (number_of x)) (sym len) ∙ word_of-number_of x) (each (number_of x) lt)

pub differs_at : (a b : Size) (Agree : List Bool → Type 0) (words block count place : ℕ) → a.inputs ≡ b.inputs → a.outputs ≡ b.outputs → words ≡ 2 ^ a.inputs → count ≡ min 256 (words - block * 256)
    → HoldsTo words (λ k. Agree (word_of a.inputs k)) block → IsLeastFailing count (λ j. Agree (word_of a.inputs (256 * block + j))) place → IsAnswer a b Agree (Differs (block * 256 + place))
differs_at a b Agree words block count place inputs outputs all is before h =
    let P : ℕ → Type 0 = λ k. Agree (word_of a.inputs k) in
    let Q : ℕ → Type 0 = λ n. IsLeastFailing n (λ k. Agree (word_of a.inputs k)) (block * 256 + place) in
    (inputs, outputs, subst Q all (block_fails words P block count place is before h))

pub same_to_the_end : (a b : Size) (Agree : List Bool → Type 0) (words block : ℕ) → a.inputs ≡ b.inputs → a.outputs ≡ b.outputs → words ≡ 2 ^ a.inputs → words ≤ 256 * block
    → HoldsTo words (λ k. Agree (word_of a.inputs k)) block → IsAnswer a b Agree Same
same_to_the_end a b Agree words block inputs outputs all end h = (inputs, outputs, at_each_word a.inputs Agree (λ k lt. h k (omega arith) (omega arith)))

-- the answers exclude each other
pub one_answer : (a b : Size) (Agree : List Bool → Type 0) (v w : Comparison) → IsAnswer a b Agree v → IsAnswer a b Agree w → v ≡ w
one_answer a b Agree Same Same h k = refl
one_answer a b Agree Same (Inputs n m) h k = absurd (omega arith)
one_answer a b Agree Same (Outputs n m) h k = absurd (omega arith)
one_answer a b Agree Same (Differs x) h k = absurd (k.2.fails (h.2 _ (length-word_of a.inputs x)))
one_answer a b Agree (Inputs n m) Same h k = absurd (omega arith)
one_answer a b Agree (Inputs n m) (Inputs p q) h k = cc
one_answer a b Agree (Inputs n m) (Outputs p q) h k = absurd (omega arith)
one_answer a b Agree (Inputs n m) (Differs y) h k = absurd (omega arith)
one_answer a b Agree (Outputs n m) Same h k = absurd (omega arith)
one_answer a b Agree (Outputs n m) (Inputs p q) h k = absurd (omega arith)
one_answer a b Agree (Outputs n m) (Outputs p q) h k = cc
one_answer a b Agree (Outputs n m) (Differs y) h k = absurd (omega arith)
one_answer a b Agree (Differs x) Same h k = absurd (h.2.fails (k.2 _ (length-word_of a.inputs x)))
one_answer a b Agree (Differs x) (Inputs p q) h k = absurd (omega arith)
one_answer a b Agree (Differs x) (Outputs p q) h k = absurd (omega arith)
one_answer a b Agree (Differs x) (Differs y) h k =
    elim (cases_lt x y) [
      | inl less ↦ absurd (h.2.fails (k.2.least x less))
      | inr ge ↦
          (elim (cases_lt y x) [
            | inl less ↦ absurd (k.2.fails (h.2.least y less))
            | inr le ↦ let e : x ≡ y = omega arith in ap Differs e
          ])
    ]

-- an answer that holds is given exactly where it holds
pub exact_answer : (a b : Size) (Agree : List Bool → Type 0) (given : Comparison) → IsAnswer a b Agree given → (answer : Comparison) → (given ≡ answer) ↔ IsAnswer a b Agree answer
exact_answer a b Agree given holds answer = (λ e. let P : Comparison → Type 0 = IsAnswer a b Agree in subst P e holds, λ h. one_answer a b Agree given answer holds h)
