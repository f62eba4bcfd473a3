-- What `check --from qasm` answers.
use Rattle.std.proofs.Common.{◌≡◌, ◌≢◌, ◌≤◌, ◌<◌, ◌+◌, ◌^◌, ℕ, Bool, true, false, not, length, List, Some, Result, Ok, Err, IfOk, refl, ap, sym, subst, ◌∙◌, inl, inr, arith}
use Rattle.std.proofs.lemmas.Bool.{lt-ltb}
use Rattle.rv_gate.specs.Word.{word_of}
use Rattle.rv_gate.specs.inside.laws.WordLaws.{length-word_of}
use Rattle.rv_net.specs.Op.{Network}
use Rattle.rv_net.specs.declared.net.TheConstants.{MOST_OPS}
use Rattle.rv_qasm.specs.Reading.{Listing}
use Rattle.rv_check.specs.declared.checking.Verdict.TheVariants.{Lines, Same}
use Rattle.rv_alike.specs.Alike.{IsTold}
use Rattle.rv_alike.proofs.Deciding.{apart_by_lines, found_alike, found_apart}
use Rattle.rv_sums.specs.declared.finding.Finding.{Finding}
use Rattle.rv_sums.specs.declared.finding.Finding.TheVariants as finding
use Rattle.rv_sums.specs.declared.by_paths.TheConstants.{MOST_STEPS, MOST_TERMS}
use Rattle.rv_faults.specs.declared.fault.InputFault.{InputFault}
use Rattle.rv_faults.specs.declared.fault.InputFault.TheVariants.{TooManyOps, Undecided}
use Rattle.rv_faults.specs.declared.fault.Measure.TheVariants.{PathBits, Steps, Terms}
use Rattle.rv_faults.specs.declared.fault.Refusal.{Refusal}
use Rattle.rv_faults.specs.declared.fault.Refusal.TheVariants.{Refused}
use Rattle.rv_cmd.specs.declared.product.Made.{Made}
use Rattle.rv_cmd.specs.declared.product.Product.{Product}
use Rattle.rv_cmd.specs.declared.product.Product.TheVariants as product
use Rattle.rv_cmd.specs.Commands.Check.{undecided, verdict_text, witness_text}
use Rattle.rv_cmd.specs.Commands.CheckNetworks.{AreUndecided, TellsNetworks, networks_differ, networks_limits}
use Rattle.rv_cmd.specs.Limits.{first_refused, found_within}
use Rattle.rv_cmd.specs.inside.Products.{IsProductOf, IsRefusalOf, IsUntoldOf, product_text}
use Rattle.rv_cmd.specs.inside.Told.{told_finding}

-- what was made of two networks tells of them
pub record IsMadeOf (a b : Listing) (made : Made) : Type 0 where
  pub told : IsProductOf (found_within (networks_limits a b) (product_text made.product)) (TellsNetworks a b) made.product
  pub differs : made.differs ≡ networks_differ a b

abbrev pub IsAnswerOf : Listing → Listing → Result Made Refusal → Type 0
IsAnswerOf a b (Ok made) = IsMadeOf a b made
IsAnswerOf a b (Err refused) = IsUntoldOf 2 (networks_limits a b) (AreUndecided a b) refused

module _ (a b : Listing) (few : length a.net.ops + length b.net.ops ≤ MOST_OPS) where
  untold_by : a.net.lines ≡ b.net.lines → (found : Finding) (why : InputFault) → undecided found ≡ Some why
      → IsAnswerOf a b (Err (Refused 1 why))
  untold_by lines found why ends =
      inr (omega arith, (few, tt), record { finding = found; why = why; ends = ends; is = refl; lines = lines })

  answer_of : a.net.lines ≡ b.net.lines → (found : Finding) → IsTold a.net b.net found → IsAnswerOf a b (told_finding a.net.lines found)
  answer_of lines finding.Same alike =
      record {
        told = record { kept = (few, tt); is = refl; means = inl (refl, lines, alike) };
        differs = ap not (sym (found_alike a.net b.net lines alike));
      }
  answer_of lines (finding.Differs word) apart =
      record {
        told = record {
          kept = (few, tt);
          is = refl;
          means = inr (inl (record { word = word; is = refl; lines = lines; within = apart.0; apart = apart.1 }));
        };
        differs = ap not (sym (found_apart a.net b.net (word_of a.net.lines word) (length-word_of a.net.lines word) apart.1));
      }
  answer_of lines finding.Terms told = untold_by lines finding.Terms (Undecided MOST_TERMS Terms) refl
  answer_of lines finding.Steps told = untold_by lines finding.Steps (Undecided MOST_STEPS Steps) refl
  answer_of lines (finding.Paths left) told = untold_by lines (finding.Paths left) (Undecided left PathBits) refl

  apart_of : a.net.lines ≢ b.net.lines
      → IsAnswerOf a b (Ok (record { product = product.Verdict a.net.lines (Lines a.net.lines b.net.lines); differs = true }))
  apart_of apart =
      record {
        told = record { kept = (few, tt); is = refl; means = inr (inr (refl, apart)) };
        differs = ap not (sym (apart_by_lines a.net b.net apart));
      }

-- what is made of networks that the texts give
module _ (a b : Listing) (mine others : Network) (first : mine ≡ a.net) (second : others ≡ b.net)
    (few : length mine.ops + length others.ops ≤ MOST_OPS) where
  few_given : length a.net.ops + length b.net.ops ≤ MOST_OPS
  few_given =
      subst (λ (n : ℕ). n ≤ MOST_OPS) (ap (λ (n : Network). length n.ops + length others.ops) first ∙ ap (λ (n : Network). length a.net.ops + length n.ops) second) few

  pub networks-answer : (lines : ℕ) → lines ≡ mine.lines → mine.lines ≡ others.lines → (found : Finding) → IsTold mine others found
      → (answer : Result Made Refusal) → answer ≡ told_finding lines found → IsAnswerOf a b answer
  networks-answer lines counted same found told answer is =
      let wide : lines ≡ a.net.lines = counted ∙ ap (λ (n : Network). n.lines) first in
      let both : a.net.lines ≡ b.net.lines = sym wide ∙ counted ∙ same ∙ ap (λ (n : Network). n.lines) second in
      let given : IsTold a.net b.net found = subst (λ (n : Network). IsTold a.net n found) second (subst (λ (n : Network). IsTold n others found) first told) in
      subst (IsAnswerOf a b) (ap (λ n. told_finding n found) (sym wide) ∙ sym is) (answer_of a b few_given both found given)

  pub networks-by-lines : (lines wide : ℕ) → lines ≡ mine.lines → wide ≡ others.lines → lines ≢ wide → (made : Made)
      → made.product ≡ product.Verdict lines (Lines lines wide) → made.differs ≡ true → IsMadeOf a b made
  networks-by-lines lines wide counted many apart made product_is differs_is =
      let one : lines ≡ a.net.lines = counted ∙ ap (λ (n : Network). n.lines) first in
      let two : wide ≡ b.net.lines = many ∙ ap (λ (n : Network). n.lines) second in
      let made_is : ◌≡◌ {A = Made} (record { product = product.Verdict a.net.lines (Lines a.net.lines b.net.lines); differs = true }) made =
      sym (λ i. record { product = (product_is ∙ (λ j. product.Verdict (one j) (Lines (one j) (two j)))) i; differs = differs_is i }) in
      subst (IsMadeOf a b) made_is (apart_of a b few_given (λ same. apart (one ∙ same ∙ sym two)))

-- too many operations
pub networks-refused : (a b : Listing) (mine others : Network) (count : ℕ) (refused : Refusal) → mine ≡ a.net → others ≡ b.net
    → count ≡ length mine.ops + length others.ops → MOST_OPS < count → refused ≡ Refused 1 (TooManyOps count MOST_OPS)
    → IsUntoldOf 2 (networks_limits a b) (AreUndecided a b) refused
networks-refused a b mine others count refused first second counted many is =
    let given : count ≡ length a.net.ops + length b.net.ops =
    counted ∙ ap (λ (n : Network). length n.ops + length others.ops) first ∙ ap (λ (n : Network). length a.net.ops + length n.ops) second in
    let over : MOST_OPS < length a.net.ops + length b.net.ops = subst (λ (n : ℕ). MOST_OPS < n) given many in
    inl (subst (IsRefusalOf 2 (networks_limits a b)) (ap (λ n. Refused 1 (TooManyOps n MOST_OPS)) (sym given) ∙ sym is)
    (omega arith, rw (lt-ltb MOST_OPS (length a.net.ops + length b.net.ops) over) refl))

-- ---- an answer, clause by clause

pub answer-made : (a b : Listing) (answer : Result Made Refusal) → IsAnswerOf a b answer
    → IfOk answer (λ made. IsProductOf (found_within (networks_limits a b) (product_text made.product)) (TellsNetworks a b) made.product)
answer-made a b (Ok made) is = is.told
answer-made a b (Err refused) is = tt

pub answer-differs : (a b : Listing) (answer : Result Made Refusal) → IsAnswerOf a b answer → IfOk answer (λ made. made.differs ≡ networks_differ a b)
answer-differs a b (Ok made) is = is.differs
answer-differs a b (Err refused) is = tt
