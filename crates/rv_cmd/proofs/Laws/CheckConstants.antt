-- What `check --by paths --constants` answers.
use Rattle.std.proofs.Common.{◌≡◌, ◌≢◌, ◌≤◌, ◌<◌, ◌+◌, ◌^◌, ◌==◌, if◌then◌else◌, nat_lt, ℕ, Bool, true, false, length, List, [], Option, Some, None, Result, Ok, Err, IfOk, IsTrue, refl, ap, sym, subst, ◌∙◌, inl, inr, arith}
use Rattle.std.proofs.lemmas.Bool.{eq-eqb, ltb-false, ltb-true, ne_eqb, true≢false}
use Rattle.std.proofs.Math.ListN.{get_or-eq_default}
use Rattle.std.specs.Prelude.{slice_index_or}
use Rattle.rv_gate.specs.Circuit.{Cascade}
use Rattle.rv_gate.specs.Gate.{run}
use Rattle.rv_gate.specs.Word.{bit_of, word_of}
use Rattle.rv_gate.specs.declared.circuit.Mark.{Mark}
use Rattle.rv_gate.specs.declared.circuit.Mark.TheVariants.{Input}
use Rattle.rv_gate.specs.inside.laws.WordLaws.{length-word_of}
use Rattle.rv_gate.proofs.AllBelow.{all_below-at, all_below-from}
use Rattle.rv_gate.proofs.FirstAnswer.{none_at, none_first}
use Rattle.rv_net.specs.Op.{Network}
use Rattle.rv_qasm.specs.Reading.{Listing}
use Rattle.rv_check.specs.Check.{difference_at, verdict_of}
use Rattle.rv_check.specs.declared.checking.Verdict.TheVariants.{Lines, Same}
use Rattle.rv_check.proofs.inside.Meaning.{agrees_unless, no_break}
use Rattle.rv_sums.specs.Finding.{Breaks, DenotesFrom, HasConstants, IsRightFrom, may_begin}
use Rattle.rv_sums.specs.declared.finding.Finding.{Finding}
use Rattle.rv_sums.specs.declared.finding.Finding.TheVariants as finding
use Rattle.rv_sums.specs.declared.by_paths.TheConstants.{MOST_STEPS, MOST_TERMS}
use Rattle.rv_faults.specs.declared.fault.InputFault.{InputFault}
use Rattle.rv_faults.specs.declared.fault.InputFault.TheVariants.{Undecided}
use Rattle.rv_faults.specs.declared.fault.Measure.TheVariants.{PathBits, Steps, Terms}
use Rattle.rv_faults.specs.declared.fault.Refusal.{Refusal}
use Rattle.rv_faults.specs.declared.fault.Refusal.TheVariants.{Refused}
use Rattle.rv_cmd.specs.declared.product.Made.{Made}
use Rattle.rv_cmd.specs.declared.product.Product.{Product}
use Rattle.rv_cmd.specs.declared.product.Product.TheVariants as product
use Rattle.rv_cmd.specs.Commands.Check.{IsUndecidedByPaths, says_different, undecided, verdict_text, witness_text}
use Rattle.rv_cmd.specs.Commands.CheckConstants.{TellsFrom, break_from, differs_from, first_break, holds_constants}
use Rattle.rv_cmd.specs.Limits.{found_within}
use Rattle.rv_cmd.specs.inside.Products.{IsProductOf, IsUntoldOf, product_text}
use Rattle.rv_cmd.specs.inside.Told.{told_finding}

-- ---- the words that hold the constants

beyond : (marks : List Mark) (line : ℕ) → length marks ≤ line → slice_index_or marks line Input ≡ Input
beyond marks line over = get_or-eq_default marks Input over

holds-has : (marks : List Mark) (word : List Bool) → holds_constants marks word ≡ true → HasConstants marks word
holds-has marks word holds line = by (nat_lt line (length marks)) refl
  where
    by : (below : Bool) → nat_lt line (length marks) ≡ below → IsTrue (may_begin (slice_index_or marks line Input) (bit_of word line))
    by true is =
        all_below-at (λ at. may_begin (slice_index_or marks at Input) (bit_of word at)) (length marks) line holds (ltb-true line (length marks) is)
    by false is = rw (beyond marks line (ltb-false line (length marks) is)) refl

has-holds : (marks : List Mark) (word : List Bool) → HasConstants marks word → holds_constants marks word ≡ true
has-holds marks word has =
    all_below-from (λ at. may_begin (slice_index_or marks at Input) (bit_of word at)) (length marks)
    (λ line lt. has line)

-- ---- whether they differ

module _ (c : Cascade) (net : Network) where
  abbrev break_by : Bool → ℕ → Option ℕ
  break_by holds number = if holds then difference_at c.gates net number else None

  nowhere : DenotesFrom c.constants net.lines net.ops (run c.gates) → (number : ℕ) → break_from c net number ≡ None
  nowhere denotes number = by (holds_constants c.constants (word_of net.lines number)) refl
    where
      by : (holds : Bool) → holds_constants c.constants (word_of net.lines number) ≡ holds → break_by holds number ≡ None
      by false is = refl
      by true is =
          agrees_unless c.gates net number (λ breaks.
          breaks.2 (denotes (word_of net.lines number) breaks.0 (length-word_of net.lines number) breaks.1 (holds-has c.constants (word_of net.lines number) is)))

  none-from : DenotesFrom c.constants net.lines net.ops (run c.gates) → first_break c net ≡ None
  unfolding first_break
  none-from denotes = none_first (break_from c net) 0 (2 ^ net.lines) (λ number from below. nowhere denotes number)

  some-from : (number : ℕ) → number < 2 ^ net.lines → HasConstants c.constants (word_of net.lines number) → Breaks c.gates net number
      → says_different (verdict_of (first_break c net)) ≡ true
  unfolding first_break
  some-from number below has breaks = by (first_break c net) refl
    where
      by : (o : Option ℕ) → first_break c net ≡ o → says_different (verdict_of o) ≡ true
      by (Some other) is = refl
      by None is =
          let here : break_from c net number ≡ None = none_at (break_from c net) 0 (2 ^ net.lines) number is (omega arith) (omega arith) in
          let holds : holds_constants c.constants (word_of net.lines number) ≡ true = has-holds c.constants (word_of net.lines number) has in
          absurd (no_break c.gates net number (ap (λ holds. break_by holds number) (sym holds) ∙ here) breaks)

module _ (c : Cascade) (listing : Listing) where
  abbrev differs_by : Bool → Bool
  differs_by same =
      says_different (if same then verdict_of (first_break c listing.net) else Lines (length c.names) listing.net.lines)

  on-same-lines : length c.names ≡ listing.net.lines → differs_from c listing ≡ says_different (verdict_of (first_break c listing.net))
  on-same-lines lines = ap differs_by (eq-eqb (length c.names) listing.net.lines lines)

-- ---- what is told

-- what was made of a circuit and a network tells of them
pub record IsMadeFrom (c : Cascade) (listing : Listing) (made : Made) : Type 0 where
  pub told : IsProductOf (found_within [] (product_text made.product)) (TellsFrom c listing) made.product
  pub differs : made.differs ≡ differs_from c listing

abbrev pub IsAnswerFrom : Cascade → Listing → Result Made Refusal → Type 0
IsAnswerFrom c listing (Ok made) = IsMadeFrom c listing made
IsAnswerFrom c listing (Err refused) = IsUntoldOf 2 [] (IsUndecidedByPaths c listing) refused

module _ (c : Cascade) (listing : Listing) where
  untold_by : length c.names ≡ listing.net.lines → (found : Finding) (why : InputFault) → undecided found ≡ Some why
      → IsAnswerFrom c listing (Err (Refused 1 why))
  untold_by lines found why ends = inr (omega arith, tt, record { finding = found; why = why; ends = ends; is = refl; lines = lines })

  answer_of : length c.names ≡ listing.net.lines → (found : Finding) → IsRightFrom c listing.net found
      → IsAnswerFrom c listing (told_finding listing.net.lines found)
  answer_of lines finding.Same denotes =
      record {
        told = record { kept = tt; is = refl; means = inl (refl, lines, denotes) };
        differs =
            sym (on-same-lines c listing lines ∙ ap (λ first. says_different (verdict_of first)) (none-from c listing.net denotes));
      }
  answer_of lines (finding.Differs word) apart =
      record {
        told = record {
          kept = tt;
          is = refl;
          means = inr (inl (record { word = word; is = refl; lines = lines; within = apart.0; holds = apart.1; breaks = apart.2 }));
        };
        differs = sym (on-same-lines c listing lines ∙ some-from c listing.net word apart.0 apart.1 apart.2);
      }
  answer_of lines finding.Terms told = untold_by lines finding.Terms (Undecided MOST_TERMS Terms) refl
  answer_of lines finding.Steps told = untold_by lines finding.Steps (Undecided MOST_STEPS Steps) refl
  answer_of lines (finding.Paths left) told = untold_by lines (finding.Paths left) (Undecided left PathBits) refl

  apart_of : length c.names ≢ listing.net.lines
      → IsAnswerFrom c listing (Ok (record { product = product.Verdict listing.net.lines (Lines (length c.names) listing.net.lines); differs = true }))
  apart_of apart =
      record {
        told = record { kept = tt; is = refl; means = inr (inr (refl, apart)) };
        differs = sym (ap (differs_by c listing) (ne_eqb (length c.names) listing.net.lines apart));
      }

-- what is made of a network that the text gives
module _ (c : Cascade) (listing : Listing) (net : Network) (given : net ≡ listing.net) where
  pub constants-answer : (lines : ℕ) → lines ≡ net.lines → length c.names ≡ lines → (found : Finding) → IsRightFrom c net found
      → (answer : Result Made Refusal) → answer ≡ told_finding lines found → IsAnswerFrom c listing answer
  constants-answer lines counted same found right answer is =
      let wide : lines ≡ listing.net.lines = counted ∙ ap (λ (n : Network). n.lines) given in
      subst (IsAnswerFrom c listing) (ap (λ n. told_finding n found) (sym wide) ∙ sym is)
      (answer_of c listing (same ∙ wide) found (subst (λ (n : Network). IsRightFrom c n found) given right))

  pub constants-by-lines : (lines wide : ℕ) → lines ≡ net.lines → wide ≡ length c.names → wide ≢ lines → (made : Made)
      → made.product ≡ product.Verdict lines (Lines wide lines) → made.differs ≡ true → IsMadeFrom c listing made
  constants-by-lines lines wide counted many apart made product_is differs_is =
      let one : lines ≡ listing.net.lines = counted ∙ ap (λ (n : Network). n.lines) given in
      let made_is : ◌≡◌ {A = Made} (record { product = product.Verdict listing.net.lines (Lines (length c.names) listing.net.lines); differs = true }) made =
      sym (λ i. record { product = (product_is ∙ (λ j. product.Verdict (one j) (Lines (many j) (one j)))) i; differs = differs_is i }) in
      subst (IsMadeFrom c listing) made_is (apart_of c listing (λ same. apart (many ∙ same ∙ sym one)))

-- ---- an answer, clause by clause

pub answer-made : (c : Cascade) (listing : Listing) (answer : Result Made Refusal) → IsAnswerFrom c listing answer
    → IfOk answer (λ made. IsProductOf (found_within [] (product_text made.product)) (TellsFrom c listing) made.product)
answer-made c listing (Ok made) is = is.told
answer-made c listing (Err refused) is = tt

pub answer-differs : (c : Cascade) (listing : Listing) (answer : Result Made Refusal) → IsAnswerFrom c listing answer
    → IfOk answer (λ made. made.differs ≡ differs_from c listing)
answer-differs c listing (Ok made) is = is.differs
answer-differs c listing (Err refused) is = tt
