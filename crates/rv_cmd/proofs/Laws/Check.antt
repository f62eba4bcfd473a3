-- What `check` answers: by the definitions alone, its verdict is that of the circuit and the network.
use Rattle.std.proofs.Common.{◌≡◌, ◌≢◌, ◌⊎◌, ◌↔◌, ◌≤◌, ◌<◌, ◌==◌, ℕ, zero, suc, ◌+◌, ◌^◌, Bool, true, false, length, List, [], nat_lt, if◌then◌else◌, Option, Some, None, Result, Ok, Err, refl, ap, sym, subst, ◌∙◌, inl, inr, arith}
use Rattle.std.proofs.lemmas.Bool.{eq-eqb, ne_eqb, true≢false}
use Rattle.std.specs.Option.{option_or}
use Rattle.std.specs.Prelude.{option_and_then, option_map}
use Rattle.rv_gate.specs.Circuit.{Cascade}
use Rattle.rv_gate.specs.Gate.{run}
use Rattle.rv_gate.specs.Word.{word_of}
use Rattle.rv_gate.specs.inside.laws.WordLaws.{length-word_of}
use Rattle.rv_gate.specs.FirstAnswer.{first}
use Rattle.rv_net.specs.Denotes.{Denotes}
use Rattle.rv_net.specs.Op.{Network}
use Rattle.rv_sums.specs.Finding.{Breaks}
use Rattle.rv_sums.specs.declared.finding.Finding.{Finding}
use Rattle.rv_qasm.specs.Reading.{Listing}
use Rattle.rv_check.specs.Check.{check_of, compared, first_difference, first_large, large_at, verdict_of}
use Rattle.rv_check.specs.Laws.{IsExact, NoneLarge, OnSameLines}
use Rattle.rv_check.specs.Reduced.{first_large_place}
use Rattle.rv_check.specs.declared.checking.CheckFault.{CheckFault}
use Rattle.rv_check.specs.declared.checking.CheckFault.TheVariants.{CircuitLines, Mem, NetLines, TooLarge}
use Rattle.rv_check.specs.declared.checking.TheConstants.{MOST_CHECKED_LINES}
use Rattle.rv_check.specs.declared.checking.Verdict.{Verdict}
use Rattle.rv_check.specs.declared.checking.Verdict.TheVariants.{Differs, Lines, Same}
use Rattle.rv_faults.specs.declared.fault.InputFault.{InputFault}
use Rattle.rv_faults.specs.declared.fault.InputFault.TheVariants.{TooManyLines}
use Rattle.rv_faults.specs.declared.fault.Refusal.{Refusal}
use Rattle.rv_faults.specs.declared.fault.Refusal.TheVariants.{Refused}
use Rattle.rv_cmd.specs.declared.product.Product.TheVariants as product
use Rattle.rv_cmd.specs.Commands.Check.{CanBeChecked, IsUndecidedByPaths, TellsByPaths, TellsVerdict, check_differs, check_limits, check_report, no_verdict, says_different, too_large, undecided, verdict_for, verdict_text, witness_text}
use Rattle.rv_cmd.specs.Limits.{AreKept, first_refused, found_within}
use Rattle.rv_cmd.specs.inside.Products.{IsProductOf, IsRefusalOf, IsUntoldOf, product_text}
use Rattle.rv_check.proofs.inside.Meaning.{denotes_from_none, exact, none_from_denotes}
use Rattle.rv_cmd.proofs.inside.Limits.{all-kept, are-kept}

abbrev answered : Verdict → Result Verdict CheckFault
answered verdict = Ok verdict

-- ---- a coefficient beyond the limit has a word and a place

abbrev IsCoefficient : Option CheckFault → Type 0
IsCoefficient (Some (TooLarge word place)) = Unit {0}
IsCoefficient (Some fault) = ⊥
IsCoefficient None = Unit {0}

coefficients : (net : Network) (k m : ℕ) → IsCoefficient (first (large_at net) k m)
unfolding first
coefficients net k zero = tt
coefficients net k (suc m) = by (first_large_place net.ops _) (coefficients net (k + 1) m)
  where
    by : (place : Option ℕ) → IsCoefficient (first (large_at net) (k + 1) m)
        → IsCoefficient (option_or (option_map (λ p. TooLarge k p) place) (first (large_at net) (k + 1) m))
    by (Some place) rest = tt
    by None rest = rest

large-coefficient : (net : Network) → IsCoefficient (first_large net)
unfolding first_large
large-coefficient net = coefficients net 0 (2 ^ net.lines)

module _ (c : Cascade) (net : Network) where
  -- ---- the answers and the limits, by the tests

  abbrev answer_by : Bool → Bool → Bool → Option CheckFault → Option ℕ → Result Verdict CheckFault
  answer_by wide broad same large difference =
      if wide then Err (CircuitLines (length c.names))
      else (if broad then Err (NetLines net.lines)
      else (if same then compared large difference
      else Ok (Lines (length c.names) net.lines)))

  abbrev refusal_by : Bool → Bool → Bool → Option CheckFault → Option Refusal
  refusal_by wide broad same large =
      option_or (if wide then Some (Refused 0 (TooManyLines (length c.names) MOST_CHECKED_LINES)) else None)
      (option_or (if broad then Some (Refused 1 (TooManyLines net.lines MOST_CHECKED_LINES)) else None)
      (option_or (option_map (Refused 1) (if same then option_and_then (too_large net.lines) large else None)) None))

  abbrev verdict_by : Bool → Option ℕ → Verdict
  verdict_by same difference = if same then verdict_of difference else Lines (length c.names) net.lines

  answers-by : (wide broad same : Bool) (large : Option CheckFault) (difference : Option ℕ) (verdict : Verdict)
      → answer_by wide broad same large difference ≡ Ok verdict → (refusal_by wide broad same large ≡ None) × (verdict_by same difference ≡ verdict)
  answers-by true broad same large difference verdict is = absurd (let z = is in cc)
  answers-by false true same large difference verdict is = absurd (let z = is in cc)
  answers-by false false false large difference verdict is = (refl, let z = is in cc)
  answers-by false false true (Some fault) difference verdict is = absurd (let z = is in cc)
  answers-by false false true None difference verdict is = (refl, let z = is in cc)

  refuses-by : (wide broad same : Bool) (large : Option CheckFault) (difference : Option ℕ) (fault : CheckFault) → IsCoefficient large
      → answer_by wide broad same large difference ≡ Err fault → refusal_by wide broad same large ≡ Some (no_verdict net.lines fault)
  refuses-by true broad same large difference fault are is =
      let told : CircuitLines (length c.names) ≡ fault = let z = is in cc in ap (λ f. Some (no_verdict net.lines f)) told
  refuses-by false true same large difference fault are is =
      let told : NetLines net.lines ≡ fault = let z = is in cc in ap (λ f. Some (no_verdict net.lines f)) told
  refuses-by false false false large difference fault are is = absurd (let z = is in cc)
  refuses-by false false true None difference fault are is = absurd (let z = is in cc)
  refuses-by false false true (Some (TooLarge word place)) difference fault are is =
      let told : TooLarge word place ≡ fault = let z = is in cc in ap (λ f. Some (no_verdict net.lines f)) told
  refuses-by false false true (Some (CircuitLines n)) difference fault are is = absurd are
  refuses-by false false true (Some (NetLines n)) difference fault are is = absurd are
  refuses-by false false true (Some Mem) difference fault are is = absurd are

  check-finds : (verdict : Verdict) → check_of c net ≡ Ok verdict → (first_refused (check_limits c net) ≡ None) × (verdict_for c net ≡ verdict)
  unfolding check_of
  check-finds verdict is =
      answers-by (nat_lt MOST_CHECKED_LINES (length c.names)) (nat_lt MOST_CHECKED_LINES net.lines) (length c.names == net.lines) (first_large net)
      (first_difference c.gates net) verdict is

  check-refuses : (fault : CheckFault) → check_of c net ≡ Err fault → first_refused (check_limits c net) ≡ Some (no_verdict net.lines fault)
  unfolding check_of
  check-refuses fault is =
      refuses-by (nat_lt MOST_CHECKED_LINES (length c.names)) (nat_lt MOST_CHECKED_LINES net.lines) (length c.names == net.lines) (first_large net)
      (first_difference c.gates net) fault (large-coefficient net) is

  never-memory : (wide broad same : Bool) (large : Option CheckFault) (difference : Option ℕ) → IsCoefficient large
      → answer_by wide broad same large difference ≡ Err Mem → ⊥
  never-memory true broad same large difference are is = let z = is in cc
  never-memory false true same large difference are is = let z = is in cc
  never-memory false false false large difference are is = let z = is in cc
  never-memory false false true None difference are is = let z = is in cc
  never-memory false false true (Some (TooLarge word place)) difference are is = let z = is in cc
  never-memory false false true (Some (CircuitLines n)) difference are is = are
  never-memory false false true (Some (NetLines n)) difference are is = are
  never-memory false false true (Some Mem) difference are is = are

  no-memory : check_of c net ≡ Err Mem → ⊥
  unfolding check_of
  no-memory is =
      never-memory (nat_lt MOST_CHECKED_LINES (length c.names)) (nat_lt MOST_CHECKED_LINES net.lines) (length c.names == net.lines) (first_large net)
      (first_difference c.gates net) (large-coefficient net) is

  -- what is refused is of one of two inputs
  refusal-is : (fault : CheckFault) → first_refused (check_limits c net) ≡ Some (no_verdict net.lines fault) → IsRefusalOf 2 (check_limits c net) (no_verdict net.lines fault)
  refusal-is (CircuitLines n) is = (omega arith, is)
  refusal-is (NetLines n) is = (omega arith, is)
  refusal-is (TooLarge word place) is = (omega arith, is)
  refusal-is Mem is = tt

  pub check-refusal : (fault : CheckFault) → (fault ≡ Mem) ⊎ (check_of c net ≡ Err fault) → IsRefusalOf 2 (check_limits c net) (no_verdict net.lines fault)
  check-refusal fault (inl memory) = subst (λ f. IsRefusalOf 2 (check_limits c net) (no_verdict net.lines f)) (sym memory) tt
  check-refusal fault (inr is) = refusal-is fault (check-refuses fault is)

  -- ---- the meaning

  -- the lines are few and no coefficient is large if there is a verdict other than on the lines
  none-large : (verdict : Verdict) → IsExact c net (Ok verdict) → length c.names ≡ net.lines → OnSameLines c net × NoneLarge net
  none-large Same by same = let found = by.same.0 refl in (found.0, found.1)
  none-large (Differs word) by same = let found = (by.differs word).0 refl in (found.0, found.1)
  none-large (Lines n m) by same = let found = (by.lines n m).0 refl in absurd (found.4 (sym found.0 ∙ same ∙ found.1))

  within : (verdict : Verdict) → verdict_for c net ≡ verdict → answered (verdict_for c net) ≡ answered verdict
  within verdict is = ap (λ (v : Verdict). Ok v) is

  of_ok : (verdict other : Verdict) → answered verdict ≡ answered other → verdict ≡ other
  of_ok verdict other is = let z = is in cc

-- ---- the limits in the subject's terms

module _ (c : Cascade) (net : Network) where
  abbrev Answer : Type 0
  Answer = Result Verdict CheckFault

  kept-only : (answer : Answer) → check_of c net ≡ answer → AreKept (check_limits c net) → length c.names ≡ net.lines → NoneLarge net
  kept-only (Ok verdict) is kept same = (none-large c net verdict (subst (IsExact c net) is (exact c net)) same).1
  kept-only (Err fault) is kept same = absurd (let z = sym (all-kept (check_limits c net) kept) ∙ check-refuses c net fault is in cc)

  kept-each : (answer : Answer) → check_of c net ≡ answer → CanBeChecked c net → AreKept (check_limits c net)
  kept-each (Ok verdict) is can = are-kept (check_limits c net) (check-finds c net verdict is).0
  kept-each (Err (CircuitLines n)) is can = let over = ((exact c net).circuit_lines n).0 is in absurd (omega (arith, over.0, over.1, can.circuit_lines))
  kept-each (Err (NetLines n)) is can = let over = ((exact c net).net_lines n).0 is in absurd (omega (arith, over.1, over.2, can.net_lines))
  kept-each (Err (TooLarge word place)) is can =
      let over = ((exact c net).too_large word place).0 is in absurd (can.coefficients over.0.0 word place over.1.word over.1.within over.1.large)
  kept-each (Err Mem) is can = absurd (no-memory c net is)

  pub check-kept : AreKept (check_limits c net) ↔ CanBeChecked c net
  check-kept = (
    λ kept. record { circuit_lines = kept.0; net_lines = kept.1.0; coefficients = kept-only (check_of c net) refl kept },
    kept-each (check_of c net) refl,
  )

-- ---- the report

-- only `same` is no difference
same-only : (verdict : Verdict) → (says_different verdict ≡ false) ↔ (verdict ≡ Same)
same-only Same = (λ is. refl, λ is. refl)
same-only (Lines n m) = (λ is. absurd (true≢false is), λ is. absurd (let z = is in cc))
same-only (Differs word) = (λ is. absurd (true≢false is), λ is. absurd (let z = is in cc))

-- the law
pub check-means : (c : Cascade) (listing : Listing) → IsExact c listing.net (Ok (verdict_for c listing.net))
    → AreKept (check_limits c listing.net) → TellsVerdict c listing (verdict_text listing.net.lines (verdict_for c listing.net))
check-means c listing by kept =
    let net : Network = listing.net in
    let verdict : Verdict = verdict_for c net in
    record {
      is = refl;
      same = (
        λ is. let found = by.same.0 (within c net Same is) in (found.0.0, found.2),
        λ given. let few = none-large c net verdict by given.0 in of_ok c net verdict Same (by.same.1 (few.0, few.1, given.1)),
      );
      differs = λ word. (
        λ is. let found = (by.differs word).0 (within c net (Differs word) is) in (found.0.0, found.2),
        λ given. let few = none-large c net verdict by given.0 in of_ok c net verdict (Differs word) ((by.differs word).1 (few.0, few.1, given.1)),
      );
      lines = λ n m. (
        λ is. let found = (by.lines n m).0 (within c net (Lines n m) is) in (found.0, found.1, found.4),
        λ given.
            let wide : n ≤ MOST_CHECKED_LINES = subst (λ (k : ℕ). k ≤ MOST_CHECKED_LINES) given.0 kept.0 in
            let broad : m ≤ MOST_CHECKED_LINES = subst (λ (k : ℕ). k ≤ MOST_CHECKED_LINES) given.1 kept.1.0 in
            of_ok c net verdict (Lines n m) ((by.lines n m).1 (given.0, given.1, wide, broad, given.2)),
      );
      status = same-only verdict;
    }

-- the code found this verdict on a network that the text gives
pub check-answers : (c : Cascade) (listing : Listing) (net : Network) (lines : ℕ) (verdict : Verdict) → net ≡ listing.net → lines ≡ net.lines
    → check_of c net ≡ Ok verdict → (answered verdict ≡ Err Mem) ⊎ IsExact c net (answered verdict)
    → IsProductOf (check_report c listing) (TellsVerdict c listing) (product.Verdict lines verdict)
check-answers c listing net lines verdict given counted is (inl memory) = absurd (let z = memory in cc)
check-answers c listing net lines verdict given counted is (inr by) =
    let Found : Network → Type 0 = λ n. check_of c n ≡ Ok verdict in
    let Exact : Network → Type 0 = λ n. IsExact c n (Ok verdict) in
    let found = check-finds c listing.net verdict (subst Found given is) in
    let kept = are-kept (check_limits c listing.net) found.0 in
    let wide : lines ≡ listing.net.lines = counted ∙ ap (λ (n : Network). n.lines) given in
    let By : Verdict → Type 0 = λ v. IsExact c listing.net (Ok v) in
    record {
      kept = kept;
      is = ap (λ n. verdict_text n verdict) wide ∙ ap (verdict_text listing.net.lines) (sym found.1);
      means = check-means c listing (subst By (sym found.1) (subst Exact given by)) kept;
    }

pub check-says : (c : Cascade) (listing : Listing) (net : Network) (verdict : Verdict) (says : Bool) → net ≡ listing.net → says ≡ says_different verdict
    → check_of c net ≡ Ok verdict → says ≡ check_differs c listing
check-says c listing net verdict says given said is =
    let Found : Network → Type 0 = λ n. check_of c n ≡ Ok verdict in
    said ∙ ap says_different (sym (check-finds c listing.net verdict (subst Found given is)).1)

-- what it refuses
pub check-refuses-of : (c : Cascade) (listing : Listing) (net : Network) (lines : ℕ) (fault : CheckFault) (refusal : Refusal) → net ≡ listing.net → lines ≡ net.lines
    → refusal ≡ no_verdict lines fault → (fault ≡ Mem) ⊎ (check_of c net ≡ Err fault) → IsRefusalOf 2 (check_limits c listing.net) refusal
check-refuses-of c listing net lines fault refusal given counted told is =
    let By : Network → Type 0 = λ n. IsRefusalOf 2 (check_limits c n) (no_verdict n.lines fault) in
    let Told : Refusal → Type 0 = λ r. IsRefusalOf 2 (check_limits c listing.net) r in
    let same : no_verdict listing.net.lines fault ≡ refusal =
    ap (λ (n : Network). no_verdict n.lines fault) (sym given) ∙ ap (λ n. no_verdict n fault) (sym counted) ∙ sym told in
    subst Told same (subst By given (check-refusal c net fault is))

-- ---- by sums over paths

module _ (c : Cascade) (listing : Listing) where
  abbrev differs_by : Bool → Option ℕ → Bool
  differs_by same difference = says_different (if same then verdict_of difference else Lines (length c.names) listing.net.lines)

  -- the question, where both have the same lines
  on-same-lines : length c.names ≡ listing.net.lines → check_differs c listing ≡ says_different (verdict_of (first_difference c.gates listing.net))
  on-same-lines lines = ap (λ (same : Bool). differs_by same (first_difference c.gates listing.net)) (eq-eqb (length c.names) listing.net.lines lines)

  same-by : length c.names ≡ listing.net.lines → Denotes listing.net.lines listing.net.ops (run c.gates) → check_differs c listing ≡ false
  same-by lines denotes = on-same-lines lines ∙ ap (λ difference. says_different (verdict_of difference)) (none_from_denotes c.gates listing.net denotes)

  no-break : (word : ℕ) → Denotes listing.net.lines listing.net.ops (run c.gates) → Breaks c.gates listing.net word → ⊥
  unfolding Denotes
  no-break word denotes breaks = breaks.2 (denotes (word_of listing.net.lines word) breaks.0 (length-word_of listing.net.lines word) breaks.1)

  apart-by : (word : ℕ) → length c.names ≡ listing.net.lines → Breaks c.gates listing.net word → check_differs c listing ≡ true
  apart-by word lines breaks = on-same-lines lines ∙ by (first_difference c.gates listing.net) refl
    where
      by : (difference : Option ℕ) → first_difference c.gates listing.net ≡ difference → says_different (verdict_of difference) ≡ true
      by (Some other) is = refl
      by None is = absurd (no-break word (denotes_from_none c.gates listing.net is) breaks)

  by-lines : length c.names ≢ listing.net.lines → check_differs c listing ≡ true
  by-lines apart = ap (λ (same : Bool). differs_by same (first_difference c.gates listing.net)) (ne_eqb (length c.names) listing.net.lines apart)

-- what is told of a network that the text gives
module _ (c : Cascade) (listing : Listing) (net : Network) (given : net ≡ listing.net) where
  pub paths-same : (lines : ℕ) → lines ≡ net.lines → length c.names ≡ lines → Denotes net.lines net.ops (run c.gates)
      → IsProductOf (found_within [] (product_text (product.Verdict lines Same))) (TellsByPaths c listing) (product.Verdict lines Same)
  paths-same lines counted same denotes =
      let Denoted : Network → Type 0 = λ n. Denotes n.lines n.ops (run c.gates) in
      let wide : lines ≡ listing.net.lines = counted ∙ ap (λ (n : Network). n.lines) given in
      record { kept = tt; is = refl; means = inl (ap (λ n. verdict_text n Same) wide, same ∙ wide, subst Denoted given denotes) }

  pub paths-alike : (lines : ℕ) → lines ≡ net.lines → length c.names ≡ lines → Denotes net.lines net.ops (run c.gates) → false ≡ check_differs c listing
  paths-alike lines counted same denotes =
      let Denoted : Network → Type 0 = λ n. Denotes n.lines n.ops (run c.gates) in
      sym (same-by c listing (same ∙ counted ∙ ap (λ (n : Network). n.lines) given) (subst Denoted given denotes))

  pub paths-apart : (lines word : ℕ) → lines ≡ net.lines → length c.names ≡ lines → word < 2 ^ net.lines → Breaks c.gates net word
      → IsProductOf (found_within [] (product_text (product.Witness lines word))) (TellsByPaths c listing) (product.Witness lines word)
  paths-apart lines word counted same within breaks =
      let Broken : Network → Type 0 = λ n. (word < 2 ^ n.lines) × Breaks c.gates n word in
      let wide : lines ≡ listing.net.lines = counted ∙ ap (λ (n : Network). n.lines) given in
      let broken : (word < 2 ^ listing.net.lines) × Breaks c.gates listing.net word = subst Broken given (within, breaks) in
      record {
        kept = tt;
        is = refl;
        means = inr (inl (record { word = word; is = ap (λ n. witness_text n word) wide; lines = same ∙ wide; within = broken.0; breaks = broken.1 }));
      }

  pub paths-differ : (lines word : ℕ) → lines ≡ net.lines → length c.names ≡ lines → Breaks c.gates net word → true ≡ check_differs c listing
  paths-differ lines word counted same breaks =
      let Broken : Network → Type 0 = λ n. Breaks c.gates n word in
      sym (apart-by c listing word (same ∙ counted ∙ ap (λ (n : Network). n.lines) given) (subst Broken given breaks))

  pub paths-lines : (wide lines : ℕ) → wide ≡ length c.names → lines ≡ net.lines → wide ≢ lines
      → IsProductOf (found_within [] (product_text (product.Verdict lines (Lines wide lines)))) (TellsByPaths c listing) (product.Verdict lines (Lines wide lines))
  paths-lines wide lines first second apart =
      let many : lines ≡ listing.net.lines = second ∙ ap (λ (n : Network). n.lines) given in
      record {
        kept = tt;
        is = refl;
        means = inr (inr (
          ap (λ n. verdict_text n (Lines wide n)) many ∙ ap (λ n. verdict_text listing.net.lines (Lines n listing.net.lines)) first,
          λ same. apart (first ∙ same ∙ sym many),
        ));
      }

  pub paths-on-others : (wide lines : ℕ) → wide ≡ length c.names → lines ≡ net.lines → wide ≢ lines → true ≡ check_differs c listing
  paths-on-others wide lines first second apart =
      sym (by-lines c listing (λ same. apart (first ∙ same ∙ sym (second ∙ ap (λ (n : Network). n.lines) given))))

  pub paths-untold : (lines : ℕ) (found : Finding) (why : InputFault) (refused : Refusal) → lines ≡ net.lines → length c.names ≡ lines
      → undecided found ≡ Some why → refused ≡ Refused 1 why → IsUntoldOf 2 [] (IsUndecidedByPaths c listing) refused
  paths-untold lines found why refused counted same ends is =
      let Untold : Refusal → Type 0 = IsUntoldOf 2 [] (IsUndecidedByPaths c listing) in
      subst Untold (sym is) (inr (
        omega arith,
        tt,
        record {
          finding = found;
          why = why;
          ends = ends;
          is = refl;
          lines = same ∙ counted ∙ ap (λ (n : Network). n.lines) given;
        },
      ))
