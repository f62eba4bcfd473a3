-- Completeness follows from how a run ends: the status, by what the contents ask for and the counts of faults.
use Rattle.std.proofs.Common.{◌≡◌, ◌≢◌, ◌≤◌, ◌⊎◌, ℕ, true, false, List, [], ◌∷◌, map, length, Result, Ok, Err, IsOk, refl, ap, sym, subst, ◌∙◌, inl, inr, arith}
use Rattle.std.proofs.lemmas.List.{length-map}
use Rattle.rv_io.specs.Faults.{Rose}
use Rattle.rv_io.specs.Sink.{SinkView}
use Rattle.rv_words.specs.Settings.{settings_of}
use Rattle.rv_words.specs.declared.asked.Settings.{Settings}
use Rattle.rv_words.specs.Table.{is_used, usage_of}
use Rattle.rv_words.specs.declared.command.Command.{Command}
use Rattle.rv_words.specs.declared.command.Command.TheVariants.{Demo, Simulate}
use Rattle.rv_words.specs.declared.fault.ArgumentFault.{ArgumentFault}
use Rattle.rv_words.specs.declared.fault.ArgumentFault.TheVariants.{Mem}
use Rattle.rv_faults.specs.declared.fault.Fault.TheVariants.{CannotRead, CannotWrite, Refused, TooLong, OutOfMemory}
use Rattle.rv_faults.specs.declared.fault.InputFault.{InputFault}
use Rattle.rv_faults.specs.declared.fault.InputFault.TheVariants.{Text}
use Rattle.rv_faults.specs.Fault.{status_of_input}
use Rattle.rv_faults.specs.Arguments.{status_of_arguments}
use Rattle.rv_inputs.specs.Contents.{Contents}
use Rattle.rv_cmd.specs.declared.run_end.RunEnd.{RunEnd}
use Rattle.rv_cmd.specs.declared.run_end.RunEnd.TheVariants.{Understood, ArgumentsRefused}
use Rattle.rv_cmd.specs.Commands.{row_for, row_of}
use Rattle.rv_cmd.specs.Headline.{AreUncounted, AsksToCompare, Compares, EndsAs, EndsLacking, Headline, IsCompleteBy, IsExact, IsExactBy, LeavesCounts, Performs, Scene, Written, WrittenBy, Yields, YieldsReport, status_of_run_end}
use Rattle.rv_cmd.specs.Names.{LIBRARY, names_read}
use Rattle.rv_cmd.specs.Row.{End, IsAccepted, Lacks, Outcome, Row, end_of, status_of_end}
use Rattle.rv_cmd.proofs.Accepted.{accepted-exact, demo-accepted}
use Rattle.rv_cmd.proofs.Alike.{IsAlike, commands_alike, differs-compared}
use Rattle.rv_cmd.proofs.Asked.{settings-counted}
use Rattle.rv_cmd.proofs.Found.{end-found}
use Rattle.rv_cmd.proofs.inside.Naming.{names_read-counted}

-- what is told of the contents gives the end, unless a call failed or memory was wanting
complete_performs : (row : Row) (names : List (List ℕ)) (old new : Scene) (end : End) (status : ℕ) → status ≡ status_of_end end
    → Performs row names old new end → old.files.tells ≡ true
    → Yields row (map old.files.held names) (status_of_end (end_of row (map old.files.held names))) old new status
complete_performs row names old new (Ok differs) status is p tells =
    let Of : Contents → ℕ = λ contents. status_of_end (end_of row contents) in
    inl (is ∙ ap (λ (o : Outcome). status_of_end o.end) (sym p.ends.asked) ∙ ap status_of_end (end-found row p.ends.writes.text p.contents) ∙ ap Of (p.told tells))
complete_performs row names old new (Err (Refused input why)) status is p tells =
    let Of : Contents → ℕ = λ contents. status_of_end (end_of row contents) in
    let At : Contents → Type 0 = λ contents. Lacks row contents (Refused input why) in
    elim p.ends.faulty [
      | inl has ↦ inl (is ∙ ap status_of_end (sym has.asked) ∙ ap Of (p.told tells))
      | inr none ↦ inr (inr (inr (record { fault = Refused input why; lacks = subst At (p.told tells) none.lacks; is = is })))
    ]
complete_performs row names old new (Err (TooLong input)) status is p tells =
    let Of : Contents → ℕ = λ contents. status_of_end (end_of row contents) in
    inl (is ∙ ap status_of_end (sym p.ends.faulty.asked) ∙ ap Of (p.told tells))
complete_performs row names old new (Err (CannotRead input)) status is p tells =
    let Of : Contents → ℕ = λ contents. status_of_end (end_of row contents) in
    elim p.ends.cause [
      | inl none ↦ inl (is ∙ ap status_of_end (sym none.faulty.asked) ∙ ap Of (p.told tells))
      | inr fails ↦ inr (inl (is, inl fails.rose))
    ]
complete_performs row names old new (Err CannotWrite) status is p tells = inr (inl (is, inr p.ends.rose))
complete_performs row names old new (Err OutOfMemory) status is p tells = inr (inr (inl is))

-- arguments that are refused for want of memory
complete_memory : (asked : Result Settings ArgumentFault) (old new : Scene) (status : ℕ) → status ≡ 6 → IsCompleteBy asked old new status
complete_memory (Ok settings) old new status is = λ tells. inr (inr (inl is))
complete_memory (Err fault) old new status is = inr is

complete_by : (arguments : List (List ℕ)) (old new : Scene) (status : ℕ) (end : RunEnd) → EndsAs arguments end old new → status ≡ status_of_run_end end
    → IsCompleteBy (settings_of arguments) old new status
complete_by arguments old new status (Understood settings end) ends is =
    let P : Result Settings ArgumentFault → Type 0 = λ by. IsCompleteBy by old new status in
    subst P (sym ends.understood) (λ tells. complete_performs (row_of settings) (names_read settings) old new end status is ends.performs tells)
complete_by arguments old new status (ArgumentsRefused fault) ends is =
    let P : Result Settings ArgumentFault → Type 0 = λ by. IsCompleteBy by old new status in elim ends.understood [
      | inl memory ↦ complete_memory (settings_of arguments) old new status (is ∙ ap status_of_arguments memory)
      | inr asked ↦ subst P (sym asked) (inl is)
    ]

pub complete : (arguments : List (List ℕ)) (old new : Scene) (errs_old errs_new : SinkView) (status : ℕ)
    → Headline arguments old new errs_old errs_new status → IsCompleteBy (settings_of arguments) old new status
complete arguments old new errs_old errs_new status h = complete_by arguments old new status h.end h.ends h.status_is

-- ---- the counts of faults

uncounted_end : (end : End) (old new : Scene) → LeavesCounts end old new → status_of_end end ≢ 4 → AreUncounted old new
uncounted_end (Ok differs) old new counts other = counts
uncounted_end (Err (CannotRead input)) old new counts other = absurd (other refl)
uncounted_end (Err CannotWrite) old new counts other = absurd (other refl)
uncounted_end (Err (Refused input why)) old new counts other = counts
uncounted_end (Err (TooLong input)) old new counts other = counts
uncounted_end (Err OutOfMemory) old new counts other = counts

uncounted_by : (arguments : List (List ℕ)) (old new : Scene) (end : RunEnd) → EndsAs arguments end old new → status_of_run_end end ≢ 4 → AreUncounted old new
uncounted_by arguments old new (Understood settings end) ends other = uncounted_end end old new ends.counts other
uncounted_by arguments old new (ArgumentsRefused fault) ends other = record {
  files = ap (λ (s : Scene). s.files.faults) ends.unchanged;
  out = ap (λ (s : Scene). s.out.faults) ends.unchanged;
}

pub uncounted : (arguments : List (List ℕ)) (old new : Scene) (errs_old errs_new : SinkView) (status : ℕ)
    → Headline arguments old new errs_old errs_new status → status ≢ 4 → AreUncounted old new
uncounted arguments old new errs_old errs_new status h other = uncounted_by arguments old new h.end h.ends (λ four. other (h.status_is ∙ four))

-- ---- which contents are accepted

status-of-input : (why : InputFault) → status_of_input why ≤ 1 → ⊥
status-of-input (Text format line code) few = omega (arith, few)
status-of-input _ few = omega (arith, few)

good-end : (end : End) → status_of_end end ≤ 1 → IsOk end
good-end (Ok differs) few = refl
good-end (Err (CannotRead input)) few = absurd (omega (arith, few))
good-end (Err CannotWrite) few = absurd (omega (arith, few))
good-end (Err (Refused input why)) few = absurd (status-of-input why few)
good-end (Err (TooLong input)) few = absurd (omega (arith, few))
good-end (Err OutOfMemory) few = absurd (omega (arith, few))

yields-report : (settings : Settings) (contents : Contents) (old new : Scene) (status : ℕ) (end : End) → end_of (row_of settings) contents ≡ end → IsOk end
    → Yields (row_of settings) contents (status_of_end end) old new status → YieldsReport settings contents old new status
yields-report settings contents old new status (Err fault) is ok yields = absurd (let z = ok in cc)
yields-report settings contents old new status (Ok differs) is ok yields = record {
  differs = differs;
  asked = is;
  alike = λ other. subst IsAlike is (commands_alike settings.command settings [] contents other);
  yields = yields;
}

-- told contents of the inputs
exact-contents : (settings : Settings) (contents : Contents) (old new : Scene) (status : ℕ) → (settings.command ≡ Simulate → length contents ≡ 2)
    → (settings.command ≡ Demo → contents ≡ []) → Yields (row_of settings) contents (status_of_end (end_of (row_of settings) contents)) old new status
    → IsExact settings contents old new status
exact-contents settings contents old new status two none yields =
    let end : End = end_of (row_of settings) contents in
    let exact = accepted-exact settings.command settings contents two in
    record {
      asked = exact;
      only = λ few. elim yields [
        | inl is ↦ exact.0 (good-end end (omega (arith, is, few)))
        | inr (inl failed) ↦ absurd (omega (arith, few, failed.0))
        | inr (inr (inl memory)) ↦ absurd (omega (arith, few, memory))
        | inr (inr (inr lacking)) ↦ absurd (let z = good-end (Err lacking.fault) (omega (arith, few, lacking.is)) in cc)
      ];
      each = λ accepted. yields-report settings contents old new status end refl (exact.1 accepted) yields;
      demo = λ is.
          let by_command = subst (λ (doing : Command). IsAccepted (row_for doing settings) []) (sym is) (demo-accepted settings) in
          subst (λ (c : Contents). IsAccepted (row_of settings) c) (sym (none is)) by_command;
    }

exact-by : (arguments : List (List ℕ)) (old new : Scene) (status : ℕ) (asked : Result Settings ArgumentFault) → settings_of arguments ≡ asked → IsCompleteBy asked old new status → IsExactBy asked old new status
exact-by arguments old new status (Err fault) is complete = tt
exact-by arguments old new status (Ok settings) is complete = λ tells.
    let names : List (List ℕ) = names_read settings in
    let counted : (doing : Command) → settings.command ≡ doing → is_used doing LIBRARY ≡ false → length (map old.files.held names) ≡ (usage_of doing).most =
    λ doing at unused. length-map names old.files.held ∙ names_read-counted settings doing (settings-counted arguments settings is) at unused in
    exact-contents settings (map old.files.held names) old new status (λ at. counted Simulate at refl) (λ at. empty (map old.files.held names) (counted Demo at refl)) (complete tells)
  where
    empty : (contents : Contents) → length contents ≡ 0 → contents ≡ []
    empty [] zero = refl
    empty (content ∷ contents) zero = absurd (omega (arith, zero))

pub exact : (arguments : List (List ℕ)) (old new : Scene) (status : ℕ) → IsCompleteBy (settings_of arguments) old new status → IsExactBy (settings_of arguments) old new status
exact arguments old new status complete = exact-by arguments old new status (settings_of arguments) refl complete

-- ---- status 1

one-end : (settings : Settings) (old new : Scene) (end : End) → Performs (row_of settings) (names_read settings) old new end → status_of_end end ≡ 1
    → Compares settings.command
one-end settings old new (Ok true) performs one = differs-compared settings (names_read settings) old new performs
one-end settings old new (Ok false) performs one = absurd (omega (arith, one))
one-end settings old new (Err fault) performs one = absurd (let z = good-end (Err fault) (omega (arith, one)) in cc)

one-arguments : (fault : ArgumentFault) → status_of_arguments fault ≡ 1 → ⊥
one-arguments Mem one = omega (arith, one)
one-arguments _ one = omega (arith, one)

one-by : (arguments : List (List ℕ)) (old new : Scene) (end : RunEnd) → EndsAs arguments end old new → status_of_run_end end ≡ 1 → AsksToCompare (settings_of arguments)
one-by arguments old new (Understood settings end) ends one = subst AsksToCompare (sym ends.understood) (one-end settings old new end ends.performs one)
one-by arguments old new (ArgumentsRefused fault) ends one = absurd (one-arguments fault one)

pub only-compared : (arguments : List (List ℕ)) (old new : Scene) (errs_old errs_new : SinkView) (status : ℕ)
    → Headline arguments old new errs_old errs_new status → status ≡ 1 → AsksToCompare (settings_of arguments)
only-compared arguments old new errs_old errs_new status h one = one-by arguments old new h.end h.ends (sym h.status_is ∙ one)

-- ---- what was written

few-arguments : (fault : ArgumentFault) → status_of_arguments fault ≤ 1 → ⊥
few-arguments Mem few = omega (arith, few)
few-arguments _ few = omega (arith, few)

written-end : (settings : Settings) (old new : Scene) (end : End) → Performs (row_of settings) (names_read settings) old new end → status_of_end end ≤ 1
    → Written settings old new
written-end settings old new (Ok differs) performs few = record {
  contents = performs.contents;
  counted = performs.counted;
  told = performs.told;
  writes = performs.ends.writes;
}
written-end settings old new (Err fault) performs few = absurd (let z = good-end (Err fault) few in cc)

written-by : (arguments : List (List ℕ)) (old new : Scene) (end : RunEnd) → EndsAs arguments end old new → status_of_run_end end ≤ 1 → WrittenBy (settings_of arguments) old new
written-by arguments old new (Understood settings end) ends few =
    let P : Result Settings ArgumentFault → Type 0 = λ by. WrittenBy by old new in
    subst P (sym ends.understood) (written-end settings old new end ends.performs few)
written-by arguments old new (ArgumentsRefused fault) ends few = absurd (few-arguments fault few)

pub written : (arguments : List (List ℕ)) (old new : Scene) (errs_old errs_new : SinkView) (status : ℕ)
    → Headline arguments old new errs_old errs_new status → status ≤ 1 → WrittenBy (settings_of arguments) old new
written arguments old new errs_old errs_new status h few = written-by arguments old new h.end h.ends (subst (λ (n : ℕ). n ≤ 1) h.status_is few)
