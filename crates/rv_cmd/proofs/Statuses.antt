-- A run over files and an output that never fail, by their counts of faults.
use Rattle.std.proofs.Common.{◌≡◌, ◌≢◌, ℕ, true, false, List, Result, Ok, Err, ap, sym, ◌∙◌, refl, inl, inr, arith}
use Rattle.rv_io.specs.NullSink.{NullSink}
use Rattle.rv_io.specs.SafeFiles.{SafeFiles, bytes_at}
use Rattle.rv_io.specs.Sink.{SinkView}
use Rattle.rv_words.specs.declared.asked.Settings.{Settings}
use Rattle.rv_words.specs.declared.fault.ArgumentFault.{ArgumentFault}
use Rattle.rv_words.specs.declared.fault.ArgumentFault.TheVariants as arguments
use Rattle.rv_faults.specs.declared.fault.Fault.TheVariants.{CannotRead, CannotWrite, Refused, TooLong, OutOfMemory}
use Rattle.rv_faults.specs.declared.fault.InputFault.{InputFault}
use Rattle.rv_faults.specs.declared.fault.InputFault.TheVariants.{Text, WrongLength, OutOfRange, Repeated, Conflict, NotToffoli, NotIdentity, NotClassical, WideTemplate, LongTemplate, TooManyLines, TooManyEnds, TooManyGates, MoreGates, TooManyOps, LargeCoefficient, Undecided}
use Rattle.rv_cmd.specs.declared.run_end.RunEnd.{RunEnd}
use Rattle.rv_cmd.specs.declared.run_end.RunEnd.TheVariants.{Understood, ArgumentsRefused}
use Rattle.rv_cmd.specs.Commands.{row_of}
use Rattle.rv_faults.specs.Fault.{status_of_input}
use Rattle.rv_faults.specs.Arguments.{status_of_arguments}
use Rattle.rv_inputs.specs.Contents.{Contents}
use Rattle.rv_cmd.specs.Headline.{EndsAs, Headline, IsCompleteBy, Performs, Scene, status_of_run_end}
use Rattle.rv_cmd.specs.Names.{names_read}
use Rattle.rv_cmd.specs.Row.{End, end_of, status_of_end}
use Rattle.rv_cmd.specs.Safe.{IsSafeBy, scene_of}
use Rattle.rv_cmd.proofs.Held.{ends-read}

arguments-other : (fault : ArgumentFault) → status_of_arguments fault ≢ 4
arguments-other arguments.NotUnderstood = λ h. omega (arith, h)
arguments-other (arguments.UnknownCommand name) = λ h. omega (arith, h)
arguments-other (arguments.NotUsed command place) = λ h. omega (arith, h)
arguments-other (arguments.BadValue place) = λ h. omega (arith, h)
arguments-other (arguments.InputCount command) = λ h. omega (arith, h)
arguments-other arguments.TwiceStandard = λ h. omega (arith, h)
arguments-other arguments.Mem = λ h. omega (arith, h)

input-other : (why : InputFault) → status_of_input why ≢ 4
input-other (Text format line code) = λ h. omega (arith, h)
input-other (WrongLength count) = λ h. omega (arith, h)
input-other (OutOfRange place) = λ h. omega (arith, h)
input-other (Repeated first second) = λ h. omega (arith, h)
input-other (Conflict on off inputs word) = λ h. omega (arith, h)
input-other (NotToffoli place) = λ h. omega (arith, h)
input-other (NotIdentity lines word image) = λ h. omega (arith, h)
input-other (NotClassical place) = λ h. omega (arith, h)
input-other (WideTemplate lines most) = λ h. omega (arith, h)
input-other (LongTemplate gates most) = λ h. omega (arith, h)
input-other (TooManyLines count most) = λ h. omega (arith, h)
input-other (Undecided count what) = λ h. omega (arith, h)
input-other (TooManyGates count most) = λ h. omega (arith, h)
input-other (TooManyEnds count most) = λ h. omega (arith, h)
input-other (MoreGates most) = λ h. omega (arith, h)
input-other (TooManyOps count most) = λ h. omega (arith, h)
input-other (LargeCoefficient lines word place) = λ h. omega (arith, h)

-- neither count rises, and every name is held
end-other : (settings : Settings) (s t : SafeFiles) (m n : NullSink) (end : End)
    → Performs (row_of settings) (names_read settings) (scene_of s m) (scene_of t n) end → status_of_end end ≢ 4
end-other settings s t m n (Ok true) p = λ h. omega (arith, h)
end-other settings s t m n (Ok false) p = λ h. omega (arith, h)
end-other settings s t m n (Err (Refused input why)) p = input-other why
end-other settings s t m n (Err (TooLong input)) p = λ h. omega (arith, h)
end-other settings s t m n (Err (CannotRead input)) p = λ h. elim p.ends.cause [
  | inl none ↦
      let Of : Contents → End = λ contents. end_of (row_of settings) contents in
      ends-read settings.command settings (bytes_at s.files.names) (names_read settings) input p.ends.named (ap Of (sym (p.told refl)) ∙ none.faulty.asked)
  | inr fails ↦ omega (arith, fails.rose)
]
end-other settings s t m n (Err CannotWrite) p = λ h. omega (arith, p.ends.rose)
end-other settings s t m n (Err OutOfMemory) p = λ h. omega (arith, h)

run-other : (arguments : List (List ℕ)) (s t : SafeFiles) (m n : NullSink) (end : RunEnd) → EndsAs arguments end (scene_of s m) (scene_of t n)
    → status_of_run_end end ≢ 4
run-other arguments s t m n (Understood settings end) ends = end-other settings s t m n end ends.performs
run-other arguments s t m n (ArgumentsRefused fault) ends = arguments-other fault

pub never_4 : (arguments : List (List ℕ)) (s t : SafeFiles) (m n : NullSink) (errs_old errs_new : SinkView) (status : ℕ)
    → Headline arguments (scene_of s m) (scene_of t n) errs_old errs_new status → status ≢ 4
never_4 arguments s t m n errs_old errs_new status h = λ four. run-other arguments s t m n h.end h.ends (sym h.status_is ∙ four)

-- what is complete, if no call fails
pub safe_by : (asked : Result Settings ArgumentFault) (old new : Scene) (status : ℕ) → IsCompleteBy asked old new status → status ≢ 4 → old.files.tells ≡ true
    → IsSafeBy asked old status
safe_by (Err fault) old new status complete other tells = complete
safe_by (Ok settings) old new status complete other tells = elim (complete tells) [
  | inl is ↦ inl is
  | inr (inl failed) ↦ absurd (other failed.0)
  | inr (inr (inl memory)) ↦ inr (inl memory)
  | inr (inr (inr lacking)) ↦ inr (inr lacking)
]
