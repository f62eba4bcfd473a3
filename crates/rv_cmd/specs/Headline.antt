-- What a run does: the contract of `run`.
use Rattle.std.specs.Prelude.{◌≡◌, ◌⊎◌, ◌↔◌, ℕ, zero, suc, ◌+◌, ◌<◌, ◌≤◌, Bool, true, false, List, [], map, length, Result, Ok, Err, IsOk}
use Rattle.rv_gate.specs.Circuit.{Cascade}
use Rattle.rv_io.specs.Faults.{Rose}
use Rattle.rv_io.specs.Files.{FilesView, Keeps}
use Rattle.rv_io.specs.Sink.{SinkView, grown, GrewByPrefix}
use Rattle.rv_text.specs.declared.lines.TheConstants.{MOST_BYTES}
use Rattle.rv_net.specs.Op.{Network}
use Rattle.rv_net.specs.declared.op.Op.{Op}
use Rattle.rv_qasm.specs.Back.{AreClassical}
use Rattle.rv_real.specs.Text.{name_at}
use Rattle.rv_words.specs.Settings.{IsAnswer, settings_of}
use Rattle.rv_words.specs.declared.asked.Settings.{Settings}
use Rattle.rv_words.specs.declared.command.Command.{Command}
use Rattle.rv_words.specs.declared.command.Command.TheVariants.{Check, Compare, Demo}
use Rattle.rv_words.specs.declared.fault.ArgumentFault.{ArgumentFault}
use Rattle.rv_faults.specs.declared.fault.Fault.{Fault}
use Rattle.rv_faults.specs.declared.fault.Fault.TheVariants.{CannotRead, CannotWrite, Refused, TooLong, OutOfMemory}
use Rattle.rv_faults.specs.Fault.{input_of, message_line, reason, status_of}
use Rattle.rv_faults.specs.Arguments.{status_of_arguments, arguments_reason}
use Rattle.rv_faults.specs.Line.{Reports}
use Rattle.rv_inputs.specs.Contents.{AreShort, Contents, IsOpen, LastIsRead, StaysAmong, StaysAt, held_as}
use Rattle.rv_cmd.specs.declared.run_end.RunEnd.{RunEnd}
use Rattle.rv_cmd.specs.declared.run_end.RunEnd.TheVariants.{Understood, ArgumentsRefused}
use Rattle.rv_cmd.specs.Commands.{row_of}
use Rattle.rv_cmd.specs.Commands.Check.{CanBeChecked, check_limits}
use Rattle.rv_cmd.specs.Commands.Templates.{CanBeTemplate, template_limits}
use Rattle.rv_cmd.specs.Commands.ToReal.{toreal_limits}
use Rattle.rv_cmd.specs.Names.{names_read}
use Rattle.rv_cmd.specs.Limits.{AreKept, Report}
use Rattle.rv_cmd.specs.Row.{End, IsAccepted, Lacks, Means, Row, answers_as_it_reads, end_of, ended, outcome, reads_first, status_of_end}

-- ---- What status 0 gives, and status 1 of `check` and `compare`

-- The inputs hold texts of at most 2^27 bytes; a text was sent to the output, whole and flushed; it means what the
-- command's row says of these texts.
pub record Writes (row : Row) (contents : Contents) (old new : SinkView) : Type 0 where
  pub texts : List (List ℕ)
  pub held : contents ≡ held_as texts
  pub short : AreShort texts
  pub text : List ℕ
  pub sent : new.sent ≡ grown old.sent text
  pub flushed : new.is_flushed ≡ true
  pub means : Means row texts text

-- the files and the output, at one moment
pub record Scene : Type 0 where
  pub files : FilesView
  pub out : SinkView

-- Status 0, or 1 by `check` or `compare`: the arguments are understood, and that was written. The contents are what the
-- files tell of the inputs, or some that they may hold.
pub record Written (settings : Settings) (old new : Scene) : Type 0 where
  pub contents : Contents
  pub counted : length contents ≡ length (names_read settings)
  pub told : old.files.tells ≡ true → contents ≡ map old.files.held (names_read settings)
  pub writes : Writes (row_of settings) contents old.out new.out

abbrev pub WrittenBy : Result Settings ArgumentFault → Scene → Scene → Type 0
WrittenBy (Ok settings) old new = Written settings old new
WrittenBy (Err fault) old new = ⊥

-- ---- The five ways to end

-- A run by arguments that are understood ends in one of five ways:
--   1. with status 0, or 1 if it says that the inputs of `check` or `compare` differ: the report that the contents ask
--      for was written whole and flushed, and has its meaning;
--   2. as the contents ask: with the first fault that they have; or a search ended without a text, for a reason that
--      its row allows;
--   3. a call of the files failed;
--   4. a call of the output failed, and a prefix of the text was sent, or, by a command that searches, of one with the
--      meaning;
--   5. for want of memory, and nothing was sent.
-- The counts of faults rise in 3 and 4 alone.
-- `names` are those of the inputs.

-- 1. Status 0 or 1: what was written is the report that the contents ask for, and the last input was read to its end.
pub record Succeeds (row : Row) (names : List (List ℕ)) (contents : Contents) (old new : Scene)
    (differs : Bool) : Type 0 where
  pub writes : Writes row contents old.out new.out
  pub asked : outcome row writes.text contents ≡ ended (Ok (record { text = writes.text; differs = differs }))
  pub read : LastIsRead names contents old.files new.files

-- What a fault of an input leaves on the output: nothing new. A command that answers as it reads its last input leaves
-- this text.
abbrev pub Leaves : Row → ℕ → List ℕ → SinkView → SinkView → Type 0
Leaves (reads_first row) input text old new = new ≡ old
Leaves (answers_as_it_reads row) zero text old new = new ≡ old
Leaves (answers_as_it_reads row) (suc input) text old new = new.sent ≡ grown old.sent text

-- the contents have this fault, and before it their outcome's text was written
pub record HasFault (row : Row) (contents : Contents) (old new : Scene) (input : ℕ) (fault : Fault) : Type 0 where
  pub asked : end_of row contents ≡ Err fault
  pub leaves : Leaves row input (outcome row [] contents).text old.out new.out

-- how far the inputs were read where one is refused: all of them, to the last one's end
abbrev pub HasRead : Row → List (List ℕ) → Contents → ℕ → FilesView → FilesView → Type 0
HasRead (reads_first row) names contents input old new = LastIsRead names contents old new
HasRead (answers_as_it_reads row) names contents input old new = row.HasRead names contents input old new

-- a search ended without a text, and nothing was sent
pub record HasNoText (row : Row) (contents : Contents) (old new : Scene) (fault : Fault) : Type 0 where
  pub lacks : Lacks row contents fault
  pub unsent : new.out ≡ old.out

-- 2. As asked: what an input holds is refused,
pub record Refuses (row : Row) (names : List (List ℕ)) (contents : Contents) (old new : Scene) (input : ℕ)
    (fault : Fault) : Type 0 where
  pub named : input < length names
  pub faulty : HasFault row contents old new input fault ⊎ HasNoText row contents old new fault
  pub read : HasRead row names contents input old.files new.files

-- or is too long: one byte more than the limit was read of it,
pub record IsTooLong (row : Row) (names : List (List ℕ)) (contents : Contents) (old new : Scene)
    (input : ℕ) : Type 0 where
  pub named : input < length names
  pub faulty : HasFault row contents old new input (TooLong input)
  pub started : IsOpen (name_at names input) old.files new.files
  pub place : new.files.place ≡ MOST_BYTES + 1

-- or, by files that tell what they hold, an input isn't held.
pub record IsNotHeld (row : Row) (contents : Contents) (old new : Scene) (input : ℕ) : Type 0 where
  pub told : old.files.tells ≡ true
  pub faulty : HasFault row contents old new input (CannotRead input)

-- the text that a command has written where a read of an input fails
abbrev pub HasWritten : Row → Contents → ℕ → FilesView → List ℕ → Type 0
HasWritten (reads_first row) contents input files written = written ≡ []
HasWritten (answers_as_it_reads row) contents input files written = row.HasWritten contents input files written

pub record WroteBefore (row : Row) (contents : Contents) (old new : Scene) (input : ℕ) : Type 0 where
  pub written : List ℕ
  pub has_written : HasWritten row contents input new.files written
  pub leaves : Leaves row input written old.out new.out

-- 3. A call of the files failed.
pub record InputFails (row : Row) (contents : Contents) (old new : Scene) (input : ℕ) : Type 0 where
  pub rose : Rose old.files.faults new.files.faults
  pub unstarted : new.files.is_started ≡ false → new.out ≡ old.out
  pub before : WroteBefore row contents old new input

-- 2 or 3. If a name is started at the end, it is this input's, and at most one byte more than the limit was read of it.
pub record CannotBeRead (row : Row) (names : List (List ℕ)) (contents : Contents) (old new : Scene)
    (input : ℕ) : Type 0 where
  pub named : input < length names
  pub opened : old.files.tells ≡ true → new.files.is_started ≡ true → new.files.is_opened (name_at names input) ≡ true
  pub place : new.files.is_started ≡ true → new.files.place ≤ MOST_BYTES + 1
  pub cause : IsNotHeld row contents old new input ⊎ InputFails row contents old new input

-- there is a report to write, which means what the row says of these texts, and the last input was read to its end
pub record HasReport (row : Row) (found : List ℕ) (names : List (List ℕ)) (contents : Contents)
    (old new : FilesView) : Type 0 where
  pub texts : List (List ℕ)
  pub held : contents ≡ held_as texts
  pub report : Report
  pub asked : outcome row found contents ≡ ended (Ok report)
  pub means : Means row texts report.text
  pub read : LastIsRead names contents old new

-- a command had come to its writing
abbrev pub HasBegun : Row → List ℕ → List (List ℕ) → Contents → FilesView → FilesView → Type 0
HasBegun (reads_first row) found names contents old new = HasReport (reads_first row) found names contents old new
HasBegun (answers_as_it_reads row) found names contents old new = row.HasBegun names contents old new

-- 4. A call of the output failed, and a prefix of the text was sent. A command that searches had found a text.
pub record OutputFails (row : Row) (names : List (List ℕ)) (contents : Contents) (old new : Scene) : Type 0 where
  pub found : List ℕ
  pub rose : Rose old.out.faults new.out.faults
  pub begun : HasBegun row found names contents old.files new.files
  pub prefix : GrewByPrefix old.out.sent (outcome row found contents).text new.out.sent

-- what stays started if memory was wanting: one of the inputs, or by a command that answers as it reads the first
abbrev pub StaysStarted : Row → List (List ℕ) → FilesView → FilesView → Type 0
StaysStarted (reads_first row) names old new = StaysAmong names old new
StaysStarted (answers_as_it_reads row) names old new = StaysAt (name_at names 0) old new

-- 5. Memory was wanting, and nothing was sent.
pub record MemoryWants (row : Row) (names : List (List ℕ)) (old new : Scene) : Type 0 where
  pub unsent : new.out ≡ old.out
  pub stays : StaysStarted row names old.files new.files

-- each end by its way
abbrev pub Ends : Row → List (List ℕ) → Contents → Scene → Scene → End → Type 0
Ends row names contents old new (Ok differs) = Succeeds row names contents old new differs
Ends row names contents old new (Err (Refused input why)) = Refuses row names contents old new input (Refused input why)
Ends row names contents old new (Err (TooLong input)) = IsTooLong row names contents old new input
Ends row names contents old new (Err (CannotRead input)) = CannotBeRead row names contents old new input
Ends row names contents old new (Err CannotWrite) = OutputFails row names contents old new
Ends row names contents old new (Err OutOfMemory) = MemoryWants row names old new

-- What a command does with the files and the output.
pub record Performs (row : Row) (names : List (List ℕ)) (old new : Scene) (end : End) : Type 0 where
  -- what each input holds: as the files tell it, or some contents that they may hold
  pub contents : Contents
  pub counted : length contents ≡ length names
  pub told : old.files.tells ≡ true → contents ≡ map old.files.held names
  pub ends : Ends row names contents old new end

-- both counts of faults are what they were
pub record AreUncounted (old new : Scene) : Type 0 where
  pub files : new.files.faults ≡ old.files.faults
  pub out : new.out.faults ≡ old.out.faults

-- Only where a call failed has a count of faults risen: a command never tries a call again that failed.
abbrev pub LeavesCounts : End → Scene → Scene → Type 0
LeavesCounts (Err (CannotRead input)) old new = Unit {0}
LeavesCounts (Err CannotWrite) old new = Unit {0}
LeavesCounts end old new = AreUncounted old new

-- ---- the line on the error output

-- a report leaves the error output as it is, and a fault has its line
abbrev pub ReportsEnd : List (List ℕ) → End → SinkView → SinkView → Type 0
ReportsEnd names (Ok differs) old new = new ≡ old
ReportsEnd names (Err fault) old new = Reports (message_line (reason (name_at names (input_of fault)) fault)) old new

-- what is reported of an end, if it is one by a fault
abbrev pub ReportsRunEnd : RunEnd → SinkView → SinkView → Type 0
ReportsRunEnd (Understood settings end) old new = ReportsEnd (names_read settings) end old new
ReportsRunEnd (ArgumentsRefused fault) old new = Reports (message_line (arguments_reason fault)) old new

-- ---- the headline

-- A run by arguments that are understood.
pub record Runs (arguments : List (List ℕ)) (settings : Settings) (end : End) (old new : Scene) : Type 0 where
  pub understood : IsAnswer (settings_of arguments) (Ok settings)
  pub performs : Performs (row_of settings) (names_read settings) old new end
  pub counts : LeavesCounts end old new

-- A run by arguments that are refused: nothing is read or written.
pub record RefusesArguments (arguments : List (List ℕ)) (fault : ArgumentFault) (old new : Scene) : Type 0 where
  pub understood : IsAnswer (settings_of arguments) (Err fault)
  pub unchanged : new ≡ old

-- How a run ends, by its arguments, before anything is reported: the error output has no part in it. Arguments may
-- also be refused for want of memory.
abbrev pub EndsAs : List (List ℕ) → RunEnd → Scene → Scene → Type 0
EndsAs arguments (Understood settings end) old new = Runs arguments settings end old new
EndsAs arguments (ArgumentsRefused fault) old new = RefusesArguments arguments fault old new

abbrev pub status_of_run_end : RunEnd → ℕ
status_of_run_end (Understood settings end) = status_of_end end
status_of_run_end (ArgumentsRefused fault) = status_of_arguments fault

-- What a run does, by its arguments, whatever the files and sinks.
pub record Headline (arguments : List (List ℕ)) (old new : Scene) (errs_old errs_new : SinkView)
    (status : ℕ) : Type 0 where
  -- the end comes first; the status and the line on the error output follow from it
  pub end : RunEnd
  pub ends : EndsAs arguments end old new
  pub status_is : status ≡ status_of_run_end end
  pub reports : ReportsRunEnd end errs_old errs_new
  -- no call changes what the names hold, and no count of faults falls
  pub keeps : Keeps old.files new.files
  pub out_later : old.out.faults ≤ new.out.faults
  pub errs_later : errs_old.faults ≤ errs_new.faults

-- the status of a search that ended without a text
pub record EndsLacking (row : Row) (contents : Contents) (status : ℕ) : Type 0 where
  pub fault : Fault
  pub lacks : Lacks row contents fault
  pub is : status ≡ status_of fault

-- the status is the one that is wanted, or it is 4 and a count of faults rose, or it is 6, or a search ended without a
-- text
abbrev pub Yields : Row → Contents → ℕ → Scene → Scene → ℕ → Type 0
Yields row contents wanted old new status =
    (status ≡ wanted) ⊎ (((status ≡ 4) × (Rose old.files.faults new.files.faults ⊎ Rose old.out.faults new.out.faults))
    ⊎ ((status ≡ 6) ⊎ EndsLacking row contents status))

-- Completeness: if the contents are told, the status is that of their outcome, or it is 4 and a count of faults rose,
-- or it is 6, or a search ended without a text.
abbrev pub IsCompleteBy : Result Settings ArgumentFault → Scene → Scene → ℕ → Type 0
IsCompleteBy (Err fault) old new status = (status ≡ status_of_arguments fault) ⊎ (status ≡ 6)
IsCompleteBy (Ok settings) old new status =
    old.files.tells ≡ true
    → (let row = row_of settings in let contents = map old.files.held (names_read settings) in
    Yields row contents (status_of_end (end_of row contents)) old new status)

-- Only these commands can say that their inputs differ,
abbrev pub Compares : Command → Type 0
Compares doing = (doing ≡ Check) ⊎ (doing ≡ Compare)

-- and status 1 is theirs alone.
abbrev pub AsksToCompare : Result Settings ArgumentFault → Type 0
AsksToCompare (Ok settings) = Compares settings.command
AsksToCompare (Err fault) = ⊥

-- The contents ask for a report; by any other command it never says that inputs differ. The status is 0, or 1 if it
-- says so, or it is 4 and a count of faults rose, or it is 6, or a search ended without a text.
pub record YieldsReport (settings : Settings) (contents : Contents) (old new : Scene) (status : ℕ) : Type 0 where
  pub differs : Bool
  pub asked : end_of (row_of settings) contents ≡ Ok differs
  pub alike : ¬ Compares settings.command → differs ≡ false
  pub yields : Yields (row_of settings) contents (status_of_end (Ok differs)) old new status

-- Told contents ask for no fault exactly if they are accepted. Then the status is that of their report, unless a call
-- failed, memory was wanting or a search ended without a text; else it is neither 0 nor 1. `demo` has no input, and is
-- always accepted.
pub record IsExact (settings : Settings) (contents : Contents) (old new : Scene) (status : ℕ) : Type 0 where
  pub asked : IsOk (end_of (row_of settings) contents) ↔ IsAccepted (row_of settings) contents
  pub only : status ≤ 1 → IsAccepted (row_of settings) contents
  pub each : IsAccepted (row_of settings) contents → YieldsReport settings contents old new status
  pub demo : settings.command ≡ Demo → IsAccepted (row_of settings) contents

-- Acceptance in the subject's terms, where a limit is no count: a given template is a few flips on a few lines that
-- change no word; the operations of `toreal` are classical and few enough; and by `check` the lines are few and no
-- coefficient is beyond its limit.
pub record LimitsInTerms : Type 0 where
  pub template : (given : Cascade) → AreKept (template_limits given) ↔ CanBeTemplate given
  pub operations : (ops : List Op) → AreKept (toreal_limits ops) ↔ AreClassical ops
  pub check : (c : Cascade) (net : Network) → AreKept (check_limits c net) ↔ CanBeChecked c net

abbrev pub IsExactBy : Result Settings ArgumentFault → Scene → Scene → ℕ → Type 0
IsExactBy (Err fault) old new status = Unit {0}
IsExactBy (Ok settings) old new status =
    old.files.tells ≡ true → IsExact settings (map old.files.held (names_read settings)) old new status
