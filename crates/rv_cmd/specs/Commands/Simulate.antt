-- `simulate`: what a circuit makes of words, each answered as it is read.
use Rattle.std.specs.Prelude.{◌≡◌, ◌⊎◌, ℕ, zero, suc, ◌≤◌, Bool, false, List, [], take, length, All, if◌then◌else◌, nat_lt, Option, Some, None, IfSome, Result, Ok, Err}
use Rattle.rv_gate.specs.Circuit.{Cascade}
use Rattle.rv_io.specs.Files.{FilesView}
use Rattle.rv_gate.specs.Marks.{input_count}
use Rattle.rv_text.specs.Lines.{ended_after, lines_of}
use Rattle.rv_text.specs.declared.lines.TheConstants.{MOST_BYTES}
use Rattle.rv_reader.specs.Rules.{◌>>=◌}
use Rattle.rv_simulate.specs.Simulation.{answer_to, answers_of, answers_to, first_wrong, line_bits, lines_within, marks_asked, wrong_line, IsFirstWrong}
use Rattle.rv_real.specs.Text.{name_at}
use Rattle.rv_faults.specs.declared.fault.Fault.TheVariants.{CannotRead, Refused, TooLong}
use Rattle.rv_faults.specs.declared.fault.InputFault.TheVariants.{Text}
use Rattle.rv_faults.specs.declared.fault.TextFormat.TheVariants.{Words}
use Rattle.rv_faults.specs.declared.fault.Unmade.{Unmade}
use Rattle.rv_faults.specs.Fault.{fault_of}
use Rattle.rv_inputs.specs.Contents.{Contents, IsReadWhole, IsOpen, content_at, content_or_fault, text_at}
use Rattle.rv_inputs.specs.Formats.{DenotesWith, at_input, circuit}
use Rattle.rv_cmd.specs.Row.{AnswersAsItReads, End, Outcome, as_unmade, ended}

-- the answers end at the first wrong line, or at the limit
abbrev pub words_end : Option ℕ → List ℕ → End
words_end (Some line) text = Err (Refused 1 (Text Words line 0))
words_end None text = if nat_lt MOST_BYTES (length text) then Err (TooLong 1) else Ok false

-- the answers to words by a circuit
abbrev pub answered : Bool → Option (List ℕ) → Cascade → Outcome
answered all None c = ended (Err (CannotRead 1))
answered all (Some text) c = record { text = answers_of c all text; end = words_end (first_wrong c all text) text }

-- the circuit's faults come first
abbrev pub answered_by : Bool → Option (List ℕ) → Result Cascade Unmade → Outcome
answered_by all words (Ok c) = answered all words c
answered_by all words (Err unmade) = ended (Err (fault_of unmade))

abbrev pub simulated : Bool → Contents → Outcome
simulated all contents =
    answered_by all (content_at contents 1)
    (content_or_fault 0 (content_at contents 0) >>= λ text. as_unmade (at_input 0 (circuit text)))

-- The text is the answers to all words by the circuit: what it makes of each, with the constants filled in.
pub record IsSimulation (all : Bool) (words text : List ℕ) (c : Cascade) : Type 0 where
  pub right : first_wrong c all words ≡ None
  pub answers : text ≡ answers_of c all words

-- no line of the words that ended before the place is wrong, and the text is the answers to these lines
pub record AnswersBefore (all : Bool) (place : ℕ) (words written : List ℕ) (c : Cascade) : Type 0 where
  pub within : place ≤ length words
  pub right : wrong_line (answer_to c all) 1 (ended_after [] (take place words)) ≡ None
  pub answers : written ≡ answers_to (answer_to c all) (ended_after [] (take place words))

-- the circuit and the words are held, and lines were answered before the place
pub record HasAnswered (all : Bool) (contents : Contents) (place : ℕ) (written : List ℕ) : Type 0 where
  pub text : List ℕ
  pub words : List ℕ
  pub first : content_at contents 0 ≡ Some text
  pub second : content_at contents 1 ≡ Some words
  pub answered : DenotesWith circuit text (AnswersBefore all place words written)

-- the first input is a circuit
pub record HasCircuit (contents : Contents) : Type 0 where
  pub text : List ℕ
  pub object : Cascade
  pub held : content_at contents 0 ≡ Some text
  pub is : circuit text ≡ Ok object

-- the circuit is read, and the words are started
abbrev pub HasStartedWords : List (List ℕ) → Contents → FilesView → FilesView → Type 0
HasStartedWords names contents old new = HasCircuit contents × IsOpen (name_at names 1) old new

-- where a read fails: of the circuit, or of the words, of which nothing may be started
abbrev pub HasWrittenAnswers : Bool → Contents → ℕ → FilesView → List ℕ → Type 0
HasWrittenAnswers all contents zero files written = written ≡ []
HasWrittenAnswers all contents (suc input) files written =
    ((files.is_started ≡ false) × (written ≡ []) × HasCircuit contents) ⊎ HasAnswered all contents files.place written

-- the first wrong line was read: it ended before the place, or the words end there
pub record ReachesWrong (all : Bool) (place : ℕ) (words : List ℕ) (c : Cascade) : Type 0 where
  pub line : ℕ
  pub found : first_wrong c all words ≡ Some line
  pub is : IsFirstWrong c all (lines_within words) line
  pub within : place ≤ length words
  pub reached : (wrong_line (answer_to c all) 1 (ended_after [] (take place words)) ≡ Some line)
      ⊎ (place ≡ length words)

-- the circuit and the words are held, and their first wrong line was read
pub record HasReachedWrong (all : Bool) (contents : Contents) (place : ℕ) : Type 0 where
  pub text : List ℕ
  pub words : List ℕ
  pub first : content_at contents 0 ≡ Some text
  pub second : content_at contents 1 ≡ Some words
  pub wrong : DenotesWith circuit text (ReachesWrong all place words)

-- where an input is refused: the circuit, which was read to its end, or the words, up to a wrong line
abbrev pub HasReadInputs : Bool → List (List ℕ) → Contents → ℕ → FilesView → FilesView → Type 0
HasReadInputs all names contents zero old new =
    IfSome (content_at contents 0) (λ text. IsReadWhole (name_at names 0) text old new)
HasReadInputs all names contents (suc input) old new =
    IsOpen (name_at names 1) old new × HasReachedWrong all contents new.place

-- a line of words is blank, or has a bit for each line of the circuit that takes one
pub record IsWordFor (c : Cascade) (all : Bool) (line : List ℕ) : Type 0 where
  pub bits : List Bool
  pub is : line_bits line ≡ Some bits
  pub counted : (bits ≡ []) ⊎ (length bits ≡ input_count (marks_asked c all))

abbrev pub simulate_row : Bool → AnswersAsItReads
simulate_row all = record {
  outcome_by = simulated all;
  Means = λ texts text. DenotesWith circuit (text_at texts 0) (IsSimulation all (text_at texts 1) text);
  Accepts = λ texts. DenotesWith circuit (text_at texts 0) (λ c. All (IsWordFor c all) (lines_of (text_at texts 1)));
  HasBegun = HasStartedWords;
  HasRead = HasReadInputs all;
  HasWritten = HasWrittenAnswers all;
}
