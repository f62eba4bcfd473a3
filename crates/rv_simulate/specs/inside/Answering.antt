-- How the lines of words that end in a piece are answered: which answers were given to a writer, which words wait, and
-- which line is wrong.
use Rattle.std.specs.Prelude.{◌≡◌, ℕ, ◌+◌, Bool, List, [], ◌∷◌, ◌++◌, length, Option, Some, None, Result, Ok, Err, IfErr, OnOk}
use Rattle.std.specs.List.{flat_map}
use Rattle.rv_gate.specs.Circuit.{Cascade}
use Rattle.rv_gate.specs.Gate.{run}
use Rattle.rv_io.specs.declared.sink.WriteFault.{WriteFault}
use Rattle.rv_io.specs.Sink.{SinkView, Sends}
use Rattle.rv_io.specs.Writer.{Adds, Writer}
use Rattle.rv_text.specs.Bytes.{line_feed}
use Rattle.rv_text.specs.Lines.{ended_after, begun_after}
use Rattle.rv_simulate.specs.declared.simulation.Stop.{Stop}
use Rattle.rv_simulate.specs.declared.simulation.Stop.TheVariants as stops
use Rattle.rv_simulate.specs.declared.simulation.WordsEnd.{WordsEnd}
use Rattle.rv_simulate.specs.declared.simulation.WordsEnd.TheVariants as end
use Rattle.rv_simulate.specs.Simulation.{answer_to, answer_to_bits, answers_to, answer_text, wrong_line}
use Rattle.rv_simulate.specs.inside.WordLine.{StandsForLine, WordLine, bits_in}

-- what makes an answer of a line, or finds it wrong
abbrev pub Answering : Type 0
Answering = List ℕ → Option (List ℕ)

-- what a line with this answer makes: nothing, a word that is to be run, or its number if it is wrong
abbrev pub GivesWord : Cascade → Bool → Option (List ℕ) → ℕ → Result (Option (List Bool)) ℕ → Type 0
GivesWord c all asked number (Ok None) = asked ≡ Some []
GivesWord c all asked number (Ok (Some word)) = asked ≡ Some (answer_text c all (run c.gates word))
GivesWord c all asked number (Err line) = (line ≡ number) × (asked ≡ None)

-- the answers to words that are to be run
abbrev pub answers_to_words : Cascade → Bool → List (List Bool) → List ℕ
answers_to_words c all words = flat_map (λ word. answer_text c all (run c.gates word)) words

-- Of the answers, some were given to a writer, and the others are held back.
pub record ArePartGiven (answers : List ℕ) (old : Writer) (before : SinkView) (held : List ℕ) (new : Writer)
    (now : SinkView) : Type 0 where
  pub given : List ℕ
  pub adds : Adds old before given new now
  pub parts : answers ≡ given ++ held

-- the others are those to words that wait
abbrev pub AreGiven : Cascade → Bool → List ℕ → Writer → SinkView → List (List Bool) → Writer → SinkView → Type 0
AreGiven c all answers old before words new now = ArePartGiven answers old before (answers_to_words c all words) new now

-- A line that is at its end was answered: its answer was given to a writer or its word waits, if it has them. Of a
-- wrong line nothing is given.
pub record EndsLine (c : Cascade) (all : Bool) (line : WordLine) (before : List (List Bool)) (old : Writer)
    (from : SinkView) (found : Result (Unit {0}) ℕ) (words : List (List Bool)) (new : Writer)
    (to : SinkView) : Type 0 where
  pub answer : List ℕ
  pub right : OnOk found (answer_to_bits c all (bits_in line) ≡ Some answer)
  pub wrong : IfErr found (λ number.
      (number ≡ line.number) × (answer_to_bits c all (bits_in line) ≡ None) × (answer ≡ []))
  pub given : AreGiven c all (answers_to_words c all before ++ answer) old from words new to

-- the number of a wrong line, if one was found
abbrev pub wrong_in : Result (Unit {0}) ℕ → Option ℕ
wrong_in (Ok _) = None
wrong_in (Err line) = Some line

-- the lines that end in a piece, after bytes of a line that was begun: the first wrong one, the answers before it, and
-- what is begun after the piece
pub record HasLines (answer : Answering) (first : WordLine) (begun piece : List ℕ) (found : Result (Unit {0}) ℕ)
    (answers : List ℕ) (last : WordLine) : Type 0 where
  pub wrong : wrong_line answer first.number (ended_after begun piece) ≡ wrong_in found
  pub asked : answers ≡ answers_to answer (ended_after begun piece)
  pub stands : OnOk found (StandsForLine last (begun_after begun piece))
  pub number : OnOk found (last.number ≡ first.number + length (ended_after begun piece))

-- the same, whatever the bytes are that the first state of the line stands for
abbrev pub AnswersLines : Answering → WordLine → List ℕ → Result (Unit {0}) ℕ → List ℕ → WordLine → Type 0
AnswersLines answer first piece found answers last =
    (begun : List ℕ) → StandsForLine first begun → HasLines answer first begun piece found answers last

-- the lines that end in a piece were answered, but for words that wait
pub record Collects (c : Cascade) (all : Bool) (piece : List ℕ) (first : WordLine) (old : Writer) (before : SinkView)
    (found : Result (Unit {0}) ℕ) (last : WordLine) (words : List (List Bool)) (new : Writer)
    (now : SinkView) : Type 0 where
  pub answers : List ℕ
  pub given : AreGiven c all answers old before words new now
  pub lines : AnswersLines (answer_to c all) first piece found answers last

-- their answers were given to a writer
pub record GivesLines (answer : Answering) (piece : List ℕ) (first : WordLine) (old : Writer) (before : SinkView)
    (found : Result (Unit {0}) ℕ) (last : WordLine) (new : Writer) (now : SinkView) : Type 0 where
  pub answers : List ℕ
  pub adds : Adds old before answers new now
  pub lines : AnswersLines answer first piece found answers last

-- whether what was to be sent was
abbrev pub sent_by : Result (Unit {0}) Stop → Result (Unit {0}) WriteFault
sent_by (Ok _) = Ok tt
sent_by (Err (stops.Wrong line)) = Ok tt
sent_by (Err stops.Write) = Err (record {})

-- a line that is found wrong stops the answering, but for a fault of the sink
abbrev pub IsStop : Result (Unit {0}) Stop → Result (Unit {0}) ℕ → Type 0
IsStop (Ok _) found = found ≡ Ok tt
IsStop (Err (stops.Wrong line)) found = found ≡ Err line
IsStop (Err stops.Write) found = Unit {0}

-- their answers were sent
pub record AnswersPiece (answer : Answering) (piece : List ℕ) (first : WordLine) (old : SinkView)
    (result : Result (Unit {0}) Stop) (last : WordLine) (new : SinkView) : Type 0 where
  pub answers : List ℕ
  pub found : Result (Unit {0}) ℕ
  pub lines : AnswersLines answer first piece found answers last
  pub sends : Sends old answers (sent_by result) new
  pub stop : IsStop result found

-- how the answering of words ends that is stopped, or is done
abbrev pub end_after : Result (Unit {0}) Stop → WordsEnd
end_after (Ok _) = end.Done
end_after (Err (stops.Wrong line)) = end.Wrong line
end_after (Err stops.Write) = end.Write

-- the last line of a text was answered as if a line feed ended it
pub record AnswersLast (answer : Answering) (first : WordLine) (old : SinkView) (result : WordsEnd)
    (new : SinkView) : Type 0 where
  pub stopped : Result (Unit {0}) Stop
  pub last : WordLine
  pub piece : AnswersPiece answer (line_feed ∷ []) first old stopped last new
  pub is : result ≡ end_after stopped
