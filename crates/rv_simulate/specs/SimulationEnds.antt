-- How the answering of a text of words ends.
use Rattle.std.specs.Prelude.{◌≡◌, ◌⊎◌, ℕ, ◌+◌, ◌<◌, ◌≤◌, Bool, true, false, List, [], length, take, Some, None}
use Rattle.rv_gate.specs.Circuit.{Cascade}
use Rattle.rv_io.specs.Faults.{Rose}
use Rattle.rv_io.specs.Files.{FilesView, IsFaulty}
use Rattle.rv_io.specs.Sink.{SinkView, grown, GrewByPrefix}
use Rattle.rv_text.specs.Lines.{ended_after}
use Rattle.rv_text.specs.declared.lines.TheConstants.{MOST_BYTES}
use Rattle.rv_simulate.specs.declared.simulation.WordsEnd.{WordsEnd}
use Rattle.rv_simulate.specs.declared.simulation.WordsEnd.TheVariants.{Done, Wrong, Read, TooLong, Write}
use Rattle.rv_simulate.specs.Simulation.{answer_to, answers_of, answers_to, first_wrong, lines_within, wrong_line, IsFirstWrong}

-- the bytes of a name, of which P holds: those that it holds, if this is told
pub record HasContent (files : FilesView) (name : List ℕ) (P : List ℕ → Type 0) : Type 0 where
  pub bytes : List ℕ
  pub held : files.tells ≡ true → files.held name ≡ Some bytes
  pub fact : P bytes

-- the text is within the limit, no line is wrong, and all answers were sent
pub record AnswersAll (c : Cascade) (all : Bool) (from : SinkView) (place : ℕ) (to : SinkView)
    (text : List ℕ) : Type 0 where
  pub whole : place ≡ length text
  pub limited : length text ≤ MOST_BYTES
  pub right : first_wrong c all text ≡ None
  pub sent : to.sent ≡ grown from.sent (answers_of c all text)

-- The name was read to its end, and all words were answered.
pub record EndsDone (c : Cascade) (all : Bool) (name : List ℕ) (old new : FilesView) (from to : SinkView) : Type 0 where
  pub started : new.is_started ≡ true
  pub place : new.place ≤ MOST_BYTES
  pub content : HasContent old name (AnswersAll c all from new.place to)

-- This line is the first wrong one, and the answers before it were sent. The text was read as far: the line ended
-- before the place, or the text ends there.
pub record AnswersToWrong (c : Cascade) (all : Bool) (from : SinkView) (line place : ℕ) (to : SinkView)
    (text : List ℕ) : Type 0 where
  pub first : first_wrong c all text ≡ Some line
  pub is : IsFirstWrong c all (lines_within text) line
  pub within : place ≤ length text
  pub reached : (wrong_line (answer_to c all) 1 (ended_after [] (take place text)) ≡ Some line) ⊎ (place ≡ length text)
  pub sent : to.sent ≡ grown from.sent (answers_of c all text)

-- A line is wrong.
pub record EndsWrong (c : Cascade) (all : Bool) (name : List ℕ) (old new : FilesView) (from to : SinkView)
    (line : ℕ) : Type 0 where
  pub started : new.is_started ≡ true
  pub place : new.place ≤ MOST_BYTES
  pub content : HasContent old name (AnswersToWrong c all from line new.place to)

-- no line that ended before the place is wrong, and the answers to these lines were sent
pub record AnswersToPlace (c : Cascade) (all : Bool) (from : SinkView) (place : ℕ) (to : SinkView)
    (text : List ℕ) : Type 0 where
  pub within : place ≤ length text
  pub right : wrong_line (answer_to c all) 1 (ended_after [] (take place text)) ≡ None
  pub sent : to.sent ≡ grown from.sent (answers_to (answer_to c all) (ended_after [] (take place text)))

-- A call of the files failed, or the name isn't held.
pub record EndsUnread (c : Cascade) (all : Bool) (name : List ℕ) (old new : FilesView)
    (from to : SinkView) : Type 0 where
  pub cause : IsFaulty old name new
  pub unstarted : new.is_started ≡ false → to ≡ from
  pub place : new.is_started ≡ true → new.place ≤ MOST_BYTES
  pub content : new.is_started ≡ true → HasContent old name (AnswersToPlace c all from new.place to)

-- the text is longer than the limit, no line that ended within it is wrong, and the answers to these lines were sent
pub record AnswersToLimit (c : Cascade) (all : Bool) (from to : SinkView) (text : List ℕ) : Type 0 where
  pub longer : MOST_BYTES < length text
  pub right : first_wrong c all text ≡ None
  pub sent : to.sent ≡ grown from.sent (answers_of c all text)

-- One byte more than the limit was read.
pub record EndsTooLong (c : Cascade) (all : Bool) (name : List ℕ) (old new : FilesView)
    (from to : SinkView) : Type 0 where
  pub started : new.is_started ≡ true
  pub place : new.place ≡ MOST_BYTES + 1
  pub content : HasContent old name (AnswersToLimit c all from to)

-- A call of the sink failed, and a prefix of the answers was sent.
pub record EndsUnsent (c : Cascade) (all : Bool) (name : List ℕ) (old new : FilesView)
    (from to : SinkView) : Type 0 where
  pub rose : Rose from.faults to.faults
  pub started : new.is_started ≡ true
  pub place : new.place ≤ MOST_BYTES
  pub content : HasContent old name (λ text. GrewByPrefix from.sent (answers_of c all text) to.sent)

-- Only where a call failed has a count of faults risen.
abbrev pub EndsUncounted : WordsEnd → FilesView → FilesView → SinkView → SinkView → Type 0
EndsUncounted Read old new from to = Unit {0}
EndsUncounted Write old new from to = Unit {0}
EndsUncounted end old new from to = (new.faults ≡ old.faults) × (to.faults ≡ from.faults)

-- how the words of a name were answered while the files and the sink went from the old views to the new
abbrev pub Simulates : Cascade → Bool → List ℕ → FilesView → FilesView → SinkView → SinkView → WordsEnd → Type 0
Simulates c all name old new from to Done = EndsDone c all name old new from to
Simulates c all name old new from to (Wrong line) = EndsWrong c all name old new from to line
Simulates c all name old new from to Read = EndsUnread c all name old new from to
Simulates c all name old new from to TooLong = EndsTooLong c all name old new from to
Simulates c all name old new from to Write = EndsUnsent c all name old new from to
