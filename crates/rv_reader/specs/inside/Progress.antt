-- How far a reader has come, which is fed a text in pieces.
use Rattle.std.specs.Prelude.{◌≡◌, ℕ, ◌+◌, ◌≤◌, List, [], length, false, Option, Some, None, Result, Ok, Err, ◌⊎◌}
use Rattle.rv_text.specs.declared.fault.TextFault.{TextFault}
use Rattle.rv_text.specs.declared.lines.TheConstants.{MOST_BYTES}
use Rattle.rv_text.specs.Held.{Held}
use Rattle.rv_text.specs.Lines.{ended_after, begun_after, last_line}
use Rattle.rv_text.specs.Spelled.{IsOneLine}
use Rattle.rv_reader.specs.declared.whole.Whole.{Whole}
use Rattle.rv_reader.specs.declared.text_refusal.TextRefusal.{TextRefusal}
use Rattle.rv_reader.specs.declared.text_refusal.TextRefusal.TheVariants as refusals
use Rattle.rv_reader.specs.Rules.{Rules, ◌>>=◌, lines_read, with_count}
use Rattle.rv_reader.specs.Feeding.{faulted}

-- what the ended lines of a text give, or the first fault in them
abbrev pub ended_read : {S : Type 0} → Rules S → List ℕ → Result S TextFault
ended_read rules text = lines_read rules 0 rules.start (ended_after [] text)

-- a line that was begun, how many ended before it, and the state after those; or the refusal
pub data Progress (S : Type 0) : Type 0 where
  reading : List ℕ → ℕ → S → Progress S
  refused : TextRefusal → Progress S

-- a reader: how many bytes it was fed, and how far it has come
pub record Feeding (S : Type 0) : Type 0 where
  pub fed : ℕ
  pub progress : Progress S

abbrev pub lines_gave : {S : Type 0} → List ℕ → ℕ → Result S TextFault → Progress S
lines_gave begun number (Ok state) = reading begun number state
lines_gave begun number (Err fault) = refused (refusals.Text fault)

-- the progress after the bytes that come next
abbrev pub fed_on : {S : Type 0} → Rules S → Progress S → List ℕ → Progress S
fed_on rules (reading begun number state) piece =
    lines_gave (begun_after begun piece) (number + length (ended_after begun piece))
    (lines_read rules number state (ended_after begun piece))
fed_on rules (refused refusal) piece = refused refusal

-- the progress after a text
unfoldable pub progress_of : {S : Type 0} → Rules S → List ℕ → Progress S
progress_of rules text = fed_on rules (reading [] 0 rules.start) text

-- a reader stands for the bytes that it was fed, in whatever pieces
pub record StandsFor {S : Type 0} (rules : Rules S) (reader : Feeding S) (text : List ℕ) : Type 0 where
  pub progress : reader.progress ≡ progress_of rules text

-- the refusal that a reader keeps, as a fault of the format
abbrev pub refusal_of : {S E : Type 0} → (TextRefusal → E) → Progress S → Option E
refusal_of as_fault (reading begun number state) = None
refusal_of as_fault (refused refusal) = Some (as_fault refusal)

-- whether a reader is refused, as a fault of the format
abbrev pub told : {S E : Type 0} → (TextRefusal → E) → Progress S → Result (Unit {0}) E
told fault (reading begun number state) = Ok tt
told fault (refused refusal) = Err (fault refusal)

abbrev pub as_is : TextRefusal → TextRefusal
as_is refusal = refusal

-- the end of a text
abbrev pub finished : {S : Type 0} → Rules S → Progress S → Result (Whole S) TextRefusal
finished rules (reading begun number state) =
    faulted refusals.Text
    (lines_read rules number state (last_line begun) >>= with_count (number + length (last_line begun)))
finished rules (refused refusal) = Err refusal

-- a piece was taken, or the reader is refused from now on: for the text's first fault, or for want of memory
abbrev pub FedOn : {S : Type 0} → Rules S → Result (Unit {0}) TextRefusal → Progress S → Progress S → List ℕ → Type 0
FedOn rules (Ok x) old new piece = (fed_on rules old piece ≡ new) × (told as_is new ≡ Ok tt)
FedOn rules (Err refusal) old new piece =
    (new ≡ refused refusal) × ((refusal ≡ refusals.Mem) ⊎ (fed_on rules old piece ≡ refused refusal))

-- a step that stopped for a refusal was to stop for it
abbrev pub Stops : {Y : Type 0} → TextRefusal → Result Y TextFault → Type 0
Stops (refusals.Text fault) want = want ≡ Err fault
Stops refusals.Mem want = Unit {0}

-- a step on lines that led to a state
abbrev pub Leads : {X S : Type 0} → Result X TextRefusal → S → Result S TextFault → Type 0
Leads (Ok x) state want = want ≡ Ok state
Leads (Err refusal) state want = Stops refusal want

-- the progress that a reader's fields hold
abbrev pub progress_seen : {S : Type 0} → Option TextRefusal → List ℕ → ℕ → S → Progress S
progress_seen None begun number state = reading begun number state
progress_seen (Some refusal) begun number state = refused refusal

-- what every reader keeps of its lines
pub record IsBetweenLines (lines : Held) : Type 0 where
  pub not_ready : lines.is_ready ≡ false
  pub one : IsOneLine lines.line
  pub size : length lines.line ≤ lines.taken
  pub limit : lines.taken ≤ MOST_BYTES
