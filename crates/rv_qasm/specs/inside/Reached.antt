-- How far the reading of a text has come.
use Rattle.std.specs.Prelude.{◌≡◌, ℕ, ◌-◌, Bool, false, not, List, [], ◌∷◌, ◌==◌, if◌then◌else◌, Option, Some, None, Result, Ok, Err}
use Rattle.rv_text.specs.Bytes.{line_feed}
use Rattle.rv_text.specs.declared.fault.TextFault.{TextFault}
use Rattle.rv_reader.specs.Rules.{◌>>=◌, on_line}
use Rattle.rv_reader.specs.Feeding.{faulted}
use Rattle.rv_qasm.specs.Rules.{SoFar, nothing_so_far, statement_read}
use Rattle.rv_qasm.specs.Reading.{Listing, all_ended, at_end}
use Rattle.rv_qasm.specs.declared.fault.QasmFault.{QasmFault}
use Rattle.rv_qasm.specs.declared.fault.QasmFault.TheVariants as faults
use Rattle.rv_qasm.specs.inside.Lexing.{Begun, begun_on, with_nothing_open, next, ends, statement_at, at_the_end, unended_at}

-- the statement that is begun, whether there is a byte after the last line feed, and what the ended statements gave
pub record Reached : Type 0 where
  pub begun : Begun
  pub has_begun_line : Bool
  pub so_far : SoFar

-- before any byte
abbrev pub nothing_reached : Reached
nothing_reached = record { begun = begun_on 1; has_begun_line = false; so_far = nothing_so_far }

-- the statement that is begun is at its end
abbrev pub with_statement : Reached → Result Reached TextFault
with_statement r =
    on_line (statement_at r.begun).line (statement_read r.so_far r.begun.tokens) >>= λ so_far.
    Ok (record { begun = begun_on r.begun.line; has_begun_line = r.has_begun_line; so_far = so_far })

-- one byte more
abbrev pub byte_step : Reached → ℕ → Result Reached TextFault
byte_step r c =
    if ends r.begun.mode c
    then with_statement (record { begun = with_nothing_open r.begun r.begun.mode; has_begun_line = not (c == line_feed); so_far = r.so_far })
    else Ok (record { begun = next r.begun c; has_begun_line = not (c == line_feed); so_far = r.so_far })

-- more bytes
unfoldable pub steps : Reached → List ℕ → Result Reached TextFault
steps r [] = Ok r
steps r (c ∷ cs) = byte_step r c >>= λ s. steps s cs

-- how many lines there were
abbrev pub text_line_count : Reached → ℕ
text_line_count r = if r.has_begun_line then r.begun.line else r.begun.line - 1

-- what all bytes give
abbrev pub end_of : Reached → Result Listing QasmFault
end_of r = faulted faults.Text (all_ended (unended_at (at_the_end r.begun)) r.so_far >>= at_end (text_line_count r))

-- a part of the reading that stopped for a fault was to stop for it
abbrev pub StopsFor : {Y : Type 0} → QasmFault → Result Y TextFault → Type 0
StopsFor (faults.Text fault) want = want ≡ Err fault
StopsFor faults.Mem want = Unit {0}

abbrev pub Reaches : {X Y : Type 0} → Result X QasmFault → Y → Result Y TextFault → Type 0
Reaches (Ok x) new want = want ≡ Ok new
Reaches (Err fault) new want = StopsFor fault want

-- ---- a reader

pub data QasmProgress : Type 0 where
  reading : Reached → QasmProgress
  refused : QasmFault → QasmProgress

-- how many bytes it was fed, and how far it has come
pub record QasmFeeding : Type 0 where
  pub fed : ℕ
  pub progress : QasmProgress

abbrev pub progress_kept : Option QasmFault → Reached → QasmProgress
progress_kept None r = reading r
progress_kept (Some fault) r = refused fault

-- the refusal that it keeps
abbrev pub refusal_in : QasmProgress → Option QasmFault
refusal_in (reading r) = None
refusal_in (refused fault) = Some fault

abbrev pub gave : Result Reached TextFault → QasmProgress
gave (Ok r) = reading r
gave (Err fault) = refused (faults.Text fault)

-- it stands for the bytes that it was fed, in whatever pieces
pub record StandsForText (reader : QasmFeeding) (text : List ℕ) : Type 0 where
  pub progress : reader.progress ≡ gave (steps nothing_reached text)
