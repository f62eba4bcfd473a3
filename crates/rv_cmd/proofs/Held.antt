-- If every input is held, no run ends with one that cannot be read.
use Rattle.std.proofs.Common.{◌≡◌, ℕ, ◌+◌, ◌<◌, Bool, true, false, List, [], ◌∷◌, map, length, if◌then◌else◌, nat_lt, Option, Some, None, Result, Ok, Err, subst, arith}
use Rattle.rv_text.specs.declared.lines.TheConstants.{MOST_BYTES}
use Rattle.rv_gate.specs.Circuit.{Cascade}
use Rattle.rv_reader.specs.Rules.{◌>>=◌}
use Rattle.rv_simulate.specs.Simulation.{first_wrong}
use Rattle.rv_words.specs.declared.asked.Settings.{Settings}
use Rattle.rv_words.specs.declared.command.Command.{Command}
use Rattle.rv_words.specs.declared.command.Command.TheVariants.{Simulate}
use Rattle.rv_faults.specs.declared.fault.Fault.TheVariants as fault
use Rattle.rv_faults.specs.declared.fault.Refusal.{Refusal}
use Rattle.rv_faults.specs.declared.fault.Refusal.TheVariants as refusal
use Rattle.rv_faults.specs.declared.fault.Unmade.{Unmade}
use Rattle.rv_faults.specs.declared.fault.Unmade.TheVariants.{CannotRead, Refused, TooLong, OutOfMemory}
use Rattle.rv_inputs.specs.Contents.{Contents, content_or_fault, texts_from, texts_of}
use Rattle.rv_inputs.specs.Formats.{at_input, circuit}
use Rattle.rv_cmd.specs.Commands.{row_for}
use Rattle.rv_cmd.specs.Commands.Simulate.{answered_by, simulated, words_end}
use Rattle.rv_cmd.specs.Limits.{Report}
use Rattle.rv_cmd.specs.Row.{End, IsReadsFirst, Row, answers_as_it_reads, as_report, as_unmade, end_of, ended, reads_first, report_by}

-- ---- what is read

-- not that an input cannot be read
abbrev IsOther : Unmade → Type 0
IsOther (CannotRead input) = ⊥
IsOther (Refused input why) = Unit {0}
IsOther (TooLong input) = Unit {0}
IsOther OutOfMemory = Unit {0}

abbrev IsRead : {X : Type 0} → Result X Unmade → Type 0
IsRead (Ok x) = Unit {0}
IsRead (Err unmade) = IsOther unmade

read-then : {X Y : Type 0} (r : Result X Unmade) (next : X → Result Y Unmade) → IsRead r → ((x : X) → IsRead (next x)) → IsRead (r >>= next)
read-then (Ok x) next is all = all x
read-then (Err unmade) next is all = is

read-content : (input : ℕ) (text : List ℕ) → IsRead (content_or_fault input (Some text))
read-content input text = by (nat_lt MOST_BYTES (length text))
  where
    by : (long : Bool) → IsRead (if long then Err (TooLong input) else Ok text)
    by true = tt
    by false = tt

abbrev held_by : (List ℕ → List ℕ) → List (List ℕ) → Contents
held_by bytes names = map (λ name. Some (bytes name)) names

read-texts : (bytes : List ℕ → List ℕ) (input : ℕ) (names : List (List ℕ)) → IsRead (texts_from input (held_by bytes names))
read-texts bytes input [] = tt
read-texts bytes input (name ∷ names) =
    read-then (content_or_fault input (Some (bytes name))) _ (read-content input (bytes name))
    (λ text. read-then (texts_from (input + 1) (held_by bytes names)) _ (read-texts bytes (input + 1) names) (λ texts. tt))

-- a command refuses what was read
read-asked : {X : Type 0} (r : Result X Refusal) → IsRead (as_unmade r)
read-asked (Ok x) = tt
read-asked (Err (refusal.Refused input why)) = tt
read-asked (Err refusal.OutOfMemory) = tt

-- ---- the ends

abbrev IsEndRead : End → Type 0
IsEndRead (Ok differs) = Unit {0}
IsEndRead (Err (fault.CannotRead input)) = ⊥
IsEndRead (Err fault.CannotWrite) = Unit {0}
IsEndRead (Err (fault.Refused input why)) = Unit {0}
IsEndRead (Err (fault.TooLong input)) = Unit {0}
IsEndRead (Err fault.OutOfMemory) = Unit {0}

read-reported : (r : Result Report Unmade) → IsRead r → IsEndRead (ended (as_report r)).end
read-reported (Ok report) is = tt
read-reported (Err (CannotRead input)) is = is
read-reported (Err (Refused input why)) is = tt
read-reported (Err (TooLong input)) is = tt
read-reported (Err OutOfMemory) is = tt

-- a command that reads all its inputs first
first-read : (row : Row) → IsReadsFirst row → (bytes : List ℕ → List ℕ) (names : List (List ℕ)) (input : ℕ)
    → end_of row (held_by bytes names) ≡ Err (fault.CannotRead input) → ⊥
first-read (answers_as_it_reads row) is bytes names input h = absurd is
first-read (reads_first row) is bytes names input h =
    let texts = texts_of (held_by bytes names) in
    subst IsEndRead h (read-reported (texts >>= λ t. as_unmade (report_by row [] t)) (read-then texts _ (read-texts bytes 0 names) (λ t. read-asked (report_by row [] t))))

-- ---- `simulate`

-- without words
no-words : (all : Bool) (r : Result Cascade Unmade) (input : ℕ) → IsRead r → input < 1 → (answered_by all None r).end ≡ Err (fault.CannotRead input) → ⊥
no-words all (Ok c) input is named h =
    let same : 1 ≡ input = let z = h in cc in omega (arith, same, named)
no-words all (Err (CannotRead i)) input is named h = is
no-words all (Err (Refused i why)) input is named h = let z = h in cc
no-words all (Err (TooLong i)) input is named h = let z = h in cc
no-words all (Err OutOfMemory) input is named h = let z = h in cc

read-words : (all : Bool) (text : List ℕ) (wrong : Option ℕ) → IsEndRead (words_end wrong text)
read-words all text (Some line) = tt
read-words all text None = by (nat_lt MOST_BYTES (length text))
  where
    by : (long : Bool) → IsEndRead (if long then Err (fault.TooLong 1) else Ok false)
    by true = tt
    by false = tt

read-answers : (all : Bool) (text : List ℕ) (r : Result Cascade Unmade) → IsRead r → IsEndRead (answered_by all (Some text) r).end
read-answers all text (Ok c) is = read-words all text (first_wrong c all text)
read-answers all text (Err (CannotRead i)) is = is
read-answers all text (Err (Refused i why)) is = tt
read-answers all text (Err (TooLong i)) is = tt
read-answers all text (Err OutOfMemory) is = tt

abbrev circuit_in : List ℕ → Result Cascade Unmade
circuit_in content = content_or_fault 0 (Some content) >>= λ text. as_unmade (at_input 0 (circuit text))

read-circuit : (content : List ℕ) → IsRead (circuit_in content)
read-circuit content = read-then (content_or_fault 0 (Some content)) _ (read-content 0 content) (λ text. read-asked (at_input 0 (circuit text)))

simulate-read : (all : Bool) (bytes : List ℕ → List ℕ) (names : List (List ℕ)) (input : ℕ) → input < length names
    → (simulated all (held_by bytes names)).end ≡ Err (fault.CannotRead input) → ⊥
simulate-read all bytes [] input named h = omega (arith, named)
simulate-read all bytes (name ∷ []) input named h = no-words all (circuit_in (bytes name)) input (read-circuit (bytes name)) named h
simulate-read all bytes (name ∷ (second ∷ rest)) input named h =
    subst IsEndRead h (read-answers all (bytes second) (circuit_in (bytes name)) (read-circuit (bytes name)))

-- No end of a run is that an input cannot be read, if every input is held.
pub ends-read : (asked : Command) (settings : Settings) (bytes : List ℕ → List ℕ) (names : List (List ℕ)) (input : ℕ) → input < length names
    → end_of (row_for asked settings) (held_by bytes names) ≡ Err (fault.CannotRead input) → ⊥
ends-read Simulate settings bytes names input named h = simulate-read settings.all bytes names input named h
ends-read asked settings bytes names input named h = first-read (row_for asked settings) tt bytes names input h
