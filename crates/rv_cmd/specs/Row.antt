-- What a command does with the contents of its inputs: a row of one of six kinds.
use Rattle.std.specs.Prelude.{◌≡◌, ℕ, Bool, false, List, [], if◌then◌else◌, Result, Ok, Err}
use Rattle.rv_io.specs.Files.{FilesView}
use Rattle.rv_reader.specs.Rules.{◌>>=◌}
use Rattle.rv_faults.specs.declared.fault.Fault.{Fault}
use Rattle.rv_faults.specs.declared.fault.Refusal.{Refusal}
use Rattle.rv_faults.specs.declared.fault.Unmade.{Unmade}
use Rattle.rv_faults.specs.Fault.{fault_of, status_of, unmade_by}
use Rattle.rv_inputs.specs.Contents.{AreTexts, Contents, text_at, texts_of}
use Rattle.rv_inputs.specs.Formats.{DenotesWith, Format, at_input}
use Rattle.rv_cmd.specs.Limits.{AreKept, Limit, LimitedText, Report, done, found_within, within}

-- ---- how a run ends

-- with a report, which may say that its inputs differ, or by a fault
abbrev pub End : Type 0
End = Result Bool Fault

abbrev pub status_of_end : End → ℕ
status_of_end (Ok differs) = if differs then 1 else 0
status_of_end (Err fault) = status_of fault

-- the text that is written, and the end after it
pub record Outcome : Type 0 where
  pub text : List ℕ
  pub end : End

-- a report is written whole, and before a fault nothing is
abbrev pub ended : Result Report Fault → Outcome
ended (Ok report) = record { text = report.text; end = Ok report.differs }
ended (Err fault) = record { text = []; end = Err fault }

-- ---- rows

-- A command that reads all its inputs before it writes; it has none, one or two. Its row has the format of each, the
-- text with its limits that it makes of what they denote, and what that text means. Where there are two inputs the row
-- also has whether the text says that they differ, so that only these rows can end with status 1, and the reasons for
-- which it may end without a text where the limits are kept. A command that searches has limits, the reasons for which
-- its search may end without a text where they are kept, and the meaning: any text with it may be found. A command that
-- looks how its two inputs differ, by a search, has all of these.
pub data ReadsFirst : Type 1 where
  none : List ℕ → (List ℕ → Type 0) → ReadsFirst
  one : {X : Type 0} → Format X → (X → LimitedText) → (X → List ℕ → Type 0) → ReadsFirst
  two : {X Y : Type 0} → Format X → Format Y → (X → Y → LimitedText) → (X → Y → Bool) → (X → Y → Refusal → Type 0)
      → (X → Y → List ℕ → Type 0) → ReadsFirst
  tells : {X Y : Type 0} → Format X → Format Y → (X → Y → List Limit) → (X → Y → Bool) → (X → Y → Refusal → Type 0)
      → (X → Y → List ℕ → Type 0) → ReadsFirst
  finds : {X : Type 0} → Format X → (X → List Limit) → (X → Refusal → Type 0) → (X → List ℕ → Type 0) → ReadsFirst

-- a search that always ends with a text
abbrev pub always : {X : Type 0} → X → Refusal → Type 0
always x refused = ⊥

-- two inputs of which there always is a report
abbrev pub always_told : {X Y : Type 0} → X → Y → Refusal → Type 0
always_told x y refused = ⊥

-- A command that answers as it reads its last input.
pub record AnswersAsItReads : Type 1 where
  pub outcome_by : Contents → Outcome
  -- what its text means, where the inputs have these texts
  pub Means : List (List ℕ) → List ℕ → Type 0
  -- it refuses none of these texts
  pub Accepts : List (List ℕ) → Type 0
  -- it had begun to answer
  pub HasBegun : List (List ℕ) → Contents → FilesView → FilesView → Type 0
  -- how far the input of this number was read where it is refused
  pub HasRead : List (List ℕ) → Contents → ℕ → FilesView → FilesView → Type 0
  -- the text that it has written where a read of the input of this number fails
  pub HasWritten : Contents → ℕ → FilesView → List ℕ → Type 0

pub data Row : Type 1 where
  reads_first : ReadsFirst → Row
  answers_as_it_reads : AnswersAsItReads → Row

abbrev pub IsReadsFirst : Row → Type 0
IsReadsFirst (reads_first row) = Unit {0}
IsReadsFirst (answers_as_it_reads row) = ⊥

-- ---- what is asked for

-- the report that is made of these texts of the inputs, or the first of them that is refused, or the first limit that
-- is not kept; only a command that searches writes the text that is found
abbrev pub report_by : ReadsFirst → List ℕ → List (List ℕ) → Result Report Refusal
report_by (none text Means) found texts = Ok (done text)
report_by (one format report Means) found texts = at_input 0 (format (text_at texts 0)) >>= λ x. within (report x) false
report_by (two first second report differs Lacks Means) found texts =
    at_input 0 (first (text_at texts 0)) >>= λ x.
    (at_input 1 (second (text_at texts 1)) >>= λ y. within (report x y) (differs x y))
report_by (tells first second limits differs Lacks Means) found texts =
    at_input 0 (first (text_at texts 0)) >>= λ x.
    (at_input 1 (second (text_at texts 1)) >>= λ y. within (found_within (limits x y) found) (differs x y))
report_by (finds format limits Lacks Means) found texts =
    at_input 0 (format (text_at texts 0)) >>= λ x. within (found_within (limits x) found) false

abbrev pub as_unmade : {X : Type 0} → Result X Refusal → Result X Unmade
as_unmade (Ok x) = Ok x
as_unmade (Err refused) = Err (unmade_by refused)

abbrev pub as_report : Result Report Unmade → Result Report Fault
as_report (Ok report) = Ok report
as_report (Err unmade) = Err (fault_of unmade)

-- what the contents ask for: the first input that isn't held or is too long, then the command's own order; with a text
-- that is found, which all commands ignore but those that search
abbrev pub outcome : Row → List ℕ → Contents → Outcome
outcome (reads_first row) found contents =
    ended (as_report (texts_of contents >>= λ texts. as_unmade (report_by row found texts)))
outcome (answers_as_it_reads row) found contents = row.outcome_by contents

-- the end that the contents ask for, whatever is found, unless a search ends without a text
abbrev pub end_of : Row → Contents → End
end_of row contents = (outcome row [] contents).end

-- ---- what is meant, and what is accepted

-- what a text that is written means, where the inputs have these texts
abbrev pub MeansBy : ReadsFirst → List (List ℕ) → List ℕ → Type 0
MeansBy (none made Means) texts text = Means text
MeansBy (one format report Means) texts text = DenotesWith format (text_at texts 0) (λ x. Means x text)
MeansBy (two first second report differs Lacks Means) texts text =
    DenotesWith first (text_at texts 0) (λ x. DenotesWith second (text_at texts 1) (λ y. Means x y text))
MeansBy (tells first second limits differs Lacks Means) texts text =
    DenotesWith first (text_at texts 0) (λ x. DenotesWith second (text_at texts 1) (λ y. Means x y text))
MeansBy (finds format limits Lacks Means) texts text = DenotesWith format (text_at texts 0) (λ x. Means x text)

abbrev pub Means : Row → List (List ℕ) → List ℕ → Type 0
Means (reads_first row) texts text = MeansBy row texts text
Means (answers_as_it_reads row) texts text = row.Means texts text

-- each text denotes an object, and all limits are kept
abbrev pub AcceptsBy : ReadsFirst → List (List ℕ) → Type 0
AcceptsBy (none made Means) texts = Unit {0}
AcceptsBy (one format report Means) texts = DenotesWith format (text_at texts 0) (λ x. AreKept (report x).limits)
AcceptsBy (two first second report differs Lacks Means) texts =
    DenotesWith first (text_at texts 0) (λ x. DenotesWith second (text_at texts 1) (λ y. AreKept (report x y).limits))
AcceptsBy (tells first second limits differs Lacks Means) texts =
    DenotesWith first (text_at texts 0) (λ x. DenotesWith second (text_at texts 1) (λ y. AreKept (limits x y)))
AcceptsBy (finds format limits Lacks Means) texts = DenotesWith format (text_at texts 0) (λ x. AreKept (limits x))

abbrev pub Accepts : Row → List (List ℕ) → Type 0
Accepts (reads_first row) texts = AcceptsBy row texts
Accepts (answers_as_it_reads row) texts = row.Accepts texts

-- every input is held and at most 2^27 bytes long, and the command accepts their texts
pub record IsAccepted (row : Row) (contents : Contents) : Type 0 where
  pub texts : List (List ℕ)
  pub are : AreTexts contents texts
  pub accepted : Accepts row texts

-- ---- a command that ends without a text

-- where the inputs have these texts, within the limits, for this reason
abbrev pub LacksBy : ReadsFirst → List (List ℕ) → Refusal → Type 0
LacksBy (none made Means) texts refused = ⊥
LacksBy (one format report Means) texts refused = ⊥
LacksBy (two first second report differs Lacks Means) texts refused =
    DenotesWith first (text_at texts 0) (λ x.
    DenotesWith second (text_at texts 1) (λ y. AreKept (report x y).limits × Lacks x y refused))
LacksBy (tells first second limits differs Lacks Means) texts refused =
    DenotesWith first (text_at texts 0) (λ x.
    DenotesWith second (text_at texts 1) (λ y. AreKept (limits x y) × Lacks x y refused))
LacksBy (finds format limits Lacks Means) texts refused =
    DenotesWith format (text_at texts 0) (λ x. AreKept (limits x) × Lacks x refused)

-- the inputs hold texts for which it may end so, with this fault
pub record LacksText (row : ReadsFirst) (contents : Contents) (fault : Fault) : Type 0 where
  pub texts : List (List ℕ)
  pub are : AreTexts contents texts
  pub refusal : Refusal
  pub lacks : LacksBy row texts refusal
  pub is : fault ≡ fault_of (unmade_by refusal)

abbrev pub Lacks : Row → Contents → Fault → Type 0
Lacks (reads_first row) contents fault = LacksText row contents fault
Lacks (answers_as_it_reads row) contents fault = ⊥
