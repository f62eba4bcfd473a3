-- `check`: whether a network does exactly what a circuit does.
use Rattle.std.specs.Prelude.{◌≡◌, ◌≢◌, ◌↔◌, ◌⊎◌, ◌≤◌, ◌<◌, ◌^◌, ◌==◌, ℕ, Bool, true, false, List, [], ◌∷◌, ◌++◌, length, if◌then◌else◌, Option, Some, None, option_and_then, codes, decimal}
use Rattle.rv_gate.specs.Circuit.{Cascade}
use Rattle.rv_gate.specs.Gate.{run}
use Rattle.rv_net.specs.Denotes.{Denotes}
use Rattle.rv_net.specs.Op.{Network}
use Rattle.rv_qasm.specs.Reading.{Listing}
use Rattle.rv_check.specs.Check.{first_difference, first_large, verdict_of}
use Rattle.rv_check.specs.Laws.{IsLeastBreak, NoneLarge}
use Rattle.rv_check.specs.declared.checking.CheckFault.{CheckFault}
use Rattle.rv_check.specs.declared.checking.CheckFault.TheVariants.{CircuitLines, Mem, NetLines, TooLarge}
use Rattle.rv_check.specs.declared.checking.TheConstants.{MOST_CHECKED_LINES}
use Rattle.rv_check.specs.declared.checking.Verdict.{Verdict}
use Rattle.rv_check.specs.declared.checking.Verdict.TheVariants.{Differs, Lines, Same}
use Rattle.rv_sums.specs.Finding.{Breaks}
use Rattle.rv_sums.specs.declared.by_paths.TheConstants.{MOST_STEPS, MOST_TERMS}
use Rattle.rv_sums.specs.declared.finding.Finding.{Finding}
use Rattle.rv_sums.specs.declared.finding.Finding.TheVariants as finding
use Rattle.rv_faults.specs.Fault.{bits_of}
use Rattle.rv_faults.specs.declared.fault.InputFault.{InputFault}
use Rattle.rv_faults.specs.declared.fault.InputFault.TheVariants.{LargeCoefficient, TooManyLines, Undecided}
use Rattle.rv_faults.specs.declared.fault.Measure.TheVariants.{PathBits, Steps, Terms}
use Rattle.rv_faults.specs.declared.fault.Refusal.{Refusal}
use Rattle.rv_faults.specs.declared.fault.Refusal.TheVariants.{OutOfMemory, Refused}
use Rattle.rv_words.specs.declared.command.CheckedBy.{CheckedBy}
use Rattle.rv_words.specs.declared.command.CheckedBy.TheVariants.{Paths, Words}
use Rattle.rv_inputs.specs.Formats.{circuit, program}
use Rattle.rv_cmd.specs.Limits.{Limit, LimitedText, at_most, no_fault}
use Rattle.rv_cmd.specs.Row.{ReadsFirst, always_told, tells, two}

-- ---- the limits

-- a coefficient that is beyond its limit, of a network on so many lines
abbrev pub too_large : ℕ → CheckFault → Option InputFault
too_large lines (TooLarge word place) = Some (LargeCoefficient lines word place)
too_large lines _ = None

-- the first one, for the least word; none is looked for if the circuit has another number of lines
abbrev pub coefficient_fault : Cascade → Network → Option InputFault
coefficient_fault c net =
    if length c.names == net.lines then option_and_then (too_large net.lines) (first_large net) else None

-- the circuit's lines, then the network's, then the coefficients
abbrev pub check_limits : Cascade → Network → List Limit
check_limits c net =
    at_most 0 (length c.names) MOST_CHECKED_LINES (TooManyLines (length c.names) MOST_CHECKED_LINES)
    ∷ at_most 1 net.lines MOST_CHECKED_LINES (TooManyLines net.lines MOST_CHECKED_LINES)
    ∷ no_fault 1 (coefficient_fault c net)
    ∷ []

-- By `LimitsInTerms` these limits are kept exactly if:
pub record CanBeChecked (c : Cascade) (net : Network) : Type 0 where
  pub circuit_lines : length c.names ≤ MOST_CHECKED_LINES
  pub net_lines : net.lines ≤ MOST_CHECKED_LINES
  pub coefficients : length c.names ≡ net.lines → NoneLarge net

-- a fault of a check, as a refusal
abbrev pub no_verdict : ℕ → CheckFault → Refusal
no_verdict lines (CircuitLines count) = Refused 0 (TooManyLines count MOST_CHECKED_LINES)
no_verdict lines (NetLines count) = Refused 1 (TooManyLines count MOST_CHECKED_LINES)
no_verdict lines (TooLarge word place) = Refused 1 (LargeCoefficient lines word place)
no_verdict lines Mem = OutOfMemory

-- ---- the report

abbrev pub lines_said : ℕ → ℕ → List ℕ
lines_said circuit_lines net_lines =
    codes "differs in lines " ++ (decimal circuit_lines ++ (codes " and " ++ decimal net_lines))

-- a word is told in bits, as many as there are lines
abbrev pub verdict_said : ℕ → Verdict → List ℕ
verdict_said lines Same = codes "same"
verdict_said lines (Lines circuit_lines net_lines) = lines_said circuit_lines net_lines
verdict_said lines (Differs word) = codes "differs at word " ++ bits_of lines word

abbrev pub verdict_text : ℕ → Verdict → List ℕ
verdict_text lines verdict = verdict_said lines verdict ++ codes "\n"

abbrev pub says_different : Verdict → Bool
says_different Same = false
says_different (Lines circuit_lines net_lines) = true
says_different (Differs word) = true

-- what is found within the limits
abbrev pub verdict_for : Cascade → Network → Verdict
verdict_for c net =
    if length c.names == net.lines then verdict_of (first_difference c.gates net) else Lines (length c.names) net.lines

abbrev pub check_report : Cascade → Listing → LimitedText
check_report c listing =
    record { limits = check_limits c listing.net; text = verdict_text listing.net.lines (verdict_for c listing.net) }

abbrev pub check_differs : Cascade → Listing → Bool
check_differs c listing = says_different (verdict_for c listing.net)

-- The report is `same`, with status 0, exactly if the network denotes the circuit's run: for all words its exact
-- amplitudes are those of the circuit's permutation, times the root of two for each H; no phase is free. Else it tells
-- the least word from which an amplitude is another one, or both numbers of lines, with status 1.
pub record TellsVerdict (c : Cascade) (listing : Listing) (text : List ℕ) : Type 0 where
  pub is : text ≡ verdict_text listing.net.lines (verdict_for c listing.net)
  pub same : (verdict_for c listing.net ≡ Same) ↔
      ((length c.names ≡ listing.net.lines) × Denotes listing.net.lines listing.net.ops (run c.gates))
  pub differs : (word : ℕ)
      → (verdict_for c listing.net ≡ Differs word) ↔
      ((length c.names ≡ listing.net.lines) × IsLeastBreak c.gates listing.net word)
  pub lines :
      (n m : ℕ) → (verdict_for c listing.net ≡ Lines n m) ↔ ((length c.names ≡ n) × (listing.net.lines ≡ m) × (n ≢ m))
  pub status : (check_differs c listing ≡ false) ↔ (verdict_for c listing.net ≡ Same)

-- ---- by sums over paths: what is told is found

-- nothing is refused of what can be read
abbrev pub paths_limits : Cascade → Listing → List Limit
paths_limits c listing = []

-- a word at which they differ, which need not be the first
abbrev pub witness_text : ℕ → ℕ → List ℕ
witness_text lines word = codes "differs, as at word " ++ (bits_of lines word ++ codes "\n")

abbrev pub IsToldSame : Cascade → Network → List ℕ → Type 0
IsToldSame c net text =
    (text ≡ verdict_text net.lines Same) × (length c.names ≡ net.lines) × Denotes net.lines net.ops (run c.gates)

pub record IsToldAt (c : Cascade) (net : Network) (text : List ℕ) : Type 0 where
  pub word : ℕ
  pub is : text ≡ witness_text net.lines word
  pub lines : length c.names ≡ net.lines
  pub within : word < 2 ^ net.lines
  pub breaks : Breaks c.gates net word

abbrev pub IsToldByLines : Cascade → Network → List ℕ → Type 0
IsToldByLines c net text = (text ≡ verdict_text net.lines (Lines (length c.names) net.lines)) × (length c.names ≢ net.lines)

-- The report is `same`, and the network denotes the circuit's run; or it tells a word from which an amplitude is another
-- one; or both numbers of lines.
abbrev pub TellsByPaths : Cascade → Listing → List ℕ → Type 0
TellsByPaths c listing text =
    IsToldSame c listing.net text ⊎ (IsToldAt c listing.net text ⊎ IsToldByLines c listing.net text)

-- why there is no report
abbrev pub undecided : Finding → Option InputFault
undecided finding.Same = None
undecided (finding.Differs word) = None
undecided finding.Terms = Some (Undecided MOST_TERMS Terms)
undecided finding.Steps = Some (Undecided MOST_STEPS Steps)
undecided (finding.Paths left) = Some (Undecided left PathBits)

-- The search came to an end without telling anything, on the same lines.
pub record IsUndecidedByPaths (c : Cascade) (listing : Listing) (refused : Refusal) : Type 0 where
  pub finding : Finding
  pub why : InputFault
  pub ends : undecided finding ≡ Some why
  pub is : refused ≡ Refused 1 why
  pub lines : length c.names ≡ listing.net.lines

-- whether an amplitude is another one is the same question, however it is looked at
abbrev pub check_row : CheckedBy → ReadsFirst
check_row Words = two circuit program check_report check_differs always_told TellsVerdict
check_row Paths = tells circuit program paths_limits check_differs IsUndecidedByPaths TellsByPaths
