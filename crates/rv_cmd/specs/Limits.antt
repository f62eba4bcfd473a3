-- A report, and what has to hold before it is written.
use Rattle.std.specs.Prelude.{◌≡◌, ℕ, ◌≤◌, Bool, false, List, [], ◌∷◌, nat_lt, if◌then◌else◌, Option, Some, None, option_map, Result, Ok, Err}
use Rattle.std.specs.Option.{option_or}
use Rattle.rv_gate.specs.declared.circuit.TheConstants.{MOST_GATES}
use Rattle.rv_net.specs.declared.net.TheConstants.{MOST_OPS}
use Rattle.rv_faults.specs.declared.fault.InputFault.{InputFault}
use Rattle.rv_faults.specs.declared.fault.InputFault.TheVariants.{TooManyGates, TooManyLines, TooManyOps}
use Rattle.rv_faults.specs.declared.fault.Refusal.{Refusal}
use Rattle.rv_faults.specs.declared.fault.Refusal.TheVariants.{Refused}

-- a text that is written whole, and whether it says that two inputs differ
pub record Report : Type 0 where
  pub text : List ℕ
  pub differs : Bool

abbrev pub done : List ℕ → Report
done text = record { text = text; differs = false }

-- What has to hold: a count is at most so many, or else the input of this number is refused for this fault; or there is
-- no fault. (A condition whose fault has status 3 stands here as a limit, too.)
pub data Limit : Type 0 where
  at_most : ℕ → ℕ → ℕ → InputFault → Limit
  no_fault : ℕ → Option InputFault → Limit

abbrev pub IsKept : Limit → Type 0
IsKept (at_most input count most why) = count ≤ most
IsKept (no_fault input reason) = reason ≡ None

abbrev pub AreKept : List Limit → Type 0
AreKept [] = Unit {0}
AreKept (limit ∷ rest) = IsKept limit × AreKept rest

-- what a limit refuses if it is not kept
abbrev pub refused_by : Limit → Option Refusal
refused_by (at_most input count most why) = if nat_lt most count then Some (Refused input why) else None
refused_by (no_fault input reason) = option_map (Refused input) reason

-- what the first limit that is not kept refuses
abbrev pub first_refused : List Limit → Option Refusal
first_refused [] = None
first_refused (limit ∷ rest) = option_or (refused_by limit) (first_refused rest)

-- a text, with its limits in the order in which they are looked at
pub record LimitedText : Type 0 where
  pub limits : List Limit
  pub text : List ℕ

abbrev pub report_unless : Option Refusal → Report → Result Report Refusal
report_unless None report = Ok report
report_unless (Some refused) report = Err refused

-- a text that is found, with the limits of a command that searches
abbrev pub found_within : List Limit → List ℕ → LimitedText
found_within limits found = record { limits = limits; text = found }

-- the text, if the limits are kept, with what it says of the inputs
abbrev pub within : LimitedText → Bool → Result Report Refusal
within limited differs =
    report_unless (first_refused limited.limits) (record { text = limited.text; differs = differs })

-- ---- limits of the first input

abbrev pub unlimited : List ℕ → LimitedText
unlimited text = record { limits = []; text = text }

abbrev pub of_lines : ℕ → ℕ → Limit
of_lines count most = at_most 0 count most (TooManyLines count most)

abbrev pub of_gates : ℕ → Limit
of_gates count = at_most 0 count MOST_GATES (TooManyGates count MOST_GATES)

abbrev pub of_ops : ℕ → Limit
of_ops count = at_most 0 count MOST_OPS (TooManyOps count MOST_OPS)
