-- `check --from qasm`: whether two networks do the same.
use Rattle.std.specs.Prelude.{◌≡◌, ◌≢◌, ◌⊎◌, ◌+◌, ◌<◌, ◌^◌, ℕ, Bool, false, true, not, List, [], ◌∷◌, length, Option, Some, None, Result, Ok, Err}
use Rattle.rv_gate.specs.Word.{word_of}
use Rattle.rv_net.specs.Op.{Network}
use Rattle.rv_net.specs.declared.net.TheConstants.{MOST_OPS}
use Rattle.rv_qasm.specs.Reading.{Listing}
use Rattle.rv_check.specs.declared.checking.Verdict.TheVariants.{Lines, Same}
use Rattle.rv_alike.specs.Alike.{AreAlike, AreAlikeFrom, are_alike}
use Rattle.rv_sums.specs.declared.finding.Finding.{Finding}
use Rattle.rv_faults.specs.declared.fault.InputFault.{InputFault}
use Rattle.rv_faults.specs.declared.fault.InputFault.TheVariants.{TooManyOps}
use Rattle.rv_faults.specs.declared.fault.Refusal.{Refusal}
use Rattle.rv_faults.specs.declared.fault.Refusal.TheVariants.{Refused}
use Rattle.rv_inputs.specs.Formats.{program}
use Rattle.rv_cmd.specs.Commands.Check.{undecided, verdict_text, witness_text}
use Rattle.rv_cmd.specs.Limits.{Limit, at_most}
use Rattle.rv_cmd.specs.Row.{ReadsFirst, tells}

-- both together have no more operations than a network may have
abbrev pub networks_limits : Listing → Listing → List Limit
networks_limits a b =
    at_most 1 (length a.net.ops + length b.net.ops) MOST_OPS (TooManyOps (length a.net.ops + length b.net.ops) MOST_OPS) ∷ []

abbrev pub networks_differ : Listing → Listing → Bool
networks_differ a b = not (are_alike a.net b.net)

abbrev pub AreToldAlike : Network → Network → List ℕ → Type 0
AreToldAlike a b text = (text ≡ verdict_text a.lines Same) × (a.lines ≡ b.lines) × AreAlike a b

pub record AreToldApart (a b : Network) (text : List ℕ) : Type 0 where
  pub word : ℕ
  pub is : text ≡ witness_text a.lines word
  pub lines : a.lines ≡ b.lines
  pub within : word < 2 ^ a.lines
  pub apart : ¬ AreAlikeFrom a b (word_of a.lines word)

abbrev pub AreToldByLines : Network → Network → List ℕ → Type 0
AreToldByLines a b text = (text ≡ verdict_text a.lines (Lines a.lines b.lines)) × (a.lines ≢ b.lines)

-- The report is `same`, and both networks have the same amplitudes; or it tells a word from which they haven't; or both
-- numbers of lines.
abbrev pub TellsNetworks : Listing → Listing → List ℕ → Type 0
TellsNetworks a b text = AreToldAlike a.net b.net text ⊎ (AreToldApart a.net b.net text ⊎ AreToldByLines a.net b.net text)

-- The search came to an end without telling anything, on the same lines.
pub record AreUndecided (a b : Listing) (refused : Refusal) : Type 0 where
  pub finding : Finding
  pub why : InputFault
  pub ends : undecided finding ≡ Some why
  pub is : refused ≡ Refused 1 why
  pub lines : a.net.lines ≡ b.net.lines

abbrev pub networks_row : ReadsFirst
networks_row = tells program program networks_limits networks_differ AreUndecided TellsNetworks
