-- `check --by paths --constants`: whether a network does what a circuit does, from the words that hold its constants.
use Rattle.std.specs.Prelude.{◌≡◌, ◌⊎◌, ◌<◌, ◌^◌, ◌==◌, ℕ, Bool, List, length, if◌then◌else◌, Option, None, slice_index_or}
use Rattle.rv_gate.specs.Circuit.{Cascade}
use Rattle.rv_gate.specs.FirstAnswer.{first}
use Rattle.rv_gate.specs.Gate.{all_below, run}
use Rattle.rv_gate.specs.Word.{bit_of, word_of}
use Rattle.rv_gate.specs.declared.circuit.Mark.{Mark}
use Rattle.rv_gate.specs.declared.circuit.Mark.TheVariants.{Input}
use Rattle.rv_net.specs.Op.{Network}
use Rattle.rv_qasm.specs.Reading.{Listing}
use Rattle.rv_check.specs.Check.{difference_at, verdict_of}
use Rattle.rv_check.specs.declared.checking.Verdict.TheVariants.{Lines, Same}
use Rattle.rv_sums.specs.Finding.{Breaks, DenotesFrom, HasConstants, may_begin}
use Rattle.rv_inputs.specs.Formats.{circuit, program}
use Rattle.rv_cmd.specs.Commands.Check.{IsToldByLines, IsUndecidedByPaths, paths_limits, says_different, verdict_text, witness_text}
use Rattle.rv_cmd.specs.Row.{ReadsFirst, tells}

-- each line that is marked as constant holds its constant
abbrev pub holds_constants : List Mark → List Bool → Bool
holds_constants marks word = all_below (λ line. may_begin (slice_index_or marks line Input) (bit_of word line)) (length marks)

-- the number of a word that holds them, if from it some amplitude isn't that of the circuit
abbrev pub break_from : Cascade → Network → ℕ → Option ℕ
break_from c net number =
    if holds_constants c.constants (word_of net.lines number) then difference_at c.gates net number else None

-- the least such word
unfoldable pub first_break : Cascade → Network → Option ℕ
first_break c net = first (break_from c net) 0 (2 ^ net.lines)

abbrev pub differs_from : Cascade → Listing → Bool
differs_from c listing =
    says_different (if length c.names == listing.net.lines then verdict_of (first_break c listing.net)
    else Lines (length c.names) listing.net.lines)

abbrev pub IsToldSameFrom : Cascade → Network → List ℕ → Type 0
IsToldSameFrom c net text =
    (text ≡ verdict_text net.lines Same) × (length c.names ≡ net.lines) × DenotesFrom c.constants net.lines net.ops (run c.gates)

pub record IsToldAtFrom (c : Cascade) (net : Network) (text : List ℕ) : Type 0 where
  pub word : ℕ
  pub is : text ≡ witness_text net.lines word
  pub lines : length c.names ≡ net.lines
  pub within : word < 2 ^ net.lines
  pub holds : HasConstants c.constants (word_of net.lines word)
  pub breaks : Breaks c.gates net word

-- The report is `same`, and from all words that hold the constants the amplitudes are those of the circuit; or it tells
-- such a word from which one isn't; or both numbers of lines.
abbrev pub TellsFrom : Cascade → Listing → List ℕ → Type 0
TellsFrom c listing text =
    IsToldSameFrom c listing.net text ⊎ (IsToldAtFrom c listing.net text ⊎ IsToldByLines c listing.net text)

abbrev pub constants_row : ReadsFirst
constants_row = tells circuit program paths_limits differs_from IsUndecidedByPaths TellsFrom
