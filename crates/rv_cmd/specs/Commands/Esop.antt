-- `esop`: a cascade that adds the function of a PLA to its outputs, or its list of cubes: the reduced one, or one that
-- a search finds.
use Rattle.std.specs.Prelude.{◌≡◌, ◌≤◌, ℕ, Bool, List, [], ◌∷◌, ◌++◌, All, length, Option, Some, None, Ok}
use Rattle.rv_gate.specs.Circuit.{Cascade}
use Rattle.rv_gate.specs.Gate.{IsFlip, run}
use Rattle.rv_real.specs.Reading.{real_of}
use Rattle.rv_real.specs.Text.{text_of}
use Rattle.rv_pla.specs.FreeEntries.{IsAllowed}
use Rattle.rv_pla.specs.Pla.{TwoLevel, entry}
use Rattle.rv_pla.specs.Reading.{pla_of}
use Rattle.rv_pla.specs.Text.{IsEsopOf, esop_text}
use Rattle.rv_pla.specs.Zeros.{bit_for}
use Rattle.rv_cube.specs.Esop.{Esop, IsEsop, esop_value}
use Rattle.rv_cube.specs.First.{first_of}
use Rattle.rv_cube.specs.ReductionFor.{IsRight, IsSettledFor, reduced_for}
use Rattle.rv_cube.specs.Settled.{IsIrreducibleFor}
use Rattle.rv_embed.specs.Realizes.{Realizes}
use Rattle.rv_esop.specs.Cascade.{cascade_of, flip_count, xor_set}
use Rattle.rv_esop.specs.Shared.{IsOnLines, cost_of}
use Rattle.rv_exorlink.specs.Found.{IsFound}
use Rattle.rv_exorlink.specs.declared.goal.Goal.{Goal}
use Rattle.rv_exorlink.specs.declared.goal.Goal.TheVariants.{Cubes, Gates, Quantum, T}
use Rattle.rv_words.specs.declared.command.Form.{Form}
use Rattle.rv_words.specs.declared.command.Goal as wishes
use Rattle.rv_words.specs.declared.command.Goal.TheVariants as wish
use Rattle.rv_words.specs.declared.command.Form.TheVariants.{Pla}
use Rattle.rv_inputs.specs.Formats.{table}
use Rattle.rv_cmd.specs.Limits.{Limit, LimitedText, of_gates, unlimited}
use Rattle.rv_cmd.specs.Row.{ReadsFirst, always, finds, one}

-- the first list of a PLA, reduced for it until no step is left
abbrev pub reduced_list : TwoLevel → Esop
reduced_list pla = record (first_of pla) { cubes = reduced_for pla (first_of pla).cubes }

-- the cascade of a list, if it has few gates enough
abbrev pub cascade_report : Esop → LimitedText
cascade_report list = record { limits = of_gates (flip_count list) ∷ []; text = text_of (cascade_of list) }

-- `--to pla` asks for the list, and `--to real` for its cascade
abbrev pub esop_report : Form → TwoLevel → LimitedText
esop_report Pla pla = unlimited (esop_text pla.inputs pla.outputs (reduced_list pla).cubes)
esop_report _ pla = cascade_report (reduced_list pla)

-- the circuit, with its marks, gives at each input word what the PLA asks
abbrev pub Gives : TwoLevel → Cascade → Type 0
Gives pla c = Realizes pla (run c.gates) c.constants c.garbage

-- the circuit keeps the inputs and adds the value of the cubes to the outputs, whatever these hold
abbrev pub Adds : Esop → Cascade → Type 0
Adds list c = (x v : List Bool) → length x ≡ list.inputs → length v ≡ list.outputs
    → run c.gates (x ++ v) ≡ x ++ xor_set v (esop_value list.cubes x)

-- Read back, the text is a circuit that keeps the inputs and adds the value of the cubes to the outputs, whatever these
-- hold. The value has the bit of each entry that isn't free, so with its constants put in and its garbage left out the
-- circuit gives what the PLA asks.
pub record IsEsopCascade (pla : TwoLevel) (text : List ℕ) : Type 0 where
  pub read_back : real_of text ≡ Ok (cascade_of (reduced_list pla))
  pub adds : Adds (reduced_list pla) (cascade_of (reduced_list pla))
  pub value : IsRight pla (reduced_list pla).cubes
  pub gives : Gives pla (cascade_of (reduced_list pla))

-- Read back, the text is a PLA of type esop with these sizes and cubes. Its function has the bit of each entry that
-- isn't free, and no step of the reduction applies to its cubes: no two have one input part or merge, no exorlink leads
-- on, and no output is idle.
pub record IsList (pla : TwoLevel) (text : List ℕ) : Type 0 where
  pub back : TwoLevel
  pub read_back : pla_of text ≡ Ok back
  pub has_cubes : IsEsopOf pla.inputs pla.outputs (reduced_list pla).cubes back
  pub function : (x : List Bool) → length x ≡ pla.inputs → IsAllowed pla x (λ output. bit_for (entry back x output))
  pub settled : IsSettledFor pla (reduced_list pla).cubes
  pub irreducible : IsIrreducibleFor pla (reduced_list pla).cubes

abbrev pub IsEsopReport : Form → TwoLevel → List ℕ → Type 0
IsEsopReport Pla pla text = IsList pla text
IsEsopReport _ pla text = IsEsopCascade pla text

-- ---- with a goal: what a search finds

-- what the arguments ask to make small, and never lines or CNOTs
abbrev pub esop_goal : wishes.Goal → Goal
esop_goal wish.Gates = Gates
esop_goal wish.Quantum = Quantum
esop_goal wish.T = T
esop_goal _ = Cubes

-- the limit is that of the cascade of the reduced list, with which the search begins
abbrev pub found_limits : Form → TwoLevel → List Limit
found_limits Pla pla = []
found_limits _ pla = (cascade_report (reduced_list pla)).limits

-- Read back, the text is a circuit on the lines of the cascade. It keeps the inputs and adds the value of a list of
-- cubes, which is no worse by the goal than the reduced list, and whose value has the bit of each entry that isn't
-- free. So the circuit gives what the PLA asks. It has flips alone, and by the goal it costs no more than the cascade of
-- that list, and no more than that of the reduced one.
pub record IsFoundCascade (goal : Goal) (pla : TwoLevel) (text : List ℕ) : Type 0 where
  pub circuit : Cascade
  pub is : text ≡ text_of circuit
  pub read_back : real_of text ≡ Ok circuit
  pub lines : IsOnLines pla.inputs pla.outputs circuit
  pub list : Esop
  pub found : IsFound goal pla list
  pub adds : Adds list circuit
  pub flips : All IsFlip circuit.gates
  pub no_dearer : cost_of goal circuit.gates ≤ cost_of goal (cascade_of list).gates
  pub no_dearer_than_reduced : cost_of goal circuit.gates ≤ cost_of goal (cascade_of (reduced_list pla)).gates
  pub gives : Gives pla circuit

-- Read back, the text is a PLA of type esop with the cubes of such a list, each of which has an output. Its function has
-- the bit of each entry that isn't free.
pub record IsFoundList (goal : Goal) (pla : TwoLevel) (text : List ℕ) : Type 0 where
  pub list : Esop
  pub is : text ≡ esop_text list.inputs list.outputs list.cubes
  pub found : IsFound goal pla list
  pub valid : IsEsop list
  pub back : TwoLevel
  pub read_back : pla_of text ≡ Ok back
  pub has_cubes : IsEsopOf pla.inputs pla.outputs list.cubes back
  pub function : (x : List Bool) → length x ≡ pla.inputs → IsAllowed pla x (λ output. bit_for (entry back x output))

abbrev pub IsFoundReport : Form → Goal → TwoLevel → List ℕ → Type 0
IsFoundReport Pla goal pla text = IsFoundList goal pla text
IsFoundReport _ goal pla text = IsFoundCascade goal pla text

-- without a goal nothing is searched for
abbrev pub esop_row : Form → Option wishes.Goal → ReadsFirst
esop_row to None = one table (esop_report to) (IsEsopReport to)
esop_row to (Some goal) = finds table (found_limits to) always (IsFoundReport to (esop_goal goal))
