-- `compute`: a circuit that a search finds for a logic network; or what such circuits cost.
use Rattle.std.specs.Prelude.{◌≡◌, ℕ, ◌+◌, ◌<◌, ◌≤◌, Bool, true, false, List, [], ◌∷◌, All, length, map, Ok}
use Rattle.rv_gate.specs.Circuit.{Cascade}
use Rattle.rv_gate.specs.declared.circuit.TheConstants.{MOST_GATES}
use Rattle.rv_blif.specs.Logic.{Logic}
use Rattle.rv_compute.specs.Bounds.{gate_bound, line_bound}
use Rattle.rv_compute.specs.Computed.{Gives, IsComputed}
use Rattle.rv_compute.specs.Points.{AreOnMore, IsPoint}
use Rattle.rv_compute.specs.declared.circuit.ComputeFault.{ComputeFault}
use Rattle.rv_compute.specs.declared.circuit.ComputeFault.TheVariants as fault
use Rattle.rv_compute.specs.declared.points.Point.{Point}
use Rattle.rv_curve.specs.Report.{curve_text}
use Rattle.rv_curve.specs.Row.{row_of}
use Rattle.rv_curve.specs.declared.report.Search.TheVariants as command
use Rattle.rv_curve.specs.declared.row.Row as counted
use Rattle.rv_price.specs.declared.goal.Goal.{Goal}
use Rattle.rv_real.specs.Reading.{real_of}
use Rattle.rv_real.specs.Text.{text_of}
use Rattle.rv_faults.specs.declared.fault.InputFault.{InputFault}
use Rattle.rv_faults.specs.declared.fault.InputFault.TheVariants.{MoreGates, TooManyEnds, TooManyLines}
use Rattle.rv_faults.specs.declared.fault.Refusal.{Refusal}
use Rattle.rv_faults.specs.declared.fault.Refusal.TheVariants.{OutOfMemory, Refused}
use Rattle.rv_inputs.specs.Formats.{logic}
use Rattle.rv_cmd.specs.Limits.{Limit, at_most}
use Rattle.rv_cmd.specs.Row.{ReadsFirst, finds}

-- the lines of the inputs and outputs
abbrev pub ends_of : Logic → ℕ
ends_of network = length network.inputs + length network.outputs

-- with fewer lines no circuit is of the form that is written
abbrev pub compute_limits : ℕ → Logic → List Limit
compute_limits most network = at_most 0 (ends_of network) most (TooManyEnds (ends_of network) most) ∷ []

-- Why the search may end without a circuit on so many lines. The best order of steps that it found takes more lines,
-- and not more than one for each input, output and node, so that it never ends so where there are as many; or the
-- circuit would have more gates than a circuit has, and then a flip for each word of each node's operands, there and
-- back, and one for each output are too many, too.
abbrev pub EndsFor : ℕ → Logic → InputFault → Type 0
EndsFor most network (TooManyLines found limit) = (limit ≡ most) × (most < found) × (found ≤ line_bound network)
EndsFor most network (MoreGates limit) = (limit ≡ MOST_GATES) × (MOST_GATES < gate_bound network)
EndsFor most network _ = ⊥

-- what the search tells, as a refusal
abbrev pub in_vain : ℕ → ComputeFault → Refusal
in_vain most (fault.TooManyLines found) = Refused 0 (TooManyLines found most)
in_vain most fault.TooManyGates = Refused 0 (MoreGates MOST_GATES)
in_vain most fault.Mem = OutOfMemory

abbrev pub EndsInVain : ℕ → Logic → Refusal → Type 0
EndsInVain most network (Refused input why) = (input ≡ 0) × EndsFor most network why
EndsInVain most network OutOfMemory = ⊥

-- Read back, the text is a circuit on at most so many lines: those of the network's inputs, which end as they began,
-- those of its outputs, to which the outputs are added, and work lines, which hold 0 at first and at the end. By its
-- marks it gives the network's outputs at each input word.
pub record IsComputation (most : ℕ) (network : Logic) (text : List ℕ) : Type 0 where
  pub circuit : Cascade
  pub is : text ≡ text_of circuit
  pub read_back : real_of text ≡ Ok circuit
  pub computed : IsComputed network circuit
  pub gives : Gives network circuit
  pub lines : length circuit.names ≤ most

-- what a circuit costs, and the lines and the effort for which it was asked
abbrev pub row_at : ℕ → Point → counted.Row
row_at effort p = row_of p.lines effort p.circuit

-- The text is the report of circuits, at least one, each on more lines than those before it. By its marks each gives the
-- network's outputs at each input word, on at most as many lines as its call allows, which are no more than so many. The
-- goal, the effort and the seed of the calls are those that were asked for.
pub record IsCurve (goal : Goal) (effort seed most : ℕ) (network : Logic) (text : List ℕ) : Type 0 where
  pub points : List Point
  pub is : text ≡ curve_text command.Compute goal seed (map (row_at effort) points)
  pub some : 1 ≤ length points
  pub computed : All (IsPoint network most) points
  pub rising : AreOnMore points

-- a circuit, or the report of several
abbrev pub compute_row : Bool → Goal → ℕ → ℕ → ℕ → ReadsFirst
compute_row true goal effort seed most =
    finds logic (compute_limits most) (EndsInVain most) (IsCurve goal effort seed most)
compute_row false goal effort seed most = finds logic (compute_limits most) (EndsInVain most) (IsComputation most)
