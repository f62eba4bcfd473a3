-- `realize`: a circuit that a search finds for a truth table, or for a permutation; or what circuits for a table cost.
use Rattle.std.specs.Prelude.{◌≡◌, ◌≤◌, ℕ, Bool, true, false, List, [], ◌∷◌, All, length, map, Ok}
use Rattle.rv_gate.specs.Circuit.{Cascade}
use Rattle.rv_gate.specs.declared.circuit.TheConstants.{MOST_GATES}
use Rattle.rv_perm.specs.Marked.{Marked}
use Rattle.rv_pla.specs.Pla.{TwoLevel}
use Rattle.rv_price.specs.declared.goal.Goal.{Goal}
use Rattle.rv_curve.specs.Report.{curve_text}
use Rattle.rv_curve.specs.Row.{row_of}
use Rattle.rv_curve.specs.declared.report.Search.TheVariants as command
use Rattle.rv_curve.specs.declared.row.Row as counted
use Rattle.rv_realize.specs.Realized.{AreOnMore, IsInPlace, IsPoint, IsRealized, IsTooFew, IsTooLong}
use Rattle.rv_realize.specs.declared.options.RealizeFault.{RealizeFault}
use Rattle.rv_realize.specs.declared.options.RealizeFault.TheVariants as fault
use Rattle.rv_realize.specs.declared.points.Point.{Point}
use Rattle.rv_real.specs.Reading.{real_of}
use Rattle.rv_real.specs.Text.{text_of}
use Rattle.rv_words.specs.declared.command.Form.{Form}
use Rattle.rv_words.specs.declared.command.Form.TheVariants as form
use Rattle.rv_faults.specs.declared.fault.InputFault.{InputFault}
use Rattle.rv_faults.specs.declared.fault.InputFault.TheVariants.{MoreGates, TooManyLines}
use Rattle.rv_faults.specs.declared.fault.Refusal.{Refusal}
use Rattle.rv_faults.specs.declared.fault.Refusal.TheVariants.{OutOfMemory, Refused}
use Rattle.rv_inputs.specs.Formats.{permutation, table}
use Rattle.rv_cmd.specs.Limits.{Limit, of_lines}
use Rattle.rv_cmd.specs.Row.{ReadsFirst, always, finds}

-- what the search tells, as a refusal
abbrev pub in_vain : ℕ → RealizeFault → Refusal
in_vain most (fault.TooManyLines count) = Refused 0 (TooManyLines count most)
in_vain most fault.TooManyGates = Refused 0 (MoreGates MOST_GATES)
in_vain most fault.Mem = OutOfMemory

-- ---- of a truth table

-- nothing is refused before the search
abbrev pub realize_limits : TwoLevel → List Limit
realize_limits pla = []

-- Why there may be no circuit on so many lines. More are needed: those of the embedding where it has at most 16, and if
-- no entry is free, no circuit has fewer; else one for each input and output. Or the embedding has more than 16 lines,
-- and the cascade of the reduced sum, for which there are lines, has more gates than a circuit has.
abbrev pub EndsFor : ℕ → TwoLevel → InputFault → Type 0
EndsFor most pla (TooManyLines count limit) = (limit ≡ most) × IsTooFew pla most count
EndsFor most pla (MoreGates limit) = (limit ≡ MOST_GATES) × IsTooLong pla most
EndsFor most pla _ = ⊥

abbrev pub EndsInVain : ℕ → TwoLevel → Refusal → Type 0
EndsInVain most pla (Refused input why) = (input ≡ 0) × EndsFor most pla why
EndsInVain most pla OutOfMemory = ⊥

-- Read back, the text is a circuit on at most so many lines that gives, by its marks, what the table asks at each input
-- word.
pub record IsRealization (most : ℕ) (pla : TwoLevel) (text : List ℕ) : Type 0 where
  pub circuit : Cascade
  pub is : text ≡ text_of circuit
  pub read_back : real_of text ≡ Ok circuit
  pub realized : IsRealized pla most circuit

-- what a circuit costs, and the lines and the effort for which it was asked
abbrev pub row_at : Point → counted.Row
row_at p = row_of p.lines p.effort p.circuit

-- The text is the report of circuits, at least one, each on more lines than those before it. Each gives by its marks
-- what the table asks at each input word, on at most as many lines as its call allows, which are no more than so many.
-- The goal and the seed of the calls are those that were asked for.
pub record IsCurve (goal : Goal) (seed most : ℕ) (pla : TwoLevel) (text : List ℕ) : Type 0 where
  pub points : List Point
  pub is : text ≡ curve_text command.Realize goal seed (map row_at points)
  pub some : 1 ≤ length points
  pub realized : All (IsPoint pla most) points
  pub rising : AreOnMore points

-- a circuit, or the report of several
abbrev pub table_row : Bool → Goal → ℕ → ℕ → ReadsFirst
table_row true goal seed most = finds table realize_limits (EndsInVain most) (IsCurve goal seed most)
table_row false goal seed most = finds table realize_limits (EndsInVain most) (IsRealization most)

-- ---- of a permutation

-- its lines
abbrev pub in_place_limits : ℕ → Marked → List Limit
in_place_limits most spec = of_lines spec.table.lines most ∷ []

-- Read back, the text is a circuit on the lines of the permutation, with its marks, whose gates compute the permutation
-- on every word.
pub record IsRealizedInPlace (spec : Marked) (text : List ℕ) : Type 0 where
  pub circuit : Cascade
  pub is : text ≡ text_of circuit
  pub read_back : real_of text ≡ Ok circuit
  pub in_place : IsInPlace spec circuit

-- by the form of the input
abbrev pub realize_row : Form → Bool → Goal → ℕ → ℕ → ReadsFirst
realize_row form.Perm curve goal seed most = finds permutation (in_place_limits most) always IsRealizedInPlace
realize_row _ curve goal seed most = table_row curve goal seed most
