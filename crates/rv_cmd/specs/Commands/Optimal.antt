-- `optimal`: a circuit than which none has fewer gates, for a permutation.
use Rattle.std.specs.Prelude.{◌≡◌, ℕ, ◌+◌, List, [], ◌∷◌, Ok}
use Rattle.rv_gate.specs.Circuit.{Cascade}
use Rattle.rv_perm.specs.Marked.{Marked}
use Rattle.rv_optimal.specs.Circuit.{IsOptimal, most_gates}
use Rattle.rv_optimal.specs.Shortest.{TakesAtLeast}
use Rattle.rv_optimal.specs.declared.circuit.OptimalFault.{OptimalFault}
use Rattle.rv_optimal.specs.declared.circuit.OptimalFault.TheVariants as fault
use Rattle.rv_optimal.specs.declared.library.Library.{Library}
use Rattle.rv_optimal.specs.declared.library.TheConstants.{MOST_OPTIMAL_LINES}
use Rattle.rv_real.specs.Reading.{real_of}
use Rattle.rv_real.specs.Text.{text_of}
use Rattle.rv_faults.specs.declared.fault.InputFault.{InputFault}
use Rattle.rv_faults.specs.declared.fault.InputFault.TheVariants.{MoreGates, TooManyLines}
use Rattle.rv_faults.specs.declared.fault.Refusal.{Refusal}
use Rattle.rv_faults.specs.declared.fault.Refusal.TheVariants.{OutOfMemory, Refused}
use Rattle.rv_inputs.specs.Formats.{permutation}
use Rattle.rv_cmd.specs.Limits.{Limit, of_lines}
use Rattle.rv_cmd.specs.Row.{ReadsFirst, finds}

-- permutations of few lines
abbrev pub optimal_limits : Marked → List Limit
optimal_limits spec = of_lines spec.table.lines MOST_OPTIMAL_LINES ∷ []

-- Why there may be no circuit: that every circuit of gates of the library that computes the permutation has more gates
-- than are looked for, which is a theorem of the permutation.
abbrev pub EndsFor : Library → Marked → InputFault → Type 0
EndsFor library spec (MoreGates most) =
    (most ≡ most_gates library) × TakesAtLeast library spec.table.lines spec.table.images (most + 1)
EndsFor library spec _ = ⊥

-- what the search tells, as a refusal
abbrev pub in_vain : OptimalFault → Refusal
in_vain (fault.TooManyLines lines) = Refused 0 (TooManyLines lines MOST_OPTIMAL_LINES)
in_vain (fault.MoreGates most) = Refused 0 (MoreGates most)
in_vain fault.Mem = OutOfMemory

abbrev pub EndsInVain : Library → Marked → Refusal → Type 0
EndsInVain library spec (Refused input why) = (input ≡ 0) × EndsFor library spec why
EndsInVain library spec OutOfMemory = ⊥

-- Read back, the text is a circuit on the lines of the permutation, with its marks, whose gates are of the library and
-- compute the permutation on every word; and no circuit of such gates that does has fewer.
pub record IsOptimalSynthesis (library : Library) (spec : Marked) (text : List ℕ) : Type 0 where
  pub circuit : Cascade
  pub is : text ≡ text_of circuit
  pub read_back : real_of text ≡ Ok circuit
  pub optimal : IsOptimal library spec circuit

abbrev pub optimal_row : Library → ReadsFirst
optimal_row library = finds permutation optimal_limits (EndsInVain library) (IsOptimalSynthesis library)
