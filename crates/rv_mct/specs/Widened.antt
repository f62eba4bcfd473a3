-- The lines that a decomposition adds, and the circuit that it gives.
use Rattle.std.specs.Prelude.{ℕ, ◌+◌, Bool, true, not, List, [], ◌++◌, length, replicate, take}
use Rattle.std.specs.List.{filter, list_any}
use Rattle.std.specs.Str.{bytes_eq}
use Rattle.rv_gate.specs.Circuit.{Cascade}
use Rattle.rv_gate.specs.Names.{numbered}
use Rattle.rv_gate.specs.declared.circuit.Mark.TheVariants.{Zero}
use Rattle.rv_gate.specs.declared.word.TheConstants.{MOST_LINES}
use Rattle.rv_mct.specs.Blocks.{added, cost_of, decomposition_of}
use Rattle.rv_mct.specs.declared.aux.Aux.{Aux}

abbrev pub is_taken : List (List ℕ) → List ℕ → Bool
is_taken names name = list_any (bytes_eq name) names

-- the names z0, z1, and so on, without those that are there
abbrev pub spare_names : List (List ℕ) → List (List ℕ)
spare_names names = filter (λ name. not (is_taken names name)) (numbered 122 MOST_LINES)

-- the names of so many added lines
abbrev pub added_names : List (List ℕ) → ℕ → List (List ℕ)
added_names names extra = take extra (spare_names names)

-- The lines of a circuit, and so many more after them: their labels are their names, they begin with the constant 0,
-- and their ends are garbage. There are no gates.
abbrev pub widened : Cascade → ℕ → Cascade
widened c extra = record {
  names = c.names ++ added_names c.names extra;
  input_labels = c.input_labels ++ added_names c.names extra;
  output_labels = c.output_labels ++ added_names c.names extra;
  constants = c.constants ++ replicate extra Zero;
  garbage = c.garbage ++ replicate extra true;
  gates = [];
}

-- a circuit decomposed, with so many added lines
abbrev pub decomposed_over : Aux → ℕ → Cascade → Cascade
decomposed_over aux extra c = record (widened c extra) { gates = decomposition_of aux (length c.names) extra c.gates }

-- how many helper lines are added, how many lines there are then, and how many gates
abbrev pub helper_count : Aux → Cascade → ℕ
helper_count aux c = added aux (length c.names) c.gates

abbrev pub lines_with_helpers : Aux → Cascade → ℕ
lines_with_helpers aux c = length c.names + helper_count aux c

abbrev pub gate_count : Aux → Cascade → ℕ
gate_count aux c = cost_of aux (lines_with_helpers aux c) c.gates

-- a circuit decomposed, with as many added lines as it wants
abbrev pub decomposed : Aux → Cascade → Cascade
decomposed aux c = decomposed_over aux (helper_count aux c) c
