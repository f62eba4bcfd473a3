-- The lines of the circuit of a logic network: those of its inputs, those of its outputs, and work lines.
use Rattle.std.specs.Prelude.{ℕ, ◌+◌, true, false, List, [], ◌∷◌, ◌++◌, length, map, replicate, slice_set, if◌then◌else◌}
use Rattle.std.specs.List.{list_all}
use Rattle.rv_gate.specs.Names.{numbered}
use Rattle.rv_gate.specs.Circuit.{Cascade, fresh, is_label_byte}
use Rattle.rv_gate.specs.declared.circuit.Mark.TheVariants.{Input, Zero}
use Rattle.rv_blif.specs.Logic.{Logic}

-- lines x0, x1, .. for the inputs, y0, y1, .. for the outputs, w0, w1, .. to work on
abbrev pub line_names : ℕ → ℕ → ℕ → List (List ℕ)
line_names inputs outputs work = (numbered 120 inputs ++ numbered 121 outputs) ++ numbered 119 work

-- the circuit without gates: the lines of the inputs are garbage at the end, those of the outputs hold 0, and the work
-- lines do and are garbage
abbrev pub lines_of : ℕ → ℕ → ℕ → Cascade
lines_of inputs outputs work =
    record (fresh (line_names inputs outputs work)) {
      constants = replicate inputs Input ++ replicate (outputs + work) Zero;
      garbage = replicate inputs true ++ (replicate outputs false ++ replicate work true);
    }

-- a line is labelled by a name; if that has a byte that no label has, it keeps the label that it has
abbrev pub with_label : List (List ℕ) → ℕ → List ℕ → List (List ℕ)
with_label labels line name = if list_all is_label_byte name then slice_set labels line name else labels

-- lines from one on are labelled by names
abbrev pub with_labels : List (List ℕ) → ℕ → List (List ℕ) → List (List ℕ)
with_labels labels line [] = labels
with_labels labels line (name ∷ rest) = with_labels (with_label labels line name) (line + 1) rest

-- the lines of the inputs are labelled by their names at the beginning, and those of the outputs by theirs at the end;
-- other labels are the lines' names
abbrev pub logic_lines : Logic → ℕ → Cascade
logic_lines logic work =
    let c = lines_of (length logic.inputs) (length logic.outputs) work in
    record c {
      input_labels = with_labels c.input_labels 0 logic.inputs;
      output_labels = with_labels c.output_labels (length logic.inputs) (map (λ output. output.name) logic.outputs);
    }
