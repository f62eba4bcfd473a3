-- The labels on one side of a circuit.
use Rattle.std.specs.Prelude.{ℕ, Bool, List, if◌then◌else◌}
use Rattle.rv_gate.specs.Circuit.{Cascade}

-- of the outputs, or of the inputs
abbrev pub labels_of : Cascade → Bool → List (List ℕ)
labels_of c ends = if ends then c.output_labels else c.input_labels
