-- What contracts see of the fields of a circuit.
use Rattle.std.specs.Prelude.{ℕ, List, map}
use Rattle.std.specs.Global.{Vec}
use Rattle.rv_gate.specs.declared.circuit.Circuit.TheInside.{Inside}
use Rattle.rv_gate.specs.Circuit.{Cascade}

-- the bytes of labels
abbrev pub labels_in : Vec (Vec ℕ) → List (List ℕ)
labels_in labels = map (λ label. label.items) labels.items

abbrev pub circuit_view : Inside → Cascade
circuit_view c =
    record {
      names = c.names;
      input_labels = labels_in c.inputs.labels;
      output_labels = labels_in c.outputs.labels;
      constants = c.inputs.constants.items;
      garbage = c.outputs.garbage.items;
      gates = c.gates.items;
    }
