-- How the marks of a circuit's lines are taken over, line by line.
use Rattle.std.specs.Prelude.{ℕ, false, [], slice_set, slice_index_or}
use Rattle.rv_gate.specs.Circuit.{Cascade}
use Rattle.rv_gate.specs.declared.circuit.Mark.TheVariants.{Input}

-- a circuit of which one line has the labels and the marks that it has in another
abbrev pub line_marked : Cascade → ℕ → Cascade → Cascade
line_marked c line wide = record wide {
  input_labels = slice_set wide.input_labels line (slice_index_or c.input_labels line []);
  output_labels = slice_set wide.output_labels line (slice_index_or c.output_labels line []);
  constants = slice_set wide.constants line (slice_index_or c.constants line Input);
  garbage = slice_set wide.garbage line (slice_index_or c.garbage line false);
}
