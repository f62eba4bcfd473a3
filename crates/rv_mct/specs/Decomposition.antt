-- What a decomposition is to its circuit.
use Rattle.std.specs.Prelude.{◌≡◌, ℕ, Bool, true, List, ◌++◌, length, replicate, All}
use Rattle.rv_gate.specs.Circuit.{Cascade}
use Rattle.rv_gate.specs.Gate.{run}
use Rattle.rv_gate.specs.Marks.{with_constants, without_garbage}
use Rattle.rv_gate.specs.declared.circuit.Mark.TheVariants.{Zero}
use Rattle.rv_mct.specs.Extends.{Extends, IsPlain}
use Rattle.rv_mct.specs.Widened.{gate_count, helper_count}
use Rattle.rv_mct.specs.declared.aux.Aux.{Aux}

-- the lines keep their names, labels and marks, and so many come after them:
-- these begin with the constant 0 and end as garbage
pub record AddsHelpers (count : ℕ) (old new : Cascade) : Type 0 where
  pub helpers : List (List ℕ)
  pub counted : length helpers ≡ count
  pub names : new.names ≡ old.names ++ helpers
  pub input_labels : new.input_labels ≡ old.input_labels ++ helpers
  pub output_labels : new.output_labels ≡ old.output_labels ++ helpers
  pub constants : new.constants ≡ old.constants ++ replicate count Zero
  pub garbage : new.garbage ≡ old.garbage ++ replicate count true

-- what a circuit makes of the bits of an input: its constants are put in, and its garbage is left out
abbrev pub output_of : Cascade → List Bool → List Bool
output_of c bits = without_garbage c.garbage (run c.gates (with_constants c.constants bits))

-- It does what the circuit does and gives each helper line back, by NOT, CNOT and Toffoli gates alone,
-- as many as the costs say.
pub record Decomposes (aux : Aux) (c made : Cascade) : Type 0 where
  pub extends : Extends aux (length c.names) (helper_count aux c) made.gates c.gates
  pub plain : All IsPlain made.gates
  pub counted : length made.gates ≡ gate_count aux c
  pub same : (bits : List Bool) → output_of made bits ≡ output_of c bits
  pub helpers : AddsHelpers (helper_count aux c) c made
