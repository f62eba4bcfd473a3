-- Marks of lines: constants put in among the bits of an input, and garbage left out of an output.
use Rattle.std.specs.Prelude.{ℕ, Bool, true, false, not, List, [], ◌∷◌}
use Rattle.std.specs.List.{count_by}
use Rattle.rv_gate.specs.declared.circuit.Mark.{Mark}
use Rattle.rv_gate.specs.declared.circuit.Mark.TheVariants.{Input, Zero, One}

abbrev pub takes_input : Mark → Bool
takes_input Input = true
takes_input Zero = false
takes_input One = false

-- how many lines take a bit of the input
abbrev pub input_count : List Mark → ℕ
input_count marks = count_by takes_input marks

-- how many lines aren't garbage
abbrev pub output_count : List Bool → ℕ
output_count garbage = count_by not garbage

-- the bits, in order, on the lines that take one, and the constants on the others; a bit that lacks is 0,
-- and one too many is dropped
unfoldable pub with_constants : List Mark → List Bool → List Bool
with_constants [] bits = []
with_constants (Zero ∷ marks) bits = false ∷ with_constants marks bits
with_constants (One ∷ marks) bits = true ∷ with_constants marks bits
with_constants (Input ∷ marks) [] = false ∷ with_constants marks []
with_constants (Input ∷ marks) (bit ∷ bits) = bit ∷ with_constants marks bits

-- the bits of the lines that aren't garbage, in order
unfoldable pub without_garbage : List Bool → List Bool → List Bool
without_garbage [] word = []
without_garbage (is_garbage ∷ garbage) [] = []
without_garbage (true ∷ garbage) (bit ∷ word) = without_garbage garbage word
without_garbage (false ∷ garbage) (bit ∷ word) = bit ∷ without_garbage garbage word
