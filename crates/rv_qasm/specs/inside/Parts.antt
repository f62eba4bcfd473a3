-- Operands that are read one after another.
use Rattle.std.specs.Prelude.{ℕ, ◌+◌, nat_lt, not, List, [], ◌∷◌, drop, codes, if◌then◌else◌, Option, Some, None, Result}
use Rattle.std.specs.List.{slice_split}
use Rattle.rv_reader.specs.Rules.{◌>>=◌, broken, found_or}
use Rattle.rv_qasm.specs.Registers.{QubitRange, RegisterOperand, all_qubits_of, is_token}
use Rattle.rv_qasm.specs.Rules.{SoFar, each_read, gate_operands, looked_at, measured_read, sizes_agree}
use Rattle.rv_qasm.specs.declared.code.TheConstants as code

-- the parts of tokens from a place on, with commas between them, or none after the last one
abbrev pub parts_at : Option ℕ → List (List ℕ) → List (List (List ℕ))
parts_at None tokens = []
parts_at (Some at) tokens = slice_split (is_token (codes ",")) (drop at tokens)

-- the place after a comma that is before the end
abbrev pub after_comma : ℕ → ℕ → Option ℕ
after_comma end comma = if nat_lt comma end then Some (comma + 1) else None

-- one operand more, after what others gave that were looked at
abbrev pub looked_on : SoFar → Result SoFar ℕ → RegisterOperand → Result SoFar ℕ
looked_on so_far seen operand = seen >>= λ _. looked_at so_far (operand ∷ [])

-- ---- the steps of a statement

abbrev pub gate_on_ranges : List ℕ → SoFar → List QubitRange → Result SoFar ℕ
gate_on_ranges name so_far ranges =
    broken (not (sizes_agree ranges)) code.REGISTER_SIZES_DIFFER (each_read name so_far ranges)

abbrev pub gate_on_operands : List ℕ → SoFar → List RegisterOperand → Result SoFar ℕ
gate_on_operands name so_far operands = all_qubits_of so_far.quantum operands >>= gate_on_ranges name so_far

abbrev pub gate_of_size : ℕ → List ℕ → SoFar → List (List ℕ) → Result SoFar ℕ
gate_of_size size name so_far tokens = gate_operands size tokens >>= gate_on_operands name so_far

-- `measure`, by what stands before the arrow and after it
abbrev pub both_read : SoFar → Option RegisterOperand → Option RegisterOperand → Result SoFar ℕ
both_read so_far from to =
    found_or code.WRONG_SYNTAX from
    >>= λ measured. found_or code.WRONG_SYNTAX to >>= λ written. measured_read so_far measured written
