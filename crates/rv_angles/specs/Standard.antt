-- What gates do, by the standard: the sum over the words to which a word is led.
use Rattle.std.specs.Prelude.{ℕ, Bool, true, false, ◌&&◌, List, [], ◌∷◌, if◌then◌else◌, slice_set}
use Rattle.rv_gate.specs.Word.{bit_of}
use Rattle.rv_net.specs.Cyclotomic.{Cyclotomic, nought, plus}
use Rattle.rv_angles.specs.Matrix.{entry_times, none, twice}
use Rattle.rv_angles.specs.declared.matrix.Matrix.{Matrix}
use Rattle.rv_angles.specs.declared.gate.Gate.{Gate}
use Rattle.rv_angles.specs.declared.gate.Gate.TheVariants.{One, Sx, Sxdg, Controlled, Cy, Ch, Ccz}

-- times 2: 1 + i, 1 - i; 1 - i, 1 + i
abbrev pub sx_matrix : Matrix
sx_matrix = record {
  e00 = record { first = 0; second = 2 };
  e01 = record { first = 0; second = 6 };
  e10 = record { first = 0; second = 6 };
  e11 = record { first = 0; second = 2 };
}

-- times 2: 1 - i, 1 + i; 1 + i, 1 - i
abbrev pub sxdg_matrix : Matrix
sxdg_matrix = record {
  e00 = record { first = 0; second = 6 };
  e01 = record { first = 0; second = 2 };
  e10 = record { first = 0; second = 2 };
  e11 = record { first = 0; second = 6 };
}

-- 0, -i; i, 0
abbrev pub y_matrix : Matrix
y_matrix = record { e00 = none; e01 = twice 6; e10 = twice 2; e11 = none }

-- 1, 0; 0, -1
abbrev pub z_matrix : Matrix
z_matrix = record { e00 = twice 0; e01 = none; e10 = none; e11 = twice 4 }

-- 1, 1; 1, -1 over the root of two, which is w + w^7
abbrev pub h_matrix : Matrix
h_matrix = record {
  e00 = record { first = 1; second = 7 };
  e01 = record { first = 1; second = 7 };
  e10 = record { first = 1; second = 7 };
  e11 = record { first = 5; second = 3 };
}

-- the matrix on the last qubit, where all before it are 1
abbrev pub matrix_of : Gate → Matrix
matrix_of (One m) = m
matrix_of Sx = sx_matrix
matrix_of Sxdg = sxdg_matrix
matrix_of (Controlled m) = m
matrix_of Cy = y_matrix
matrix_of Ch = h_matrix
matrix_of Ccz = z_matrix

-- on how many qubits it is
abbrev pub qubits_of : Gate → ℕ
qubits_of (One m) = 1
qubits_of Sx = 1
qubits_of Sxdg = 1
qubits_of (Controlled m) = 2
qubits_of Cy = 2
qubits_of Ch = 2
qubits_of Ccz = 3

-- Twice the sum over the words to which the matrix leads a word by the qubit q. What follows leads each to an
-- amplitude, which `after` tells.
abbrev pub matrix_sum : Matrix → ℕ → (List Bool → Cyclotomic) → List Bool → Cyclotomic
matrix_sum m q after x =
    if bit_of x q
    then plus (entry_times m.e01 (after (slice_set x q false))) (entry_times m.e11 (after (slice_set x q true)))
    else plus (entry_times m.e00 (after (slice_set x q false))) (entry_times m.e10 (after (slice_set x q true)))

-- the same of a matrix under controls
abbrev pub controlled_sum : Bool → Matrix → ℕ → (List Bool → Cyclotomic) → List Bool → Cyclotomic
controlled_sum controls m q after x = if controls then matrix_sum m q after x else plus (after x) (after x)

-- the same of a gate
abbrev pub gate_sum : Gate → List ℕ → (List Bool → Cyclotomic) → List Bool → Cyclotomic
gate_sum g (q ∷ []) after x = matrix_sum (matrix_of g) q after x
gate_sum g (a ∷ q ∷ []) after x = controlled_sum (bit_of x a) (matrix_of g) q after x
gate_sum g (a ∷ b ∷ q ∷ []) after x = controlled_sum (bit_of x a && bit_of x b) (matrix_of g) q after x
gate_sum g _ after x = nought
