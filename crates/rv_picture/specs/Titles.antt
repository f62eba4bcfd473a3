-- What the title of a group names: a gate of a circuit, or an operation of a network, as its format writes it.
use Rattle.std.specs.Prelude.{ℕ, List, [], ◌∷◌, ◌++◌, codes, map}
use Rattle.rv_text.specs.Spelled.{words_line}
use Rattle.rv_gate.specs.declared.gate.Shape.{Shape}
use Rattle.rv_net.specs.declared.op.Op.{Op}
use Rattle.rv_net.specs.declared.op.Op.TheVariants.{X, Y, Z, H, S, Sdg, T, Tdg, Cx, Cz, Ccx, Swap, Cswap}
use Rattle.rv_real.specs.Text.{gate_words, name_at}
use Rattle.rv_picture.specs.Labels.{written_label}
use Rattle.rv_picture.specs.Markup.{svg_escapes}

-- names as labels are written
abbrev pub written_names : List (List ℕ) → List (List ℕ)
written_names names = map (λ name. written_label svg_escapes name) names

-- a gate in the `.real` format, as `t3 -a b c`, on lines of these names
abbrev pub gate_title : List (List ℕ) → Shape → List ℕ
gate_title names gate = words_line (gate_words (written_names names) gate)

-- names with commas between them
abbrev pub listed : List (List ℕ) → List ℕ
listed [] = []
listed (a ∷ []) = a
listed (a ∷ b ∷ more) = a ++ (44 ∷ listed (b ∷ more))

-- a gate on lines
abbrev pub gate_on : List (List ℕ) → List ℕ → List ℕ → List ℕ
gate_on names gate lines = gate ++ (32 ∷ listed (map (name_at names) lines))

-- an operation in OpenQASM, on qubits of these names, as `cx q0,q1`; controls come first
abbrev pub op_on : List (List ℕ) → Op → List ℕ
op_on names (X q) = gate_on names (codes "x") (q ∷ [])
op_on names (Y q) = gate_on names (codes "y") (q ∷ [])
op_on names (Z q) = gate_on names (codes "z") (q ∷ [])
op_on names (H q) = gate_on names (codes "h") (q ∷ [])
op_on names (S q) = gate_on names (codes "s") (q ∷ [])
op_on names (Sdg q) = gate_on names (codes "sdg") (q ∷ [])
op_on names (T q) = gate_on names (codes "t") (q ∷ [])
op_on names (Tdg q) = gate_on names (codes "tdg") (q ∷ [])
op_on names (Cx a b) = gate_on names (codes "cx") (a ∷ b ∷ [])
op_on names (Cz a b) = gate_on names (codes "cz") (a ∷ b ∷ [])
op_on names (Ccx a b c) = gate_on names (codes "ccx") (a ∷ b ∷ c ∷ [])
op_on names (Swap a b) = gate_on names (codes "swap") (a ∷ b ∷ [])
op_on names (Cswap c a b) = gate_on names (codes "cswap") (c ∷ a ∷ b ∷ [])

abbrev pub op_title : List (List ℕ) → Op → List ℕ
op_title names op = op_on (written_names names) op
