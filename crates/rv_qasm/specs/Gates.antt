-- The gates of OpenQASM 2.0 that are read, and the operations that they are.
use Rattle.std.specs.Prelude.{ℕ, Bool, ◌||◌, List, [], ◌∷◌, codes, bytes_eq, if◌then◌else◌, Option, Some, None}
use Rattle.std.specs.List.{list_any}
use Rattle.rv_net.specs.declared.op.Op.{Op}
use Rattle.rv_net.specs.declared.op.Op.TheVariants.{X, Y, Z, H, S, Sdg, T, Tdg, Cx, Cz, Ccx, Swap, Cswap}

abbrev pub is_one_of : List (List ℕ) → List ℕ → Bool
is_one_of words word = list_any (λ w. bytes_eq word w) words

abbrev pub is_on_one : List ℕ → Bool
is_on_one name =
    is_one_of
    (codes "x" ∷ codes "y" ∷ codes "z" ∷ codes "h" ∷ codes "s" ∷ codes "sdg" ∷ codes "t" ∷ codes "tdg" ∷ []) name

abbrev pub is_on_two : List ℕ → Bool
is_on_two name = is_one_of (codes "cx" ∷ codes "CX" ∷ codes "cz" ∷ codes "swap" ∷ []) name

abbrev pub is_on_three : List ℕ → Bool
is_on_three name = is_one_of (codes "ccx" ∷ codes "cswap" ∷ []) name

-- how many operands a gate has
abbrev pub gate_size : List ℕ → Option ℕ
gate_size name =
    if is_on_one name then Some 1
    else (if is_on_two name then Some 2
    else (if is_on_three name then Some 3
    else None))

-- a gate on qubits, by its name
abbrev pub op_on : List ℕ → List ℕ → List Op
op_on name (a ∷ []) =
    if bytes_eq name (codes "x") then X a ∷ []
    else (if bytes_eq name (codes "y") then Y a ∷ []
    else (if bytes_eq name (codes "z") then Z a ∷ []
    else (if bytes_eq name (codes "h") then H a ∷ []
    else (if bytes_eq name (codes "s") then S a ∷ []
    else (if bytes_eq name (codes "sdg") then Sdg a ∷ []
    else (if bytes_eq name (codes "t") then T a ∷ []
    else Tdg a ∷ []))))))
op_on name (a ∷ b ∷ []) =
    if bytes_eq name (codes "cz") then Cz a b ∷ []
    else (if bytes_eq name (codes "swap") then Swap a b ∷ []
    else Cx a b ∷ [])
op_on name (a ∷ b ∷ c ∷ []) = if bytes_eq name (codes "ccx") then Ccx a b c ∷ [] else Cswap a b c ∷ []
op_on name _ = []

abbrev pub is_unsupported_gate : List ℕ → Bool
is_unsupported_gate name =
    is_one_of (codes "U" ∷ codes "u1" ∷ codes "u2" ∷ codes "u3" ∷ codes "rx" ∷ codes "ry" ∷ codes "rz"
    ∷ codes "crz" ∷ codes "cu1" ∷ codes "cu3" ∷ codes "ch" ∷ codes "cy" ∷ []) name

-- statements of OpenQASM 2.0 and gates of qelib1.inc that are not supported
abbrev pub begins_unsupported : List ℕ → Bool
begins_unsupported name =
    is_one_of (codes "gate" ∷ codes "opaque" ∷ codes "if" ∷ codes "reset" ∷ []) name || is_unsupported_gate name
