-- Gates by their names in qelib1.inc and stdgates.inc, and by those that tools use. Angles are multiples of pi/4.
use Rattle.std.specs.Prelude.{ℕ, ◌/◌, ◌%◌, ◌==◌, ◌||◌, not, Bool, List, [], ◌∷◌, codes, bytes_eq, if◌then◌else◌, Option, Some, None}
use Rattle.std.specs.List.{list_any}
use Rattle.rv_angles.specs.Matrix.{u_matrix, rx_matrix, ry_matrix, rz_matrix}
use Rattle.rv_angles.specs.declared.gate.Gate.{Gate}
use Rattle.rv_angles.specs.declared.gate.Gate.TheVariants.{One, Sx, Sxdg, Controlled, Cy, Ch, Ccz}

abbrev pub is_one_of : List (List ℕ) → List ℕ → Bool
is_one_of words word = list_any (λ w. bytes_eq word w) words

abbrev pub is_without_angle : List ℕ → Bool
is_without_angle name = is_one_of (codes "sx" ∷ codes "sxdg" ∷ codes "cy" ∷ codes "ch" ∷ codes "ccz" ∷ []) name

abbrev pub is_with_one : List ℕ → Bool
is_with_one name =
    is_one_of
    (codes "u1" ∷ codes "p" ∷ codes "rx" ∷ codes "ry" ∷ codes "rz" ∷ codes "cu1" ∷ codes "cp" ∷ codes "crz" ∷ []) name

abbrev pub is_with_three : List ℕ → Bool
is_with_three name = is_one_of (codes "u3" ∷ codes "u" ∷ codes "U" ∷ []) name

-- how many angles a gate has
abbrev pub angle_count : List ℕ → Option ℕ
angle_count name =
    if is_without_angle name then Some 0
    else (if is_with_one name then Some 1
    else (if bytes_eq name (codes "u2") then Some 2
    else (if is_with_three name then Some 3
    else None)))

-- a gate whose angle is half pi/2
abbrev pub turn_gate : List ℕ → ℕ → Option Gate
turn_gate name half =
    if bytes_eq name (codes "rx") then Some (One (rx_matrix half))
    else (if bytes_eq name (codes "ry") then Some (One (ry_matrix half))
    else (if bytes_eq name (codes "rz") then Some (One (rz_matrix half))
    else (if bytes_eq name (codes "crz") then Some (Controlled (rz_matrix half))
    else None)))

-- u1(lambda) = p(lambda) = U(0, 0, lambda), u2(phi, lambda) = U(pi/2, phi, lambda), u3 = U
abbrev pub gate_of : List ℕ → List ℕ → Option Gate
gate_of name [] =
    if bytes_eq name (codes "sx") then Some Sx
    else (if bytes_eq name (codes "sxdg") then Some Sxdg
    else (if bytes_eq name (codes "cy") then Some Cy
    else (if bytes_eq name (codes "ch") then Some Ch
    else (if bytes_eq name (codes "ccz") then Some Ccz
    else None))))
gate_of name (angle ∷ []) =
    if is_one_of (codes "u1" ∷ codes "p" ∷ []) name then Some (One (u_matrix 0 0 (angle % 8)))
    else (if is_one_of (codes "cu1" ∷ codes "cp" ∷ []) name then Some (Controlled (u_matrix 0 0 (angle % 8)))
    else (if not (angle % 2 == 0) then None
    else turn_gate name (angle % 16 / 2)))
gate_of name (phi ∷ lambda ∷ []) =
    if not (bytes_eq name (codes "u2")) then None else Some (One (u_matrix 1 (phi % 8) (lambda % 8)))
gate_of name (theta ∷ phi ∷ lambda ∷ []) =
    if not (is_with_three name) || not (theta % 2 == 0) then None
    else Some (One (u_matrix (theta % 16 / 2) (phi % 8) (lambda % 8)))
gate_of name _ = None
