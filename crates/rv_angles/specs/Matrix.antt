-- Matrices of gates on one qubit, by OpenQASM 3's definitions of its built-in U and of stdgates.inc. They are times 2,
-- so that by Euler's formula each entry is a sum of two powers of w = e^(i pi/4).
use Rattle.std.specs.Prelude.{ℕ, ◌+◌, ◌*◌}
use Rattle.rv_net.specs.Cyclotomic.{Cyclotomic, plus, times_w_power}
use Rattle.rv_angles.specs.declared.matrix.Entry.{Entry}
use Rattle.rv_angles.specs.declared.matrix.Matrix.{Matrix}

-- an entry times a number
abbrev pub entry_times : Entry → Cyclotomic → Cyclotomic
entry_times e u = plus (times_w_power e.first u) (times_w_power e.second u)

-- 2 w^p
abbrev pub twice : ℕ → Entry
twice p = record { first = p; second = p }

-- 1 + w^4 = 0
abbrev pub none : Entry
none = record { first = 0; second = 4 }

-- 2 cos(half pi/4) w^p = (w^half + w^-half) w^p
abbrev pub cosine : ℕ → ℕ → Entry
cosine half p = record { first = p + half; second = p + 7 * half }

-- 2 sin(half pi/4) w^p = -i (w^half - w^-half) w^p
abbrev pub sine : ℕ → ℕ → Entry
sine half p = record { first = p + half + 6; second = p + 7 * half + 2 }

-- U(theta, phi, lambda) with theta = half pi/2, phi = p pi/4, lambda = l pi/4:
-- cos(theta/2), -e^(i lambda) sin(theta/2); e^(i phi) sin(theta/2), e^(i (phi + lambda)) cos(theta/2)
abbrev pub u_matrix : ℕ → ℕ → ℕ → Matrix
u_matrix half p l =
    record { e00 = cosine half 0; e01 = sine half (l + 4); e10 = sine half p; e11 = cosine half (p + l) }

-- rx(half pi/2) = U(half pi/2, -pi/2, pi/2)
abbrev pub rx_matrix : ℕ → Matrix
rx_matrix half = u_matrix half 6 2

-- ry(half pi/2) = U(half pi/2, 0, 0)
abbrev pub ry_matrix : ℕ → Matrix
ry_matrix half = u_matrix half 0 0

-- rz(half pi/2): e^(-i half pi/4), 0; 0, e^(i half pi/4)
abbrev pub rz_matrix : ℕ → Matrix
rz_matrix half = record { e00 = twice (7 * half); e01 = none; e10 = none; e11 = twice half }
