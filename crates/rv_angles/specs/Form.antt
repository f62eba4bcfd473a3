-- The exact form of a gate, if it has one: powers of w on bits, with at most one X or H between them.
use Rattle.std.specs.Prelude.{ℕ, ◌+◌, ◌*◌, ◌/◌, ◌%◌, ◌==◌, ◌&&◌, ◌||◌, Bool, not, if◌then◌else◌, Option, Some, None, option_map}
use Rattle.rv_angles.specs.declared.matrix.Entry.{Entry}
use Rattle.rv_angles.specs.declared.matrix.Matrix.{Matrix}
use Rattle.rv_angles.specs.declared.gate.Gate.{Gate}
use Rattle.rv_angles.specs.declared.gate.Gate.TheVariants as gate
use Rattle.rv_angles.specs.declared.form.Middle.TheVariants as middle
use Rattle.rv_angles.specs.declared.form.Turn.{Turn}
use Rattle.rv_angles.specs.declared.form.Phased.{Phased}
use Rattle.rv_angles.specs.declared.form.Form.{Form}
use Rattle.rv_angles.specs.declared.form.Form.TheVariants as form

-- ---- what w^first + w^second is

-- twice a power of w
abbrev pub is_twice : Entry → Bool
is_twice e = e.second % 8 == e.first % 8

-- nothing
abbrev pub is_none : Entry → Bool
is_none e = e.second % 8 == (e.first % 8 + 4) % 8

-- the root of two, which is w + w^7, times a power of w
abbrev pub is_root : Entry → Bool
is_root e = e.second % 8 == (e.first % 8 + 2) % 8 || e.second % 8 == (e.first % 8 + 6) % 8

abbrev pub root_power : Entry → ℕ
root_power e = if e.second % 8 == (e.first % 8 + 2) % 8 then (e.first % 8 + 1) % 8 else (e.first % 8 + 7) % 8

-- ---- matrices

abbrev pub is_diagonal : Matrix → Bool
is_diagonal m = is_twice m.e00 && is_none m.e01 && is_none m.e10 && is_twice m.e11

abbrev pub is_exchange : Matrix → Bool
is_exchange m = is_none m.e00 && is_twice m.e01 && is_twice m.e10 && is_none m.e11

abbrev pub is_even_split : Matrix → Bool
is_even_split m = is_root m.e00 && is_root m.e01 && is_root m.e10 && is_root m.e11

-- the power after an H
abbrev pub after_h : ℕ → ℕ → ℕ
after_h to_zero to_one = (to_one % 8 + 7 * (to_zero % 8)) % 8

-- an H between powers, if the last entry is what it then has to be
abbrev pub split : ℕ → ℕ → ℕ → ℕ → Option Turn
split to_zero one to_one last =
    if not ((one % 8 + after_h to_zero to_one + 4) % 8 == last % 8) then None
    else Some (record { zero = to_zero; one = one; middle = middle.H; after = after_h to_zero to_one })

abbrev pub turn_of : Matrix → Option Turn
turn_of m =
    if is_diagonal m then Some (record { zero = m.e00.first; one = m.e11.first; middle = middle.Nothing; after = 0 })
    else (if is_exchange m then Some (record { zero = m.e10.first; one = m.e01.first; middle = middle.X; after = 0 })
    else (if is_even_split m
    then split (root_power m.e00) (root_power m.e01) (root_power m.e10) (root_power m.e11)
    else None))

-- by which power the entries of a diagonal matrix differ
abbrev pub apart_in : Matrix → ℕ
apart_in m = (m.e11.first % 8 + 7 * (m.e00.first % 8)) % 8

-- a diagonal matrix under a control: for bits c and t, 2 c t = c + t - (c xor t)
abbrev pub phased_of : Matrix → Option Phased
phased_of m =
    if not (is_diagonal m) || not (apart_in m % 2 == 0) then None
    else Some (record { control = m.e00.first % 8 + apart_in m / 2; target = apart_in m / 2 })

abbrev pub form_of : Gate → Option Form
form_of (gate.One m) = option_map form.Turned (turn_of m)
form_of (gate.Controlled m) = option_map form.Phased (phased_of m)
form_of gate.Sx = Some form.Sx
form_of gate.Sxdg = Some form.Sxdg
form_of gate.Cy = Some form.Cy
form_of gate.Ch = Some form.Ch
form_of gate.Ccz = Some form.Ccz

-- on how many qubits a form is
abbrev pub size_of : Form → ℕ
size_of (form.Turned turn) = 1
size_of form.Sx = 1
size_of form.Sxdg = 1
size_of (form.Phased phased) = 2
size_of form.Cy = 2
size_of form.Ch = 2
size_of form.Ccz = 3
