-- How many CNOT gates a network takes.
use Rattle.std.specs.Prelude.{ℕ, List}
use Rattle.std.specs.List.{sum_by}
use Rattle.rv_net.specs.declared.op.Op.{Op}
use Rattle.rv_net.specs.declared.op.Op.TheVariants.{X, Y, Z, H, S, Sdg, T, Tdg, Cx, Cz, Ccx, Swap, Cswap}

-- A controlled Z is a CNOT between two H, an exchange is three CNOT. Toffoli and Fredkin gates are counted by themselves.
abbrev pub cnots_of : Op → ℕ
cnots_of (Cx a b) = 1
cnots_of (Cz a b) = 1
cnots_of (Swap a b) = 3
cnots_of (Ccx a b c) = 0
cnots_of (Cswap c a b) = 0
cnots_of (X q) = 0
cnots_of (Y q) = 0
cnots_of (Z q) = 0
cnots_of (H q) = 0
cnots_of (S q) = 0
cnots_of (Sdg q) = 0
cnots_of (T q) = 0
cnots_of (Tdg q) = 0

abbrev pub cnot_count : List Op → ℕ
cnot_count ops = sum_by cnots_of ops
