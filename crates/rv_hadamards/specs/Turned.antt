-- What an operation behind an H is where it stands before it.
use Rattle.std.specs.Prelude.{ℕ, Bool, ◌==◌, ◌||◌, if◌then◌else◌, Option, Some, None}
use Rattle.rv_net.specs.declared.op.Op.{Op}
use Rattle.rv_net.specs.declared.op.Op.TheVariants.{X, Y, Z, H, S, Sdg, T, Tdg, Cx, Cz, Ccx, Swap, Cswap}

-- the operation has to do with the line
abbrev pub is_on : ℕ → Op → Bool
is_on line (X q) = line == q
is_on line (Y q) = line == q
is_on line (Z q) = line == q
is_on line (H q) = line == q
is_on line (S q) = line == q
is_on line (Sdg q) = line == q
is_on line (T q) = line == q
is_on line (Tdg q) = line == q
is_on line (Cx a b) = line == a || line == b
is_on line (Cz a b) = line == a || line == b
is_on line (Swap a b) = line == a || line == b
is_on line (Ccx a b c) = line == a || line == b || line == c
is_on line (Cswap c a b) = line == a || line == b || line == c

-- an H on the line takes X for Z, and a flip for a controlled Z
abbrev pub exchanged : ℕ → Op → Option Op
exchanged line (X q) = if line == q then Some (Z q) else None
exchanged line (Z q) = if line == q then Some (X q) else None
exchanged line (Cx a b) = if line == b then Some (Cz a b) else None
exchanged line (Cz a b) = if line == b then Some (Cx a b) else (if line == a then Some (Cx b a) else None)
exchanged line (Y q) = None
exchanged line (H q) = None
exchanged line (S q) = None
exchanged line (Sdg q) = None
exchanged line (T q) = None
exchanged line (Tdg q) = None
exchanged line (Ccx a b c) = None
exchanged line (Swap a b) = None
exchanged line (Cswap c a b) = None

-- itself on other lines
abbrev pub turned : ℕ → Op → Option Op
turned line op = if is_on line op then exchanged line op else Some op
