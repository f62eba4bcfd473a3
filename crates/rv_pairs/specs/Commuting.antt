-- When two operations commute: neither writes a line that the other reads.
use Rattle.std.specs.Prelude.{ℕ, ◌^◌, Bool, ◌&&◌, ◌==◌, bit_and, bit_or}
use Rattle.rv_net.specs.declared.op.Op.{Op}
use Rattle.rv_net.specs.declared.op.Op.TheVariants.{X, Y, Z, H, S, Sdg, T, Tdg, Cx, Cz, Ccx, Swap, Cswap}

-- the lines whose bits decide what the operation does; the target of a flip is not among them
abbrev pub reads : Op → ℕ
reads (X q) = 0
reads (Y q) = 2 ^ q
reads (Z q) = 2 ^ q
reads (H q) = 2 ^ q
reads (S q) = 2 ^ q
reads (Sdg q) = 2 ^ q
reads (T q) = 2 ^ q
reads (Tdg q) = 2 ^ q
reads (Cx a b) = 2 ^ a
reads (Cz a b) = bit_or (2 ^ a) (2 ^ b)
reads (Ccx a b c) = bit_or (2 ^ a) (2 ^ b)
reads (Swap a b) = bit_or (2 ^ a) (2 ^ b)
reads (Cswap c a b) = bit_or (bit_or (2 ^ a) (2 ^ b)) (2 ^ c)

-- the lines whose bits it may change
abbrev pub writes : Op → ℕ
writes (X q) = 2 ^ q
writes (Y q) = 2 ^ q
writes (Z q) = 0
writes (H q) = 2 ^ q
writes (S q) = 0
writes (Sdg q) = 0
writes (T q) = 0
writes (Tdg q) = 0
writes (Cx a b) = 2 ^ b
writes (Cz a b) = 0
writes (Ccx a b c) = 2 ^ c
writes (Swap a b) = bit_or (2 ^ a) (2 ^ b)
writes (Cswap c a b) = bit_or (2 ^ a) (2 ^ b)

-- neither changes what the other does
abbrev pub commute : Op → Op → Bool
commute p o = (bit_and (reads p) (writes o) == 0) && (bit_and (writes p) (reads o) == 0)
