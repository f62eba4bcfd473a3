-- A number for each operation, the same where two of its lines are exchanged that may be.
use Rattle.std.specs.Prelude.{ℕ, ◌+◌, ◌*◌, min, max}
use Rattle.rv_net.specs.declared.op.Op.{Op}
use Rattle.rv_net.specs.declared.op.Op.TheVariants.{X, Y, Z, H, S, Sdg, T, Tdg, Cx, Cz, Ccx, Swap, Cswap}

-- a kind below 14, and up to three lines, the third of kinds 12 and 13 alone
pub record Parts : Type 0 where
  pub kind : ℕ
  pub a : ℕ
  pub b : ℕ
  pub c : ℕ

abbrev pub parts_of : ℕ → ℕ → ℕ → ℕ → Parts
parts_of kind a b c = record { kind = kind; a = a; b = b; c = c }

-- of two lines that may be exchanged the lesser comes first
abbrev pub parts : Op → Parts
parts (X q) = parts_of 0 q 0 0
parts (Y q) = parts_of 1 q 0 0
parts (Z q) = parts_of 2 q 0 0
parts (H q) = parts_of 3 q 0 0
parts (S q) = parts_of 4 q 0 0
parts (Sdg q) = parts_of 5 q 0 0
parts (T q) = parts_of 6 q 0 0
parts (Tdg q) = parts_of 7 q 0 0
parts (Cx a b) = parts_of 8 a b 0
parts (Cz a b) = parts_of 9 (min a b) (max a b) 0
parts (Swap a b) = parts_of 10 (min a b) (max a b) 0
parts (Ccx a b c) = parts_of 12 (min a b) (max a b) c
parts (Cswap c a b) = parts_of 13 (min a b) (max a b) c

-- a third line below n gives less than 2^12 (12 + 2n)
abbrev pub number : Parts → ℕ
number p = ((p.kind + 2 * p.c) * 64 + p.a) * 64 + p.b

unfoldable pub code : Op → ℕ
code o = number (parts o)
