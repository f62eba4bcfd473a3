-- Operations of a network, and what each does to a word: OpenQASM 2.0's gates, with matrices in which no phase is free.
use Rattle.std.specs.Prelude.{ℕ, ◌<◌, ◌≤◌, ◌≢◌, ◌&&◌, Bool, true, false, not, List, All, length, if◌then◌else◌, slice_set}
use Rattle.rv_gate.specs.Gate.{xor}
use Rattle.rv_gate.specs.Word.{bit_of}
use Rattle.rv_gate.specs.declared.word.TheConstants.{MOST_LINES}
use Rattle.rv_net.specs.declared.net.TheConstants.{MOST_OPS}
use Rattle.rv_net.specs.declared.op.Op.{Op}
use Rattle.rv_net.specs.declared.op.Op.TheVariants.{X, Y, Z, H, S, Sdg, T, Tdg, Cx, Cz, Ccx, Swap, Cswap}

-- where an operation that is no H takes a word
abbrev pub goes_to : Op → List Bool → List Bool
goes_to (X q) x = slice_set x q (not (bit_of x q))
goes_to (Y q) x = slice_set x q (not (bit_of x q))
goes_to (Cx a b) x = slice_set x b (xor (bit_of x a) (bit_of x b))
goes_to (Ccx a b c) x = slice_set x c (xor (bit_of x a && bit_of x b) (bit_of x c))
goes_to (Swap a b) x = slice_set (slice_set x a (bit_of x b)) b (bit_of x a)
goes_to (Cswap c a b) x =
    slice_set (slice_set x a (if bit_of x c then bit_of x b else bit_of x a)) b
    (if bit_of x c then bit_of x a else bit_of x b)
goes_to (Z q) x = x
goes_to (H q) x = x
goes_to (S q) x = x
goes_to (Sdg q) x = x
goes_to (T q) x = x
goes_to (Tdg q) x = x
goes_to (Cz a b) x = x

-- the power of w that it brings
abbrev pub phase_of : Op → List Bool → ℕ
phase_of (Y q) x = if bit_of x q then 6 else 2
phase_of (Z q) x = if bit_of x q then 4 else 0
phase_of (S q) x = if bit_of x q then 2 else 0
phase_of (Sdg q) x = if bit_of x q then 6 else 0
phase_of (T q) x = if bit_of x q then 1 else 0
phase_of (Tdg q) x = if bit_of x q then 7 else 0
phase_of (Cz a b) x = if bit_of x a && bit_of x b then 4 else 0
phase_of (X q) x = 0
phase_of (H q) x = 0
phase_of (Cx a b) x = 0
phase_of (Ccx a b c) x = 0
phase_of (Swap a b) x = 0
phase_of (Cswap c a b) x = 0

-- T or its inverse
abbrev pub is_t : Op → Bool
is_t (T q) = true
is_t (Tdg q) = true
is_t op = false

-- a Toffoli or a Fredkin gate, which stands for several T
abbrev pub has_three_lines : Op → Bool
has_three_lines (Ccx a b c) = true
has_three_lines (Cswap c a b) = true
has_three_lines op = false

-- the lines of the operation differ, and are below n
abbrev pub OpFitsIn : Op → ℕ → Type 0
OpFitsIn (X q) n = q < n
OpFitsIn (Y q) n = q < n
OpFitsIn (Z q) n = q < n
OpFitsIn (H q) n = q < n
OpFitsIn (S q) n = q < n
OpFitsIn (Sdg q) n = q < n
OpFitsIn (T q) n = q < n
OpFitsIn (Tdg q) n = q < n
OpFitsIn (Cx a b) n = (a < n) × (b < n) × (a ≢ b)
OpFitsIn (Cz a b) n = (a < n) × (b < n) × (a ≢ b)
OpFitsIn (Swap a b) n = (a < n) × (b < n) × (a ≢ b)
OpFitsIn (Ccx a b c) n = (a < n) × (b < n) × (c < n) × (a ≢ b) × (a ≢ c) × (b ≢ c)
OpFitsIn (Cswap c a b) n = (c < n) × (a < n) × (b < n) × (c ≢ a) × (c ≢ b) × (a ≢ b)

-- operations on lines 0, 1, .. below a number
pub record Network : Type 0 where
  pub lines : ℕ
  pub ops : List Op

-- what every network keeps
pub record IsNetwork (net : Network) : Type 0 where
  pub some : 1 ≤ net.lines
  pub few : net.lines ≤ MOST_LINES
  pub bounded : length net.ops ≤ MOST_OPS
  pub fitting : All (λ op. OpFitsIn op net.lines) net.ops
