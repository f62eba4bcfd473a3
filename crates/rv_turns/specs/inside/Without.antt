-- Sets as numbers.
use Rattle.std.specs.Prelude.{ℕ, bit_and, bit_xor}

-- the bits of a that b lacks
abbrev pub without : ℕ → ℕ → ℕ
without a b = bit_xor a (bit_and a b)
