-- The pairs of numbers that a flip exchanges.
use Rattle.std.specs.Prelude.{ℕ, ◌==◌, if◌then◌else◌, bit_and, bit_xor}

-- v with the bit of `place` changed, where v has all bits of `care`,
-- those of `negative` being taken the other way round
abbrev pub counterpart : ℕ → ℕ → ℕ → ℕ → ℕ
counterpart care negative place v = if bit_and (bit_xor v negative) care == care then bit_xor v place else v
