-- A permutation from a seed: the numbers in their order, shuffled.
use Rattle.std.specs.Prelude.{ℕ, zero, suc, ◌+◌, ◌-◌, ◌*◌, ◌%◌, ◌^◌, List}
use Rattle.std.specs.List.{range_with_len, swap}
use Rattle.rv_perm.specs.Perm.{Table}

-- a draw takes the state to the next one
abbrev pub drawn : ℕ → ℕ
drawn state = (75 * state + 74) % 65537

-- for each place i from this one down to 1: what stands there, and at the place that is the draw modulo i + 1, is
-- exchanged
unfoldable pub shuffled : ℕ → ℕ → List ℕ → List ℕ
shuffled zero state numbers = numbers
shuffled (suc i) state numbers = shuffled i (drawn state) (swap numbers (suc i) (drawn state % (suc i + 1)))

-- the permutation of so many lines
abbrev pub generated : ℕ → ℕ → Table
generated lines seed = record { lines = lines; images = shuffled (2 ^ lines - 1) seed (range_with_len 0 (2 ^ lines)) }
