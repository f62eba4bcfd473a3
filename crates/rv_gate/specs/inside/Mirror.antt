-- Bits in the other order, by exchanges.
use Rattle.std.specs.Prelude.{ℕ, ◌+◌, ◌-◌, Bool, ◌&&◌, if◌then◌else◌, nat_le}
use Rattle.rv_gate.specs.Word.{has}
use Rattle.rv_gate.specs.Gate.{all_below, xor}

-- the place from which a bit comes, where each place in a mask exchanges its bit with the one some places above it
abbrev pub came_from : ℕ → ℕ → ℕ → ℕ
came_from mask apart place = if has mask place then place + apart else place - apart

-- a place stands so many places above one in the mask
abbrev pub is_above : ℕ → ℕ → ℕ → Bool
is_above mask apart place = nat_le apart place && has mask (place - apart)

-- each of 64 places is in the mask or above one that is, and not both
abbrev pub are_pairs : ℕ → ℕ → Bool
are_pairs mask apart = all_below (λ place. xor (has mask place) (is_above mask apart place)) 64
