-- Squares of bits, eight by eight.
use Rattle.std.specs.Prelude.{◌≡◌, ℕ, ◌+◌, ◌-◌, ◌*◌, ◌/◌, ◌%◌, ◌<◌, Bool, List, [], length, All, ◌&&◌, not, if◌then◌else◌, nat_le, slice_index_or}
use Rattle.rv_gate.specs.Gate.{all_below}
use Rattle.rv_gate.specs.Word.{has}

-- the place from which a bit comes, where each place in a mask exchanges its bit with the one some places above it
abbrev pub came_from : ℕ → ℕ → ℕ → ℕ
came_from mask apart place =
    if has mask place then place + apart
    else (if nat_le apart place && has mask (place - apart) then place - apart else place)

-- no place of 64 is exchanged with two others
abbrev pub is_apart : ℕ → ℕ → Bool
is_apart mask apart = all_below (λ place. not (has mask place && has mask (place + apart))) 64

-- a byte of one of some numbers, of which each is a list of its bytes
abbrev pub byte_of : List (List ℕ) → ℕ → ℕ → ℕ
byte_of numbers i k = slice_index_or (slice_index_or numbers i []) k 0

-- eight numbers of eight bytes each
abbrev pub AreEight : List (List ℕ) → Type 0
AreEight numbers = (length numbers ≡ 8) × All (λ bytes. length bytes ≡ 8) numbers

-- the bits of eight numbers: bit j of number i
abbrev pub HaveBits : List (List ℕ) → (ℕ → ℕ → Bool) → Type 0
HaveBits numbers bit = (i j : ℕ) → i < 8 → j < 64 → has (byte_of numbers i (j / 8)) (j % 8) ≡ bit i j

-- the bits of a square: bit j of row i
abbrev pub IsSquare : ℕ → (ℕ → ℕ → Bool) → Type 0
IsSquare square bit = (i j : ℕ) → i < 8 → j < 8 → has square (8 * i + j) ≡ bit i j
