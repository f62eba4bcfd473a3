-- Pairs of words that differ in one line alone, the walks over them, and the control functions of the line's two gates.
--
-- Words go by their numbers. Of n lines, line i is bit n - 1 - i of the number.
use Rattle.std.specs.Prelude.{ℕ, zero, suc, ◌-◌, ◌^◌, Bool, List, slice_index, bit_xor, min, nat_lt}
use Rattle.rv_gate.specs.Word.{has}
use Rattle.rv_gate.specs.Gate.{xor}
use Rattle.rv_perm.specs.Perm.{preimage_of}

-- the other word of a pair
abbrev pub other : ℕ → ℕ → ℕ
other k x = bit_xor x (2 ^ k)

-- The walk goes from a word to the one that the permutation takes to the other word of its image's pair,
-- and on to the other word of that one's pair.
unfoldable pub next : ℕ → List ℕ → ℕ → ℕ
next k images x = other k (preimage_of images (other k (slice_index images x)))

-- the least of m + 1 words from x on, each a step after the one before
unfoldable pub least_from : (ℕ → ℕ) → ℕ → ℕ → ℕ
least_from step zero x = x
least_from step (suc m) x = min x (least_from step m (step x))

-- the least word of the walk from x, which is back at x within 2 ^ n steps
abbrev pub least_on_walk : ℕ → ℕ → List ℕ → ℕ → ℕ
least_on_walk n k images x = least_from (next k images) (2 ^ n - 1) x

-- The walks from the two words of a pair have no word in common. The side of a word is 0 where its walk has the least
-- word of both, else 1.
unfoldable pub side : ℕ → ℕ → List ℕ → ℕ → Bool
side n k images x = nat_lt (least_on_walk n k images (other k x)) (least_on_walk n k images x)

-- the control function of the left gate, the bit of a word's pair: 1 where bit k of the word is not its side
abbrev pub left : ℕ → ℕ → List ℕ → ℕ → Bool
left n k images x = xor (has x k) (side n k images x)

-- the control function of the right gate, the bit of an image's pair: 1 where bit k of the image is not the side of its
-- word
abbrev pub right : ℕ → ℕ → List ℕ → ℕ → Bool
right n k images y = xor (has y k) (side n k images (preimage_of images y))
