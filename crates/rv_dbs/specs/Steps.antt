-- The written steps: which bits the pairs of a line get, and which gates the lines get.
--
-- The least word whose pair has no bit yet gives its pair the bit 0. From a word and the bit of its pair comes the bit
-- of the pair of its image. The other word of that pair is the image of some word, whose pair gets its bit from there;
-- so on from the other word of this one's pair, until a pair has its bit. Then the next least word is taken.
use Rattle.std.specs.Prelude.{ℕ, zero, suc, ◌≡◌, ◌≢◌, ◌-◌, ◌^◌, ◌<◌, ◌≤◌, Bool, false, List, ◌++◌, length, slice_index}
use Rattle.rv_gate.specs.Word.{has}
use Rattle.rv_gate.specs.Gate.{xor}
use Rattle.rv_gate.specs.declared.gate.Shape.{Shape}
use Rattle.rv_perm.specs.Perm.{IsPerm}
use Rattle.std.specs.Fn.{iterate}
use Rattle.rv_dbs.specs.Walk.{other, next}
use Rattle.rv_dbs.specs.Singles.{single, between_by, is_changed, KeepsAbove}

-- The word's pair has no bit yet when the word's turn comes: no lesser word's walk meets it. (A walk gives a bit to
-- each pair that it meets, and ends where it began. So a lesser word had its bit from a walk over the same pairs as its
-- own.)
abbrev pub IsFirst : ℕ → List ℕ → ℕ → Type 0
IsFirst k images x = (y m : ℕ) → y < x → (iterate (next k images) m y ≢ x) × (iterate (next k images) m y ≢ other k x)

-- Each pair has its bit: `l` gives those of the words' pairs, `r` those of the images' pairs. A word's bit k, the bit
-- of its pair, its image's bit k and the bit of that one's pair give 0 by exclusive or, so each of the four comes from
-- the others.
pub record AreWalked (n k : ℕ) (images : List ℕ) (l r : ℕ → Bool) : Type 0 where
  pub input_pairs : (x : ℕ) → x < 2 ^ n → l (other k x) ≡ l x
  pub output_pairs : (y : ℕ) → y < 2 ^ n → r (other k y) ≡ r y
  pub first : (x : ℕ) → x < 2 ^ n → IsFirst k images x → l x ≡ false
  pub through : (x : ℕ) → x < 2 ^ n
      → r (slice_index images x) ≡ xor (xor (has x k) (l x)) (has (slice_index images x) k)

-- the control functions of the line's left and right gate, and the permutation that is left between these gates
pub record AreControls (n k : ℕ) (images : List ℕ) (l r : ℕ → Bool) : Type 0 where
  pub walked : AreWalked n k images l r
  pub only_left : (f g : ℕ → Bool) → AreWalked n k images f g → (x : ℕ) → x < 2 ^ n → f x ≡ l x
  pub only_right : (f g : ℕ → Bool) → AreWalked n k images f g → (y : ℕ) → y < 2 ^ n → g y ≡ r y
  pub few_left : length (single n k l) ≤ 2 ^ (n - 1)
  pub few_right : length (single n k r) ≤ 2 ^ (n - 1)
  pub between_perm : IsPerm n (between_by n k l r images)

-- The gates for the lines of the bits k, k - 1, .. 0, where the lines before are kept: the left gate of the line, the
-- gates of the later lines for the permutation that is left, which keeps this line too, and the right gate. The last
-- line has one gate.
unfoldable pub AreStepped : ℕ → ℕ → List ℕ → List Shape → Type 0
AreStepped n zero images gates =
    KeepsAbove n 0 images × (gates ≡ single n 0 (is_changed images)) × (length gates ≤ 2 ^ (n - 1))
AreStepped n (suc k) images gates =
    KeepsAbove n (suc k) images
    × ((l : ℕ → Bool) × (r : ℕ → Bool) × (rest : List Shape) × AreControls n (suc k) images l r
    × (gates ≡ single n (suc k) l ++ rest ++ single n (suc k) r)
    × AreStepped n k (between_by n (suc k) l r images) rest)
