-- Permutations of the words of n bits, as the list of the images' numbers.
use Rattle.std.specs.Prelude.{ℕ, zero, suc, ◌≡◌, ◌≢◌, ◌^◌, ◌<◌, ◌≤◌, Bool, List, length, map, slice_index, Option, Some, None, Result, Err, ◌==◌, nat_lt, if◌then◌else◌}
use Rattle.rv_reader.specs.FirstFault.{first_below, unless_fault}
use Rattle.std.specs.List.{position_or_len, range_with_len}
use Rattle.rv_gate.specs.Word.{number_of, word_of}
use Rattle.rv_gate.specs.Gate.{run}
use Rattle.rv_gate.specs.declared.gate.Shape.{Shape}
use Rattle.rv_perm.specs.declared.fault.PermFault.{PermFault}
use Rattle.rv_perm.specs.declared.fault.PermFault.TheVariants.{Length, OutOfRange, Repeated}
use Rattle.rv_perm.specs.declared.perm.TheConstants.{MOST_PERM_LINES}

-- the number of lines, and the image of each number
pub record Table : Type 0 where
  pub lines : ℕ
  pub images : List ℕ

-- the word to which a permutation takes a word
abbrev pub permuted : Table → List Bool → List Bool
permuted table word = word_of table.lines (slice_index table.images (number_of word))

-- each number is below the length, and none stands twice
abbrev pub IsEachOnce : List ℕ → Type 0
IsEachOnce images =
    ((x : ℕ) → x < length images → slice_index images x < length images)
    × ((x y : ℕ) → x < y → y < length images → slice_index images x ≢ slice_index images y)

-- a permutation of the words of n bits
abbrev pub IsPerm : ℕ → List ℕ → Type 0
IsPerm n images = (1 ≤ n) × (n ≤ MOST_PERM_LINES) × (length images ≡ 2 ^ n) × IsEachOnce images

-- the first place at which a number stands in a list, or the list's length
unfoldable pub preimage_of : List ℕ → ℕ → ℕ
preimage_of numbers y = position_or_len (λ x. x == y) numbers

-- the list that has at x what stands at f x
unfoldable pub reindexed : (ℕ → ℕ) → List ℕ → List ℕ
reindexed f images = map (λ x. slice_index images (f x)) (range_with_len 0 (length images))

-- the n from 1 to `most` whose words number `count`, if there is one
unfoldable pub lines_up_to : ℕ → ℕ → Option ℕ
lines_up_to zero count = None
lines_up_to (suc n) count = if 2 ^ suc n == count then Some (suc n) else lines_up_to n count

abbrev pub lines_for : ℕ → Option ℕ
lines_for count = lines_up_to MOST_PERM_LINES count

-- what is wrong with a number that stands first at one place, and at another
unfoldable pub place_fault : ℕ → ℕ → ℕ → ℕ → Option PermFault
place_fault count number first place =
    if nat_lt number count then (if nat_lt first place then Some (Repeated first place) else None)
    else Some (OutOfRange place)

-- what is wrong with the number at a place of a list
abbrev pub fault_at : List ℕ → ℕ → Option PermFault
fault_at numbers place =
    place_fault (length numbers) (slice_index numbers place) (preimage_of numbers (slice_index numbers place)) place

-- the fault at the least place below n
abbrev pub fault_below : List ℕ → ℕ → Option PermFault
fault_below numbers n = first_below (fault_at numbers) n

-- the table of a list of numbers of so many lines, where each is in range and stands once
unfoldable pub images_checked : ℕ → List ℕ → Result Table PermFault
images_checked n numbers = unless_fault (record { lines = n; images = numbers }) (fault_below numbers (length numbers))

-- the table of a list of numbers, where its length has so many lines
unfoldable pub table_on : Option ℕ → List ℕ → Result Table PermFault
table_on None numbers = Err (Length (length numbers))
table_on (Some n) numbers = images_checked n numbers

-- the table of a list of numbers, or its first fault
abbrev pub table_of : List ℕ → Result Table PermFault
table_of numbers = table_on (lines_for (length numbers)) numbers

-- a circuit on n lines computes the permutation: each word goes to the word of its image
abbrev pub Computes : ℕ → List Shape → List ℕ → Type 0
Computes n gates images =
    (word : List Bool) → length word ≡ n → run gates word ≡ word_of n (slice_index images (number_of word))
