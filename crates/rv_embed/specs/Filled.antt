-- The function of a PLA whose free entries are filled, so that few input words share an output word.
use Rattle.std.specs.Prelude.{ℕ, zero, suc, ◌+◌, ◌^◌, ◌==◌, Bool, false, not, ◌&&◌, ◌||◌, List, map, if◌then◌else◌, nat_lt, slice_index, slice_set}
use Rattle.std.specs.List.{count_by, range_with_len}
use Rattle.rv_gate.specs.Gate.{all_below}
use Rattle.rv_gate.specs.Word.{bit_of, number_of, word_of}
use Rattle.rv_pla.specs.Pla.{TwoLevel, entry}
use Rattle.rv_pla.specs.Zeros.{output_word, zeros}
use Rattle.rv_pla.specs.FreeEntries.{allows, is_dont_care}
use Rattle.rv_pla.specs.declared.entry.Entry.{Entry}
use Rattle.rv_embed.specs.Classes.{largest_class}
use Rattle.rv_embed.specs.LeastBelow.{least_below}

-- ---- what the entries of an input word ask

-- the entries of the input word with a number, by their outputs
abbrev pub row : TwoLevel → ℕ → ℕ → Entry
row pla x output = entry pla (word_of pla.inputs x) output

-- one of the first n entries is free
unfoldable pub has_free : (ℕ → Entry) → ℕ → Bool
has_free entries zero = false
has_free entries (suc n) = has_free entries n || is_dont_care (entries n)

-- the output word of n bits with the number y suits with the entries that aren't free
unfoldable pub suits : (ℕ → Entry) → ℕ → ℕ → Bool
suits entries n y = all_below (λ j. allows (entries j) (bit_of (word_of n y) j)) n

-- ---- the word that is used least

-- the number y passes, and none below n that passes has a lesser count
abbrev pub has_least_count : (ℕ → Bool) → (ℕ → ℕ) → ℕ → ℕ → Bool
has_least_count passes count n y = passes y && all_below (λ z. not (passes z) || not (nat_lt (count z) (count y))) n

-- of the numbers below n that pass the one with the least count, and of these the least
unfoldable pub least_used : (ℕ → Bool) → (ℕ → ℕ) → ℕ → ℕ
least_used passes count n = least_below (has_least_count passes count n) n

-- ---- each input word with a free entry takes the output word that is used least

-- whether an input word has a free entry
abbrev pub is_open : TwoLevel → ℕ → Bool
is_open pla x = has_free (row pla x) pla.outputs

-- the output word of an input word without a free entry
abbrev pub own_word : TwoLevel → ℕ → ℕ
own_word pla x = number_of (output_word pla (word_of pla.inputs x))

-- how many input words have no free entry, and the output word y
unfoldable pub known_uses : TwoLevel → ℕ → ℕ
known_uses pla y = count_by (λ x. not (is_open pla x) && (own_word pla x == y)) (range_with_len 0 (2 ^ pla.inputs))

-- of the output words that agree with the other entries of an input word the one that is used least
abbrev pub taken_word : TwoLevel → List ℕ → ℕ → ℕ
taken_word pla counts x = least_used (suits (row pla x) pla.outputs) (slice_index counts) (2 ^ pla.outputs)

-- one more input word has the output word y
abbrev pub raised : List ℕ → ℕ → List ℕ
raised counts y = slice_set counts y (slice_index counts y + 1)

-- how often each output word is used, when of the input words with a free entry those before x have theirs
unfoldable pub uses : TwoLevel → ℕ → List ℕ
uses pla zero = map (known_uses pla) (range_with_len 0 (2 ^ pla.outputs))
uses pla (suc x) = if is_open pla x then raised (uses pla x) (taken_word pla (uses pla x) x) else uses pla x

abbrev pub greedy_word : TwoLevel → ℕ → ℕ
greedy_word pla x = if is_open pla x then taken_word pla (uses pla x) x else own_word pla x

abbrev pub greedy : TwoLevel → List ℕ
greedy pla = map (greedy_word pla) (range_with_len 0 (2 ^ pla.inputs))

-- ---- the better of the two

unfoldable pub filled : TwoLevel → List ℕ
filled pla = if nat_lt (largest_class (greedy pla)) (largest_class (zeros pla)) then greedy pla else zeros pla
