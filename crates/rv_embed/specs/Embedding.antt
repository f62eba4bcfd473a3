-- The embedding of a function of i inputs and o outputs, from the list of the output words' numbers.
use Rattle.std.specs.Prelude.{ℕ, ◌+◌, ◌-◌, ◌*◌, ◌^◌, ◌==◌, max, nat_lt, true, false, not, List, ◌++◌, length, map, replicate, slice_index}
use Rattle.std.specs.List.{filter, list_any, range_with_len}
use Rattle.rv_gate.specs.declared.circuit.Mark.TheVariants.{Input, Zero}
use Rattle.rv_pla.specs.Pla.{TwoLevel}
use Rattle.rv_perm.specs.Perm.{preimage_of}
use Rattle.rv_perm.specs.Marked.{Marked}
use Rattle.rv_embed.specs.Classes.{largest_class, rank}
use Rattle.rv_embed.specs.Filled.{filled}
use Rattle.rv_embed.specs.LeastBelow.{least_below}

-- ---- the number of lines

-- the least g with m ≤ 2 ^ g
unfoldable pub least_power : ℕ → ℕ
least_power m = least_below (λ g. not (nat_lt (2 ^ g) m)) m

-- room for the inputs, and for the outputs with the bits that tell apart the words of the largest class
abbrev pub least_lines : TwoLevel → ℕ
least_lines pla = max pla.inputs (pla.outputs + least_power (largest_class (filled pla)))

-- ---- the permutation

-- the numbers below the count that don't stand in a list, in ascending order
unfoldable pub remaining : ℕ → List ℕ → List ℕ
remaining count numbers = filter (λ y. not (list_any (λ x. y == x) numbers)) (range_with_len 0 count)

-- a list, and then the numbers below the count that don't stand in it
abbrev pub completed : ℕ → List ℕ → List ℕ
completed count numbers = numbers ++ remaining count numbers

-- for each input word in ascending order: the word followed by zeros, on n lines
abbrev pub first_inputs : ℕ → ℕ → List ℕ
first_inputs n i = map (λ x. x * 2 ^ (n - i)) (range_with_len 0 (2 ^ i))

-- and to which word it goes: its output word followed by its rank
abbrev pub first_outputs : ℕ → ℕ → List ℕ → List ℕ
first_outputs n o outputs =
    map (λ x. slice_index outputs x * 2 ^ (n - o) + rank outputs x) (range_with_len 0 (length outputs))

-- the images where each number goes from its place in one list to the number at this place of another
unfoldable pub images_between : ℕ → List ℕ → List ℕ → List ℕ
images_between count from to = map (λ z. slice_index to (preimage_of from z)) (range_with_len 0 count)

-- the other input words go to the other output words, both in ascending order
abbrev pub embedded_images : ℕ → ℕ → ℕ → List ℕ → List ℕ
embedded_images n i o outputs =
    images_between (2 ^ n) (completed (2 ^ n) (first_inputs n i)) (completed (2 ^ n) (first_outputs n o outputs))

-- the first lines are the inputs and the outputs, the other ones take the constant 0 and are garbage
abbrev pub embedding_on : ℕ → ℕ → ℕ → List ℕ → Marked
embedding_on n i o outputs =
    record {
      table = record { lines = n; images = embedded_images n i o outputs };
      constants = replicate i Input ++ replicate (n - i) Zero;
      garbage = replicate o false ++ replicate (n - o) true;
    }

-- the embedding of a PLA, on the least number of lines
abbrev pub embedding_of : TwoLevel → Marked
embedding_of pla = embedding_on (least_lines pla) pla.inputs pla.outputs (filled pla)
