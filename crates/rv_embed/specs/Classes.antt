-- The input words that share an output word, from the list of the output words' numbers.
use Rattle.std.specs.Prelude.{ℕ, ◌==◌, List, take, slice_index}
use Rattle.std.specs.List.{count_by}
use Rattle.rv_gate.specs.Greatest.{greatest}

-- how many input words have the output word y
abbrev pub class_size : List ℕ → ℕ → ℕ
class_size outputs y = count_by (λ v. v == y) outputs

-- the largest number of input words that share one output word
unfoldable pub largest_class : List ℕ → ℕ
largest_class outputs = greatest (class_size outputs) outputs

-- how many of the input words before x have the output word of x
unfoldable pub rank : List ℕ → ℕ → ℕ
rank outputs x = class_size (take x outputs) (slice_index outputs x)
