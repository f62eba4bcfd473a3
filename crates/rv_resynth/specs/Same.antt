-- Lists of gates that do the same.
use Rattle.std.specs.Prelude.{◌≡◌, ◌≢◌, ℕ, Bool, List, length, bit_or}
use Rattle.rv_gate.specs.declared.gate.Shape.{Shape}
use Rattle.rv_gate.specs.Gate.{run, AllFit}
use Rattle.rv_mct.specs.Blocks.{count_lines}
use Rattle.rv_search.specs.Lines.{span}

-- the same on every word of n bits
abbrev pub Same : ℕ → List Shape → List Shape → Type 0
Same n left right = (word : List Bool) → length word ≡ n → run left word ≡ run right word

-- the same on every word that all the gates fit
abbrev pub Interchangeable : List Shape → List Shape → Type 0
Interchangeable left right = (n : ℕ) → AllFit n left → AllFit n right → Same n left right

-- of some word that all the gates fit they make different ones
abbrev pub Differ : List Shape → List Shape → Type 0
Differ left right =
    (word : List Bool) × AllFit (length word) left × AllFit (length word) right × (run left word ≢ run right word)

-- how many lines the gates of both lists touch
abbrev pub width : List Shape → List Shape → ℕ
width left right = count_lines (bit_or (span left) (span right))
