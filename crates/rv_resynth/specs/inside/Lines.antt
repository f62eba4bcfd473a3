-- The lines of some gates, and the words on them.
use Rattle.std.specs.Prelude.{◌≡◌, ℕ, Bool, true, List, length, map, All}
use Rattle.rv_gate.specs.declared.word.TheConstants.{MOST_LINES}
use Rattle.rv_gate.specs.declared.gate.Shape.{Shape}
use Rattle.rv_gate.specs.Gate.{run, touches}
use Rattle.rv_gate.specs.Word.{has, bit_of, ones_of}

-- the set has each line that the gate touches
abbrev pub Covers : ℕ → Shape → Type 0
Covers set g = (line : ℕ) → touches g line ≡ true → has set line ≡ true

-- the number of the bits that a word has on some lines, the first of them lowest
abbrev pub number_on : List ℕ → List Bool → ℕ
number_on lines word = ones_of (map (bit_of word) lines)

-- two words have the same bits on some lines
abbrev pub AlikeOn : List ℕ → List Bool → List Bool → Type 0
AlikeOn lines u v = All (λ line. bit_of u line ≡ bit_of v line) lines

-- of a word that is like this one on some lines, both lists of gates make the same
abbrev pub AgreesAt : List Shape → List Shape → List ℕ → List Bool → Type 0
AgreesAt old new lines word =
    (base : List Bool) × (length base ≡ MOST_LINES) × AlikeOn lines base word × (run old base ≡ run new base)
