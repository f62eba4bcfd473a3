-- The lines that gates touch.
use Rattle.std.specs.Prelude.{◌≡◌, ℕ, ◌<◌, true, List, [], ◌∷◌, All, bit_or}
use Rattle.std.specs.List.{Contains}
use Rattle.rv_gate.specs.declared.word.TheConstants.{MOST_LINES}
use Rattle.rv_gate.specs.declared.gate.Shape.{Shape}
use Rattle.rv_gate.specs.Gate.{touched}
use Rattle.rv_gate.specs.Word.{has}

-- the lines that some of the gates touch
unfoldable pub span : List Shape → ℕ
span [] = 0
span (g ∷ rest) = bit_or (touched g) (span rest)

-- the list has each line of the set below an end
pub record ListsTo (set end : ℕ) (lines : List ℕ) : Type 0 where
  pub each : (line : ℕ) → line < end → has set line ≡ true → Contains lines line
  pub below : All (λ line. line < MOST_LINES) lines
