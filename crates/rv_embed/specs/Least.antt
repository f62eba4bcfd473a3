-- Embeddings on any number of lines, circuits that give a function, and the least number of lines.
use Rattle.std.specs.Prelude.{◌≡◌, ℕ, ◌^◌, ◌≤◌, Bool, List, length, All}
use Rattle.rv_gate.specs.Gate.{FitsIn, IsGate, run}
use Rattle.rv_gate.specs.declared.circuit.Mark.{Mark}
use Rattle.rv_gate.specs.declared.gate.Shape.{Shape}
use Rattle.rv_pla.specs.Pla.{TwoLevel}
use Rattle.rv_perm.specs.Perm.{IsEachOnce, permuted}
use Rattle.rv_perm.specs.Marked.{Marked}
use Rattle.rv_embed.specs.Realizes.{Realizes}

-- a permutation of the words of any number of lines, with any marks, that gives what the PLA asks
pub record IsEmbedding (pla : TwoLevel) (m : Marked) : Type 0 where
  pub words : length m.table.images ≡ 2 ^ m.table.lines
  pub permutes : IsEachOnce m.table.images
  pub constants : length m.constants ≡ m.table.lines
  pub garbage : length m.garbage ≡ m.table.lines
  pub realizes : Realizes pla (permuted m.table) m.constants m.garbage

-- every embedding has so many lines, or more
abbrev pub NoneHasFewer : TwoLevel → ℕ → Type 0
NoneHasFewer pla n = (m : Marked) → IsEmbedding pla m → n ≤ m.table.lines

-- gates on any number of lines, with any constants and garbage, that give what the PLA asks
pub record IsCircuitFor (pla : TwoLevel) (lines : ℕ) (gates : List Shape) (constants : List Mark)
    (garbage : List Bool) : Type 0 where
  pub valid : All IsGate gates
  pub fitting : All (λ gate. FitsIn gate lines) gates
  pub each_constant : length constants ≡ lines
  pub each_garbage : length garbage ≡ lines
  pub realizes : Realizes pla (run gates) constants garbage

-- every circuit that gives it has so many lines, or more
abbrev pub NoCircuitHasFewer : TwoLevel → ℕ → Type 0
NoCircuitHasFewer pla n =
    (lines : ℕ) (gates : List Shape) (constants : List Mark) (garbage : List Bool)
    → IsCircuitFor pla lines gates constants garbage → n ≤ lines
