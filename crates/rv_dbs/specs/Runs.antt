-- Runs of gates with the same targets.
use Rattle.std.specs.Prelude.{ℕ, ◌+◌, ◌≤◌, List, [], ◌∷◌, ◌==◌, if◌then◌else◌, length, All}
use Rattle.rv_gate.specs.Gate.{targets, IsGate, FitsIn, IsFlip}
use Rattle.rv_gate.specs.declared.gate.Shape.{Shape}

-- how many gates have other targets than the one before, where the first comes after one with the targets `before`
unfoldable pub turn_count : ℕ → List Shape → ℕ
turn_count before [] = 0
turn_count before (g ∷ rest) = (if targets g == before then 0 else 1) + turn_count (targets g) rest

-- how many runs there are
unfoldable pub run_count : List Shape → ℕ
run_count [] = 0
run_count (g ∷ rest) = 1 + turn_count (targets g) rest

-- flips that fit n lines, in at most so many runs, and no more than so many
pub record AreFlips (n runs most : ℕ) (gates : List Shape) : Type 0 where
  pub flips : All IsFlip gates
  pub valid : All IsGate gates
  pub fits : All (λ g. FitsIn g n) gates
  pub few_runs : run_count gates ≤ runs
  pub few : length gates ≤ most
