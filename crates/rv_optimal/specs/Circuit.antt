-- Circuits for permutations with marks, than which none has fewer gates.
use Rattle.std.specs.Prelude.{ℕ, ◌≡◌}
use Rattle.rv_gate.specs.Circuit.{Cascade}
use Rattle.rv_perm.specs.Lines.{circuit_on}
use Rattle.rv_perm.specs.Marked.{Marked}
use Rattle.rv_optimal.specs.Shortest.{IsShortest}
use Rattle.rv_optimal.specs.declared.library.Library.{Library}
use Rattle.rv_optimal.specs.declared.library.Library.TheVariants.{Mixed, Positive}

-- so many gates are looked for at the most
abbrev pub most_gates : Library → ℕ
most_gates Positive = 11
most_gates Mixed = 8

-- its gates on the lines of the permutation, with its marks, compute the permutation as it stands, and no list of gates
-- of the library that does is shorter
pub record IsOptimal (library : Library) (m : Marked) (c : Cascade) : Type 0 where
  pub on : c ≡ circuit_on m c.gates
  pub shortest : IsShortest library m.table.lines m.table.images c.gates
