use Rattle.std.proofs.Common.{◌≡◌, ℕ, ◌<◌, ◌+◌, take}
use Rattle.rv_many.specs.Column.{column}
use Rattle.rv_blif.specs.Logic.{with_nodes}
use Rattle.rv_blif.proofs.logic.Logic.set_nodes.Given as goal

abbrev pub invariant-loop-k : goal.invariant-loop-k
invariant-loop-k l = (j : ℕ) → j < 256 → take (l.inputs + l.k) (column l.rows j) ≡ with_nodes (take l.k l.nodes) (take l.inputs (column l.initial.rows j))
