use Rattle.std.proofs.Common.{ℕ, ◌+◌, ◌*◌, ◌<◌}
use Rattle.rv_gate.specs.Word.{word_of}
use Rattle.rv_compare.specs.Compare.{GivesAllowed, asked, size_of}
use Rattle.rv_compare.proofs.table.PlaOther.first_apart.Given as goal

abbrev pub invariant-loop-place : goal.invariant-loop-place
invariant-loop-place l = (k : ℕ) → k < l.place → GivesAllowed (asked l.all l.circuit) l.self (word_of (size_of (asked l.all l.circuit)).inputs (256 * l.block + k))
