use Rattle.std.proofs.Common.{ℕ, ◌≡◌, ◌<◌, [], All, get_or, length}
use Rattle.rv_many.specs.Column.{column}
use Rattle.rv_perm.specs.Perm.{permuted}
use Rattle.rv_compare.proofs.perm.permute.Given as goal

abbrev pub invariant-loop-place : goal.invariant-loop-place
invariant-loop-place l = record {
  lines : All (λ word. length word ≡ l.perm.lines) l.words;
  images : (k : ℕ) → k < l.place → get_or l.words k [] ≡ permuted l.perm (column l.rows k);
}
