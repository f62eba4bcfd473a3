use Rattle.std.proofs.Common.{◌≡◌, ℕ, cond, map}
use Rattle.std.specs.List.{range_with_len}
use Rattle.rv_dbs.specs.Singles.{is_changed}
use Rattle.rv_dbs.proofs.values.changes.Given as goal

abbrev pub invariant-loop-x : goal.invariant-loop-x
invariant-loop-x l = l.values.items ≡ map (λ v. cond {A = ℕ} (is_changed l.perm.images v) 1 0) (range_with_len 0 l.x)
