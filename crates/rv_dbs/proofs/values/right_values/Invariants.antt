use Rattle.std.proofs.Common.{◌≡◌, ℕ, cond, map}
use Rattle.std.specs.List.{range_with_len}
use Rattle.rv_dbs.specs.Walk.{right}
use Rattle.rv_dbs.proofs.values.right_values.Given as goal

abbrev pub invariant-loop-y : goal.invariant-loop-y
invariant-loop-y l = l.values.items ≡ map (λ v. cond {A = ℕ} (right l.perm.lines l.k l.perm.images v) 1 0) (range_with_len 0 l.y)
