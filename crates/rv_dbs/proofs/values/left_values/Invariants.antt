use Rattle.std.proofs.Common.{◌≡◌, ℕ, cond, map}
use Rattle.std.specs.List.{range_with_len}
use Rattle.rv_dbs.specs.Walk.{left}
use Rattle.rv_dbs.proofs.values.left_values.Given as goal

abbrev pub invariant-loop-x : goal.invariant-loop-x
invariant-loop-x l = l.values.items ≡ map (λ v. cond {A = ℕ} (left l.perm.lines l.k l.perm.images v) 1 0) (range_with_len 0 l.x)
