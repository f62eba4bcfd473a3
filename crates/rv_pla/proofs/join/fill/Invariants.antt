use Rattle.std.proofs.Common.{◌≡◌, ◌<◌, ℕ, get_or, cond}
use Rattle.rv_pla.specs.inside.Table.{agrees_by}
use Rattle.rv_pla.proofs.join.fill.Given as goal

abbrev pub invariant-loop-x : goal.invariant-loop-x
invariant-loop-x l = (k : ℕ) → k < l.x → get_or l.block k 0 ≡ cond (agrees_by k l.care l.want) l.outs 0
