use Rattle.std.proofs.Common.{◌≡◌, ◌++◌}
use Rattle.rv_embed.proofs.CompleteLemmas.{Marked, lacking}
use Rattle.rv_embed.proofs.complete.completed.Given as goal

abbrev pub invariant-loop-x : goal.invariant-loop-x
invariant-loop-x l = Marked l.x-items l.stands.items l.count l.x-index

abbrev pub invariant-loop-y : goal.invariant-loop-y
invariant-loop-y l = l.list.items ≡ l.initial.list.items ++ lacking l.initial.list.items l.y
