use Rattle.std.proofs.Common.{ℕ, ◌<◌, ◌^◌, get_or}
use Rattle.rv_optimal.proofs.inside.Ahead.{NoneLeads}
use Rattle.rv_optimal.proofs.search.last_gate.Given as goal

abbrev pub invariant-loop-key : goal.invariant-loop-key
invariant-loop-key l = (k : ℕ) → k < l.key-index → NoneLeads l.alike (2 ^ l.perm.lines) l.moves l.front (get_or l.back k 0)
