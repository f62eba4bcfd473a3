use Rattle.rv_perm.proofs.inside.CellLemmas.{IsSending}
use Rattle.rv_perm.proofs.write.put_numbers.Given as goal

abbrev pub invariant-loop-x : goal.invariant-loop-x
invariant-loop-x g l = IsSending l.initial.writer (g.O.Sink.view l.initial.sink) l.perm.images l.x l.column l.writer (g.O.Sink.view l.sink)
