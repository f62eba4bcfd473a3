use Rattle.rv_faults.proofs.Bits.{IsPutting}
use Rattle.rv_faults.proofs.message.put_bits.Given as goal

abbrev pub invariant-loop-left : goal.invariant-loop-left
invariant-loop-left g l = IsPutting l.initial.writer (g.E.Sink.view l.initial.errs) l.count l.word l.left l.writer (g.E.Sink.view l.errs)

abbrev pub decreases-loop-left : goal.decreases-loop-left
decreases-loop-left g l = l.left
