use Rattle.rv_io.proofs.Written.{writes_sent}
use Rattle.rv_io.proofs.writer.send.Goals as goal

pub returns-else-failed : goal.returns-else-failed
returns-else-failed g c = λ base text writes.
    rw c.is_err.ensures.value (writes_sent base (g.O.Sink.view c.args.sink.now) (g.O.Sink.view c.put_all.new.sink) text c.args.bytes.now c.put_all.result (rw c.if-failed.false at writes) c.put_all.ensures)
