use Rattle.std.proofs.Common.{[]}
use Rattle.rv_faults.specs.Fault.{message_line, reason}
use Rattle.rv_faults.proofs.Lines.{adds_line}
use Rattle.rv_faults.proofs.message.put_message.Goals as goal

pub returns : goal.returns
returns g c =
    let base = g.E.Sink.view c.args.errs.now in
    let text = reason c.args.name.now c.args.fault in
    let all = adds_line text c.put.ensures c.put_reason.ensures c.put-2.ensures in
    c.finish.ensures base (message_line text) (all.written base [] (c.new-writer.ensures.begins base))
