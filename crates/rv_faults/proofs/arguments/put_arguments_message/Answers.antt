use Rattle.std.proofs.Common.{[]}
use Rattle.rv_faults.specs.Fault.{message_line}
use Rattle.rv_faults.specs.Arguments.{arguments_reason}
use Rattle.rv_faults.proofs.Lines.{adds_line}
use Rattle.rv_faults.proofs.arguments.put_arguments_message.Goals as goal

pub returns : goal.returns
returns g c =
    let base = g.E.Sink.view c.args.errs.now in
    let text = arguments_reason c.args.fault.now in
    let all = adds_line text c.put.ensures c.put_arguments_reason.ensures c.put-2.ensures in
    c.finish.ensures base (message_line text) (all.written base [] (c.new-writer.ensures.begins base))
