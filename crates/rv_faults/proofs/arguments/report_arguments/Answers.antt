use Rattle.rv_faults.specs.Fault.{message_line}
use Rattle.rv_faults.specs.Arguments.{arguments_reason}
use Rattle.rv_faults.proofs.Lines.{reports_sent}
use Rattle.rv_faults.proofs.arguments.report_arguments.Goals as goal

pub returns-in-Ok-clause-reports : goal.returns-in-Ok-clause-reports
returns-in-Ok-clause-reports g c =
    reports_sent (message_line (arguments_reason c.args.fault.now)) (g.E.Sink.view c.args.errs.now) (g.E.Sink.view c.put_arguments_message.new.errs) (g.E.Sink.view c.flush.new.self) c.flush.result
    c.in-Ok.ensures.later c.in-Ok.ensures.sent c.flush.ensures.flushes
