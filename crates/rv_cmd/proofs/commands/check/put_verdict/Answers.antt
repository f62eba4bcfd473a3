use Rattle.rv_io.proofs.Adding.{adds_then}
use Rattle.rv_io.proofs.Written.{sends_added}
use Rattle.rv_cmd.specs.Commands.Check.{verdict_text}
use Rattle.rv_cmd.proofs.commands.check.put_verdict.Goals as goal

pub returns : goal.returns
returns g c =
    sends_added (verdict_text c.args.lines c.args.verdict) c.finish.result c.new-writer.ensures.empty (adds_then c.put_said.ensures c.put.ensures) c.finish.ensures
