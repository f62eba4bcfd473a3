use Rattle.rv_io.proofs.Adding.{adds_then}
use Rattle.rv_io.proofs.Written.{sends_added}
use Rattle.rv_cmd.specs.Commands.Compare.{comparison_text}
use Rattle.rv_cmd.proofs.commands.compare.put_comparison.Goals as goal

pub returns : goal.returns
returns g c =
    sends_added (comparison_text c.args.inputs c.args.answer) c.finish.result c.new-writer.ensures.empty (adds_then c.put_said.ensures c.put.ensures) c.finish.ensures
