use Rattle.rv_io.proofs.Adding.{adds_then}
use Rattle.rv_io.proofs.Written.{sends_added}
use Rattle.rv_cmd.specs.Commands.Check.{witness_text}
use Rattle.rv_cmd.proofs.commands.check.put_witness.Goals as goal

pub returns : goal.returns
returns g c =
    sends_added (witness_text c.args.lines c.args.word) c.finish.result c.new-writer.ensures.empty
    (adds_then c.put.ensures (adds_then c.put_bits.ensures c.put-2.ensures)) c.finish.ensures
