use Rattle.std.proofs.Common.{ap}
use Rattle.std.specs.List.{flat_map}
use Rattle.rv_io.proofs.Adding.{adds_as, adds_then}
use Rattle.rv_io.proofs.Written.{sends_added}
use Rattle.rv_qasm.specs.Text.{header, statement, text_of}
use Rattle.rv_qasm.proofs.inside.ReadBack.{read-back}
use Rattle.rv_qasm.proofs.write.write_qasm.Goals as goal

pub returns-clause-sent : goal.returns-clause-sent
unfolding text_of
returns-clause-sent g c =
    let start = adds_as (ap header c.lines.ensures.value) c.put_header.ensures in
    let rest = adds_as (ap (flat_map statement) c.ops.ensures) c.put_ops.ensures in
    sends_added (text_of c.args.net.now) c.finish.result c.new-writer.ensures.empty (adds_then start rest) c.finish.ensures

pub returns-clause-read_back : goal.returns-clause-read_back
returns-clause-read_back g c = read-back c.args.net.now c.lines.ensures.valid
