use Rattle.std.proofs.Common.{[]}
use Rattle.rv_io.proofs.Adding.{adds_then, adds_as}
use Rattle.rv_real.proofs.Headers.{text_of-parts}
use Rattle.rv_real.proofs.inside.ReadBack.{read_back}
use Rattle.rv_real.specs.Text.{text_of}
use Rattle.rv_real.proofs.write.write_real.Goals as goal

pub returns-clause-sends : goal.returns-clause-sends
returns-clause-sends g c =
    let base = g.O.Sink.view c.args.sink.now in
    let all = adds_as (text_of-parts c.args.circuit.now) (adds_then c.put_header.ensures (adds_then c.put_gates.ensures c.put.ensures)) in
    c.finish.ensures base (text_of c.args.circuit.now) (all.written base [] (c.new-writer.ensures.begins base))

pub returns-clause-back : goal.returns-clause-back
returns-clause-back g c = read_back c.args.circuit.now c.recall_invariant.ensures
