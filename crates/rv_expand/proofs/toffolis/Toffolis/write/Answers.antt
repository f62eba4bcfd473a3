use Rattle.std.proofs.Common.{ap, subst}
use Rattle.std.specs.List.{flat_map}
use Rattle.rv_io.proofs.Adding.{adds_as, adds_then}
use Rattle.rv_io.proofs.Written.{sends_added}
use Rattle.rv_expand.specs.Toffoli.{toffoli_net, toffoli_ops}
use Rattle.rv_net.specs.Op.{IsNetwork}
use Rattle.rv_qasm.specs.Text.{header, statement, text_of}
use Rattle.rv_qasm.proofs.inside.ReadBack.{read-back}
use Rattle.rv_expand.proofs.toffolis.Toffolis.write.Goals as goal

pub returns-clause-sent : goal.returns-clause-sent
unfolding text_of
returns-clause-sent g c =
    let start = adds_as (ap header c.line_count-lines.ensures.value) c.put_header.ensures in
    let rest = adds_as (ap (λ gates. flat_map statement (toffoli_ops gates)) c.gates.ensures) c.put_toffolis.ensures in
    rw (← c.self.view_is) (sends_added (text_of (toffoli_net c.self.inside.circuit)) c.finish.result c.new-writer.ensures.empty (adds_then start rest) c.finish.ensures)

pub returns-clause-read_back : goal.returns-clause-read_back
returns-clause-read_back g c = read-back c.args.self.now (subst IsNetwork c.self.view_is c.self.invariant)
