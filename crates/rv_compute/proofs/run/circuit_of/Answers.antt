use Rattle.rv_compute.proofs.inside.Computed.{computed}
use Rattle.rv_compute.proofs.inside.Ends.{ends_computing}
use Rattle.rv_compute.proofs.run.circuit_of.Goals as goal

pub returns : goal.returns
returns c =
    let ended = c.requires.ended in
    let logic = c.args.logic.now in
    computed logic c.args.extra c.in_ok-circuit.circuit c.args.gates.items c.in_ok-circuit.ensures
    (ends_computing logic c.args.extra ended.held c.args.gates.items ended.stands ended.done)
