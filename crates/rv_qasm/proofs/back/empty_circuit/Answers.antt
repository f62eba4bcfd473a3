use Rattle.rv_gate.proofs.NameLemmas.{length-numbered}
use Rattle.rv_qasm.proofs.back.empty_circuit.Goals as goal

pub new-requires : goal.new-requires
new-requires c = rw (c.in_ok-names.ensures, length-numbered 120 c.args.lines) c.requires.some
