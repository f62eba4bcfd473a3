use Rattle.rv_gate.proofs.NameLemmas.{length-numbered}
use Rattle.rv_qasm.proofs.back.circuit_of.Goals as goal

pub add_gates-requires-clause-fits : goal.add_gates-requires-clause-fits
add_gates-requires-clause-fits c = rw (c.in_ok-circuit.ensures, length-numbered 120 c.args.lines) c.requires.fits
