use Rattle.rv_simulate.proofs.inside.Filling.{HasOutputs}
use Rattle.rv_simulate.proofs.answers.outputs.Given as goal

abbrev pub invariant-loop-line : goal.invariant-loop-line
invariant-loop-line l = HasOutputs l.circuit.garbage l.word l.line l.number l.count
