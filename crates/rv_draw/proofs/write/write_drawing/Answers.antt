use Rattle.rv_draw.proofs.inside.LaidOut.{laid_out}
use Rattle.rv_draw.proofs.inside.CircuitBack.{circuit_back}
use Rattle.rv_draw.specs.Symbols.{symbol_on}
use Rattle.rv_draw.proofs.Meaning.{same_run}
use Rattle.rv_draw.proofs.write.write_drawing.Goals as goal

pub returns-clause-back : goal.returns-clause-back
returns-clause-back g c = circuit_back c.args.per_block c.args.circuit.now c.requires.some c.recall_invariant.ensures

pub returns-clause-laid_out : goal.returns-clause-laid_out
returns-clause-laid_out g c = laid_out symbol_on c.args.per_block c.args.circuit.now c.args.circuit.now.gates c.recall_invariant.ensures

pub returns-clause-means : goal.returns-clause-means
returns-clause-means g c = λ word. same_run c.args.circuit.now.gates word c.recall_invariant.ensures.valid
