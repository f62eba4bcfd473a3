use Rattle.rv_qasm.proofs.Cut.{AreCut-statements}
use Rattle.rv_qasm.proofs.Denoted.{IsDenoted-qasm_of}
use Rattle.rv_net.proofs.Matrix.{product_everywhere}
use Rattle.rv_qasm.proofs.program.Program.net.Goals as goal

pub returns-clause-product : goal.returns-clause-product
returns-clause-product c = product_everywhere c.args.self.now.net.ops

pub returns-clause-denoted : goal.returns-clause-denoted
returns-clause-denoted c = IsDenoted-qasm_of

pub returns-clause-cut : goal.returns-clause-cut
returns-clause-cut c = AreCut-statements
