use Rattle.std.proofs.Common.{sym}
use Rattle.rv_qasm.proofs.BackLaws.{moves}
use Rattle.rv_qasm.proofs.back.add_gate.Goals as goal

pub push-requires : goal.push-requires
push-requires c = (moves c.args.op _ c.requires.fits c.in-Some.gate (sym c.in-Some.ensures)).fits
