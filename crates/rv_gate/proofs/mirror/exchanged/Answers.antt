use Rattle.rv_gate.proofs.inside.Mirrors.{exchanged_bit}
use Rattle.rv_gate.proofs.mirror.exchanged.Goals as goal

pub returns : goal.returns
returns c place lt = exchanged_bit c.args.bits c.args.mask c.args.apart place c.requires.pairs lt
