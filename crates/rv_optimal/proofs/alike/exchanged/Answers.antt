use Rattle.rv_many.proofs.inside.Squares.{exchanged_bit}
use Rattle.rv_optimal.proofs.alike.exchanged.Goals as goal

pub returns : goal.returns
returns c place lt = exchanged_bit c.args.bits c.args.mask c.args.apart place c.requires.none_twice lt
