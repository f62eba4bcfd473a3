use Rattle.std.proofs.Common.{refl}
use Rattle.rv_pairs.proofs.inside.Walking.{left_out}
use Rattle.rv_pairs.proofs.walk.Walk.leave_out.Goals as goal

pub returns-clause-stands : goal.returns-clause-stands
returns-clause-stands c = left_out c.args.lines c.args.self.now _ c.args.place c.requires.stands refl refl refl refl
