use Rattle.std.proofs.Common.{◌<◌, arith}
use Rattle.std.proofs.lemmas.Bool.{eqb-true, false_from_ne_true}
use Rattle.rv_gate.proofs.LineSets.{Within-shr}
use Rattle.rv_templ.proofs.search.is_past.Goals as goal

pub returns-then-mine-clause-past : goal.returns-then-mine-clause-past
returns-then-mine-clause-past c on u from =
    false_from_ne_true _ (λ there.
    let below : u < c.args.v = Within-shr c.args.touched c.args.v (eqb-true _ 0 on) u there in
    omega (arith, from))
