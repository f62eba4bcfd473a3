use Rattle.std.proofs.Common.{subst}
use Rattle.rv_net.specs.Op.{OpFitsIn}
use Rattle.rv_net.specs.declared.op.Op.TheVariants.{Cz}
use Rattle.rv_check.proofs.inside.Usual.{cz_done}
use Rattle.rv_check.proofs.dense.go.Goals as goal

pub returns-in-Cz : goal.returns-in-Cz
returns-in-Cz c = λ f is.
    let a = c.in-Cz.a in
    let b = c.in-Cz.b in
    let fits : OpFitsIn (Cz a b) c.args.lines = subst (λ o. OpFitsIn o c.args.lines) c.in-Cz.is c.requires.fits in
    cz_done c.args.lines a b c.place_bit.result c.place_bit-in-Cz.result c.args.op f c.turn.new.values c.in-Cz.is fits c.place_bit.ensures c.place_bit-in-Cz.ensures (c.turn.ensures c.args.lines f is)
