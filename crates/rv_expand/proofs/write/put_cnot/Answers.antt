use Rattle.std.proofs.Common.{◌∷◌}
use Rattle.rv_net.specs.Network.{flip_ops, on_zero}
use Rattle.rv_net.specs.declared.op.Op.TheVariants.{Cx}
use Rattle.rv_expand.proofs.Fitting.{head_fits, left_fits, right_fits}
use Rattle.rv_expand.proofs.Statements.{adds_op, adds_ops}
use Rattle.rv_expand.proofs.write.put_cnot.Goals as goal

pub put_on_zero-requires-clause-fit : goal.put_on_zero-requires-clause-fit
unfolding flip_ops
put_on_zero-requires-clause-fit g c =
    let a = on_zero c.args.a in
    left_fits c.args.lines a (Cx c.args.a.line c.args.target ∷ a) c.requires.fit

pub put_statement-requires-clause-fits : goal.put_statement-requires-clause-fits
unfolding flip_ops
put_statement-requires-clause-fits g c =
    let a = on_zero c.args.a in
    let flip = Cx c.args.a.line c.args.target in
    head_fits c.args.lines flip a (right_fits c.args.lines a (flip ∷ a) c.requires.fit)

pub put_on_zero-requires-2-clause-fit : goal.put_on_zero-requires-2-clause-fit
unfolding flip_ops
put_on_zero-requires-2-clause-fit g c =
    let a = on_zero c.args.a in
    left_fits c.args.lines a (Cx c.args.a.line c.args.target ∷ a) c.requires.fit

pub returns : goal.returns
unfolding flip_ops
returns g c =
    let a = on_zero c.args.a in
    let flip = Cx c.args.a.line c.args.target in
    adds_ops a (flip ∷ a) c.put_on_zero.ensures (adds_op flip a c.put_statement.ensures c.put_on_zero-2.ensures)
