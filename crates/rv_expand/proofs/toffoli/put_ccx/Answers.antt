use Rattle.std.proofs.Common.{◌∷◌, ◌++◌}
use Rattle.rv_net.specs.Network.{on_zero}
use Rattle.rv_net.specs.declared.op.Op.TheVariants.{Ccx}
use Rattle.rv_expand.specs.Toffoli.{flip_op}
use Rattle.rv_expand.proofs.Fitting.{head_fits, left_fits, right_fits}
use Rattle.rv_expand.proofs.Statements.{adds_op, adds_ops}
use Rattle.rv_expand.proofs.toffoli.put_ccx.Goals as goal

pub put_on_zero-requires-clause-fit : goal.put_on_zero-requires-clause-fit
unfolding flip_op
put_on_zero-requires-clause-fit g c =
    let a = on_zero c.args.a in
    let b = on_zero c.args.b in
    let flip = Ccx c.args.a.line c.args.b.line c.args.target in
    left_fits c.args.lines a b (left_fits c.args.lines (a ++ b) (flip ∷ (a ++ b)) c.requires.fit)

pub put_on_zero-requires-2-clause-fit : goal.put_on_zero-requires-2-clause-fit
unfolding flip_op
put_on_zero-requires-2-clause-fit g c =
    let a = on_zero c.args.a in
    let b = on_zero c.args.b in
    let flip = Ccx c.args.a.line c.args.b.line c.args.target in
    right_fits c.args.lines a b (left_fits c.args.lines (a ++ b) (flip ∷ (a ++ b)) c.requires.fit)

pub put_statement-requires-clause-fits : goal.put_statement-requires-clause-fits
unfolding flip_op
put_statement-requires-clause-fits g c =
    let a = on_zero c.args.a in
    let b = on_zero c.args.b in
    let flip = Ccx c.args.a.line c.args.b.line c.args.target in
    head_fits c.args.lines flip (a ++ b) (right_fits c.args.lines (a ++ b) (flip ∷ (a ++ b)) c.requires.fit)

pub put_on_zero-requires-3-clause-fit : goal.put_on_zero-requires-3-clause-fit
unfolding flip_op
put_on_zero-requires-3-clause-fit g c =
    let a = on_zero c.args.a in
    let b = on_zero c.args.b in
    let flip = Ccx c.args.a.line c.args.b.line c.args.target in
    left_fits c.args.lines a b (left_fits c.args.lines (a ++ b) (flip ∷ (a ++ b)) c.requires.fit)

pub put_on_zero-requires-4-clause-fit : goal.put_on_zero-requires-4-clause-fit
unfolding flip_op
put_on_zero-requires-4-clause-fit g c =
    let a = on_zero c.args.a in
    let b = on_zero c.args.b in
    let flip = Ccx c.args.a.line c.args.b.line c.args.target in
    right_fits c.args.lines a b (left_fits c.args.lines (a ++ b) (flip ∷ (a ++ b)) c.requires.fit)

pub returns : goal.returns
unfolding flip_op
returns g c =
    let a = on_zero c.args.a in
    let b = on_zero c.args.b in
    let flip = Ccx c.args.a.line c.args.b.line c.args.target in
    let before = adds_ops a b c.put_on_zero.ensures c.put_on_zero-2.ensures in
    let after = adds_ops a b c.put_on_zero-3.ensures c.put_on_zero-4.ensures in
    adds_ops (a ++ b) (flip ∷ (a ++ b)) before (adds_op flip (a ++ b) c.put_statement.ensures after)
