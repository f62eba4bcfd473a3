use Rattle.std.proofs.Common.{◌++◌, ap, subst, sym}
use Rattle.std.specs.List.{flat_map}
use Rattle.rv_io.proofs.Adding.{adds_as}
use Rattle.rv_net.specs.Network.{flip_ops, on_zero, toffoli}
use Rattle.rv_qasm.specs.Text.{statement}
use Rattle.rv_expand.proofs.Fitting.{AllFit, left_fits, right_fits}
use Rattle.rv_expand.proofs.Statements.{adds_ops}
use Rattle.rv_expand.proofs.write.put_two_controls.Goals as goal

pub put_on_zero-requires-clause-fit : goal.put_on_zero-requires-clause-fit
unfolding flip_ops
put_on_zero-requires-clause-fit g c =
    let a = on_zero c.args.a in
    let b = on_zero c.args.b in
    let flip = toffoli c.args.a.line c.args.b.line c.args.target in
    left_fits c.args.lines a b (left_fits c.args.lines (a ++ b) (flip ++ (a ++ b)) c.requires.fit)

pub put_on_zero-requires-2-clause-fit : goal.put_on_zero-requires-2-clause-fit
unfolding flip_ops
put_on_zero-requires-2-clause-fit g c =
    let a = on_zero c.args.a in
    let b = on_zero c.args.b in
    let flip = toffoli c.args.a.line c.args.b.line c.args.target in
    right_fits c.args.lines a b (left_fits c.args.lines (a ++ b) (flip ++ (a ++ b)) c.requires.fit)

pub put_ops-requires-clause-fit : goal.put_ops-requires-clause-fit
unfolding flip_ops
put_ops-requires-clause-fit g c =
    let a = on_zero c.args.a in
    let b = on_zero c.args.b in
    let flip = toffoli c.args.a.line c.args.b.line c.args.target in
    subst (AllFit c.args.lines) (sym c.toffoli_ops-block.ensures) (left_fits c.args.lines flip (a ++ b) (right_fits c.args.lines (a ++ b) (flip ++ (a ++ b)) c.requires.fit))

pub put_on_zero-requires-3-clause-fit : goal.put_on_zero-requires-3-clause-fit
unfolding flip_ops
put_on_zero-requires-3-clause-fit g c =
    let a = on_zero c.args.a in
    let b = on_zero c.args.b in
    let flip = toffoli c.args.a.line c.args.b.line c.args.target in
    left_fits c.args.lines a b (left_fits c.args.lines (a ++ b) (flip ++ (a ++ b)) c.requires.fit)

pub put_on_zero-requires-4-clause-fit : goal.put_on_zero-requires-4-clause-fit
unfolding flip_ops
put_on_zero-requires-4-clause-fit g c =
    let a = on_zero c.args.a in
    let b = on_zero c.args.b in
    let flip = toffoli c.args.a.line c.args.b.line c.args.target in
    right_fits c.args.lines a b (left_fits c.args.lines (a ++ b) (flip ++ (a ++ b)) c.requires.fit)

pub returns : goal.returns
unfolding flip_ops
returns g c =
    let a = on_zero c.args.a in
    let b = on_zero c.args.b in
    let flip = toffoli c.args.a.line c.args.b.line c.args.target in
    let before = adds_ops a b c.put_on_zero.ensures c.put_on_zero-2.ensures in
    let after = adds_ops a b c.put_on_zero-3.ensures c.put_on_zero-4.ensures in
    let block = adds_as (ap (flat_map statement) c.toffoli_ops-block.ensures) c.put_ops.ensures in
    adds_ops (a ++ b) (flip ++ (a ++ b)) before (adds_ops flip (a ++ b) block after)
