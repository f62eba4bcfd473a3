use Rattle.std.proofs.Common.{[], ap, subst, sym}
use Rattle.std.specs.List.{flat_map}
use Rattle.rv_io.proofs.Adding.{adds_as}
use Rattle.rv_net.specs.declared.op.Op.TheVariants.{X}
use Rattle.rv_qasm.specs.Text.{statement}
use Rattle.rv_expand.proofs.Fitting.{AllFit, head_fits}
use Rattle.rv_expand.proofs.Statements.{adds_one, wants_zero}
use Rattle.rv_expand.proofs.write.put_on_zero.Goals as goal

pub put_statement-requires-clause-fits : goal.put_statement-requires-clause-fits
put_statement-requires-clause-fits g c =
    head_fits c.args.lines (X c.args.control.line) [] (subst (AllFit c.args.lines) (sym (wants_zero c.args.control c.if-not-control.true)) c.requires.fit)

pub returns-then-not-control : goal.returns-then-not-control
returns-then-not-control g c =
    adds_as (ap (flat_map statement) (wants_zero c.args.control c.if-not-control.true)) (adds_one (X c.args.control.line) c.put_statement.ensures)
