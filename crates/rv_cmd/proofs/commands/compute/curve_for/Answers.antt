use Rattle.std.proofs.Common.{◌∙◌, ap, map}
use Rattle.rv_curve.specs.Report.{curve_text}
use Rattle.rv_curve.specs.declared.report.Search.TheVariants.{Compute}
use Rattle.rv_cmd.specs.Commands.Compute.{row_at}
use Rattle.rv_cmd.proofs.commands.compute.curve_for.Goals as goal

pub returns-in_ok-rows_of-in-Ok-clause-curve : goal.returns-in_ok-rows_of-in-Ok-clause-curve
returns-in_ok-rows_of-in-Ok-clause-curve c =
    let e = c.in-Ok.ensures in
    let options = c.args.options in record {
      points = c.in-Ok.points.items;
      is = ap (curve_text Compute options.goal options.seed) (c.in_ok-rows_of-in-Ok.ensures ∙ ap (map (row_at options.effort)) c.deref.ensures.value);
      some = e.some;
      computed = e.computed;
      rising = e.rising;
    }
