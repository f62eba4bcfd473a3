use Rattle.std.proofs.Common.{Err, ap, ◌∙◌}
use Rattle.rv_faults.specs.Fault.{unmade_by}
use Rattle.rv_inputs.specs.Formats.{table}
use Rattle.rv_cmd.specs.declared.product.Product.TheVariants.{Curve}
use Rattle.rv_cmd.specs.Commands.Realize.{EndsInVain, IsCurve, realize_limits}
use Rattle.rv_cmd.proofs.Laws.Realize.{curve-answers, realize-refuses}
use Rattle.rv_cmd.proofs.inside.Made.{finds-one, finds-unread}
use Rattle.rv_cmd.proofs.commands.realize.on_more.Goals as goal

pub returns-in-Ok-curve_for : goal.returns-in-Ok-curve_for
returns-in-Ok-curve_for g c =
    let options = c.args.options in
    finds-one table realize_limits (EndsInVain options.lines) (IsCurve options.goal options.seed options.lines) c.args.name.now
    (g.F.Files.view c.args.files.now) (g.F.Files.view c.read_one.new.files) c.in-Ok.pla (Curve c.in-Ok-curve_for.curve) c.alike.result
    c.alike.ensures c.read_one.ensures.keeps c.in-Ok.ensures.read
    (curve-answers options.lines c.in-Ok.pla options.goal options.seed c.in-Ok-curve_for.curve c.in-Ok-curve_for.ensures.curve)

pub returns-in-Ok : goal.returns-in-Ok
returns-in-Ok g c =
    let e = c.in-Err-curve_for.ensures in
    let options = c.args.options in
    realize-refuses options.lines c.in-Ok.pla (IsCurve options.goal options.seed options.lines) c.in-Err-curve_for.fault c.args.name.now
    (g.F.Files.view c.args.files.now) (g.F.Files.view c.read_one.new.files) c.unmade.result (λ count is. e.too_many_lines count (ap Err is))
    (λ is. e.too_many_gates (ap Err is)) (c.unmade.ensures ∙ ap unmade_by c.in_vain.ensures) c.read_one.ensures.keeps c.in-Ok.ensures.read

pub returns : goal.returns
returns g c =
    let options = c.args.options in
    finds-unread table realize_limits (EndsInVain options.lines) (IsCurve options.goal options.seed options.lines) c.args.name.now
    (g.F.Files.view c.args.files.now) (g.F.Files.view c.read_one.new.files) c.in-Err.unmade c.read_one.ensures.keeps c.in-Err.ensures.unread
