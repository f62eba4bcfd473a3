use Rattle.std.proofs.Common.{◌+◌, Err, ap, arith, ◌∙◌}
use Rattle.rv_faults.specs.Fault.{unmade_by}
use Rattle.rv_inputs.specs.Formats.{logic}
use Rattle.rv_cmd.specs.declared.product.Product.TheVariants.{Curve}
use Rattle.rv_cmd.specs.Commands.Compute.{EndsInVain, IsCurve, compute_limits}
use Rattle.rv_cmd.proofs.Laws.Compute.{compute-cramped, compute-refuses, curve-answers}
use Rattle.rv_cmd.proofs.inside.Made.{finds-one, finds-unread}
use Rattle.rv_cmd.proofs.commands.compute.on_more.Goals as goal

pub returns-in-Ok-curve_for : goal.returns-in-Ok-curve_for
returns-in-Ok-curve_for g c =
    let options = c.args.options in
    finds-one logic (compute_limits options.lines) (EndsInVain options.lines) (IsCurve options.goal options.effort options.seed options.lines) c.args.name.now
    (g.F.Files.view c.args.files.now) (g.F.Files.view c.read_one.new.files) c.in-Ok.network (Curve c.in-Ok-curve_for.curve) c.alike.result
    c.alike.ensures c.read_one.ensures.keeps c.in-Ok.ensures.read
    (curve-answers options.lines c.in-Ok.network options.goal options.effort options.seed c.in-Ok-curve_for.curve c.in-Ok-curve_for.ensures.curve
    (omega (arith, c.if-ends-from.false, c.input_count.ensures.value, c.output_count.ensures.value, c.from.ensures)))

pub returns-in-Ok : goal.returns-in-Ok
returns-in-Ok g c =
    let e = c.in-Err-curve_for.ensures in
    let options = c.args.options in
    compute-refuses options.lines c.in-Ok.network (IsCurve options.goal options.effort options.seed options.lines) c.in-Err-curve_for.fault c.args.name.now
    (g.F.Files.view c.args.files.now) (g.F.Files.view c.read_one.new.files) c.unmade-in-Err-curve_for.result (λ found is. e.too_many_lines found (ap Err is))
    (λ is. e.too_many_gates (ap Err is))
    (omega (arith, c.if-ends-from.false, c.input_count.ensures.value, c.output_count.ensures.value, c.from.ensures))
    (c.unmade-in-Err-curve_for.ensures ∙ ap unmade_by c.in_vain.ensures) c.read_one.ensures.keeps c.in-Ok.ensures.read

pub returns-then-ends-from : goal.returns-then-ends-from
returns-then-ends-from g c =
    let options = c.args.options in
    compute-cramped options.lines c.in-Ok.network (IsCurve options.goal options.effort options.seed options.lines) c.args.name.now (g.F.Files.view c.args.files.now)
    (g.F.Files.view c.read_one.new.files) (c.input_count.result + c.output_count.result) c.unmade.result
    (omega (arith, c.input_count.ensures.value, c.output_count.ensures.value)) (omega (arith, c.if-ends-from.true, c.from.ensures))
    (c.unmade.ensures ∙ ap unmade_by c.cramped.ensures) c.read_one.ensures.keeps c.in-Ok.ensures.read

pub returns : goal.returns
returns g c =
    let options = c.args.options in
    finds-unread logic (compute_limits options.lines) (EndsInVain options.lines) (IsCurve options.goal options.effort options.seed options.lines) c.args.name.now
    (g.F.Files.view c.args.files.now) (g.F.Files.view c.read_one.new.files) c.in-Err.unmade c.read_one.ensures.keeps c.in-Err.ensures.unread
