use Rattle.std.proofs.Common.{◌+◌, Err, ap, arith, ◌∙◌}
use Rattle.rv_faults.specs.Fault.{unmade_by}
use Rattle.rv_inputs.specs.Formats.{logic}
use Rattle.rv_cmd.specs.declared.product.Product.TheVariants.{Circuit}
use Rattle.rv_cmd.specs.Commands.Compute.{EndsInVain, IsComputation, compute_limits}
use Rattle.rv_cmd.proofs.Laws.Compute.{compute-answers, compute-cramped, compute-refuses}
use Rattle.rv_cmd.proofs.inside.Made.{finds-one, finds-unread}
use Rattle.rv_cmd.proofs.commands.compute.computed.Goals as goal

pub returns-in-Ok-circuit_for : goal.returns-in-Ok-circuit_for
returns-in-Ok-circuit_for g c =
    let most = c.args.options.lines in
    let e = c.in-Ok-circuit_for.ensures in
    finds-one logic (compute_limits most) (EndsInVain most) (IsComputation most) c.args.name.now (g.F.Files.view c.args.files.now)
    (g.F.Files.view c.read_one.new.files) c.in-Ok.network (Circuit c.in-Ok-circuit_for.circuit) c.alike.result c.alike.ensures
    c.read_one.ensures.keeps c.in-Ok.ensures.read
    (compute-answers most c.in-Ok.network c.in-Ok-circuit_for.circuit c.recall_invariant.ensures e.computed e.gives e.lines
    (omega (arith, c.if-ends-from.false, c.input_count.ensures.value, c.output_count.ensures.value, c.from.ensures)))

pub returns-in-Ok : goal.returns-in-Ok
returns-in-Ok g c =
    let e = c.in-Err-circuit_for.ensures in
    compute-refuses c.args.options.lines c.in-Ok.network (IsComputation c.args.options.lines) c.in-Err-circuit_for.fault c.args.name.now (g.F.Files.view c.args.files.now)
    (g.F.Files.view c.read_one.new.files) c.unmade-in-Err-circuit_for.result (λ found is. e.too_many_lines found (ap Err is))
    (λ is. e.too_many_gates (ap Err is))
    (omega (arith, c.if-ends-from.false, c.input_count.ensures.value, c.output_count.ensures.value, c.from.ensures))
    (c.unmade-in-Err-circuit_for.ensures ∙ ap unmade_by c.in_vain.ensures) c.read_one.ensures.keeps c.in-Ok.ensures.read

pub returns-then-ends-from : goal.returns-then-ends-from
returns-then-ends-from g c =
    compute-cramped c.args.options.lines c.in-Ok.network (IsComputation c.args.options.lines) c.args.name.now (g.F.Files.view c.args.files.now) (g.F.Files.view c.read_one.new.files)
    (c.input_count.result + c.output_count.result) c.unmade.result (omega (arith, c.input_count.ensures.value, c.output_count.ensures.value))
    (omega (arith, c.if-ends-from.true, c.from.ensures)) (c.unmade.ensures ∙ ap unmade_by c.cramped.ensures) c.read_one.ensures.keeps c.in-Ok.ensures.read

pub returns : goal.returns
returns g c =
    let most = c.args.options.lines in
    finds-unread logic (compute_limits most) (EndsInVain most) (IsComputation most) c.args.name.now (g.F.Files.view c.args.files.now)
    (g.F.Files.view c.read_one.new.files) c.in-Err.unmade c.read_one.ensures.keeps c.in-Err.ensures.unread
