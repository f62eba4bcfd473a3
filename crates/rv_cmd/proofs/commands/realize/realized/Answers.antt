use Rattle.std.proofs.Common.{Err, ap, ◌∙◌}
use Rattle.rv_faults.specs.Fault.{unmade_by}
use Rattle.rv_inputs.specs.Formats.{table}
use Rattle.rv_cmd.specs.declared.product.Product.TheVariants.{Circuit}
use Rattle.rv_cmd.specs.Commands.Realize.{EndsInVain, IsRealization, realize_limits}
use Rattle.rv_cmd.proofs.Laws.Realize.{realize-answers, realize-refuses}
use Rattle.rv_cmd.proofs.inside.Made.{finds-one, finds-unread}
use Rattle.rv_cmd.proofs.commands.realize.realized.Goals as goal

pub returns-in-Ok-circuit_for : goal.returns-in-Ok-circuit_for
returns-in-Ok-circuit_for g c =
    let most = c.args.options.lines in
    let e = c.in-Ok-circuit_for.ensures in
    finds-one table realize_limits (EndsInVain most) (IsRealization most) c.args.name.now (g.F.Files.view c.args.files.now)
    (g.F.Files.view c.read_one.new.files) c.in-Ok.pla (Circuit c.in-Ok-circuit_for.circuit) c.alike.result c.alike.ensures
    c.read_one.ensures.keeps c.in-Ok.ensures.read
    (realize-answers most c.in-Ok.pla c.in-Ok-circuit_for.circuit c.recall_invariant.ensures (record { realizes = e.realizes; lines = e.lines }))

pub returns-in-Ok : goal.returns-in-Ok
returns-in-Ok g c =
    let e = c.in-Err-circuit_for.ensures in
    realize-refuses c.args.options.lines c.in-Ok.pla (IsRealization c.args.options.lines) c.in-Err-circuit_for.fault c.args.name.now (g.F.Files.view c.args.files.now)
    (g.F.Files.view c.read_one.new.files) c.unmade.result (λ count is. e.too_many_lines count (ap Err is)) (λ is. e.too_many_gates (ap Err is))
    (c.unmade.ensures ∙ ap unmade_by c.in_vain.ensures) c.read_one.ensures.keeps c.in-Ok.ensures.read

pub returns : goal.returns
returns g c =
    let most = c.args.options.lines in
    finds-unread table realize_limits (EndsInVain most) (IsRealization most) c.args.name.now (g.F.Files.view c.args.files.now)
    (g.F.Files.view c.read_one.new.files) c.in-Err.unmade c.read_one.ensures.keeps c.in-Err.ensures.unread
