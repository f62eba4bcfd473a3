use Rattle.std.proofs.Common.{Err, ap, ◌∙◌}
use Rattle.rv_faults.specs.Fault.{unmade_by}
use Rattle.rv_inputs.specs.Formats.{permutation}
use Rattle.rv_cmd.specs.declared.product.Product.TheVariants.{Circuit}
use Rattle.rv_cmd.specs.Commands.Optimal.{EndsInVain, IsOptimalSynthesis, optimal_limits}
use Rattle.rv_cmd.proofs.Laws.Optimal.{optimal-answers, optimal-refuses}
use Rattle.rv_cmd.proofs.inside.Made.{finds-one, finds-unread}
use Rattle.rv_cmd.proofs.commands.optimal.found.Goals as goal

pub returns-in-Ok-circuit_for : goal.returns-in-Ok-circuit_for
returns-in-Ok-circuit_for g c =
    let library = c.args.library in
    let e = c.in-Ok-circuit_for.ensures in
    finds-one permutation optimal_limits (EndsInVain library) (IsOptimalSynthesis library) c.args.name.now (g.F.Files.view c.args.files.now)
    (g.F.Files.view c.read_one.new.files) c.in-Ok.spec (Circuit c.in-Ok-circuit_for.circuit) c.alike.result c.alike.ensures
    c.read_one.ensures.keeps c.in-Ok.ensures.read
    (optimal-answers library c.in-Ok.spec c.in-Ok-circuit_for.circuit c.recall_invariant.ensures e.few e.found)

pub returns-in-Ok : goal.returns-in-Ok
returns-in-Ok g c =
    let e = c.in-Err-circuit_for.ensures in
    optimal-refuses c.args.library c.in-Ok.spec c.in-Err-circuit_for.fault c.args.name.now (g.F.Files.view c.args.files.now)
    (g.F.Files.view c.read_one.new.files) c.unmade.result (λ lines is. e.too_many_lines lines (ap Err is)) (λ most is. e.more_gates most (ap Err is))
    (c.unmade.ensures ∙ ap unmade_by c.in_vain.ensures) c.read_one.ensures.keeps c.in-Ok.ensures.read

pub returns : goal.returns
returns g c =
    let library = c.args.library in
    finds-unread permutation optimal_limits (EndsInVain library) (IsOptimalSynthesis library) c.args.name.now (g.F.Files.view c.args.files.now)
    (g.F.Files.view c.read_one.new.files) c.in-Err.unmade c.read_one.ensures.keeps c.in-Err.ensures.unread
