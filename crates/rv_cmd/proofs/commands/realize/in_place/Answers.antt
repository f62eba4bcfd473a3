use Rattle.std.proofs.Common.{Err, ap, ◌∙◌}
use Rattle.rv_faults.specs.Fault.{unmade_by}
use Rattle.rv_inputs.specs.Formats.{permutation}
use Rattle.rv_cmd.specs.declared.product.Product.TheVariants.{Circuit}
use Rattle.rv_cmd.specs.Commands.Realize.{IsRealizedInPlace, in_place_limits}
use Rattle.rv_cmd.specs.Row.{always}
use Rattle.rv_cmd.proofs.Laws.Realize.{in_place-answers, in_place-refuses}
use Rattle.rv_cmd.proofs.inside.Made.{finds-one, finds-unread}
use Rattle.rv_cmd.proofs.commands.realize.in_place.Goals as goal

pub returns-in-Ok-realize_perm : goal.returns-in-Ok-realize_perm
returns-in-Ok-realize_perm g c =
    let most = c.args.options.lines in
    let e = c.in-Ok-realize_perm.ensures in
    finds-one permutation (in_place_limits most) always IsRealizedInPlace c.args.name.now (g.F.Files.view c.args.files.now)
    (g.F.Files.view c.read_one.new.files) c.in-Ok.spec (Circuit c.in-Ok-realize_perm.circuit) c.alike.result c.alike.ensures
    c.read_one.ensures.keeps c.in-Ok.ensures.read
    (in_place-answers most c.in-Ok.spec c.in-Ok-realize_perm.circuit c.recall_invariant.ensures e.lines e.in_place)

pub returns-in-Ok : goal.returns-in-Ok
returns-in-Ok g c =
    let e = c.in-Err-realize_perm.ensures in
    in_place-refuses c.args.options.lines c.in-Ok.spec c.in-Err-realize_perm.fault c.args.name.now (g.F.Files.view c.args.files.now)
    (g.F.Files.view c.read_one.new.files) c.unmade.result (λ count is. e.too_many_lines count (ap Err is)) (λ is. e.few_gates (ap Err is))
    (c.unmade.ensures ∙ ap unmade_by c.in_vain.ensures) c.read_one.ensures.keeps c.in-Ok.ensures.read

pub returns : goal.returns
returns g c =
    let most = c.args.options.lines in
    finds-unread permutation (in_place_limits most) always IsRealizedInPlace c.args.name.now (g.F.Files.view c.args.files.now)
    (g.F.Files.view c.read_one.new.files) c.in-Err.unmade c.read_one.ensures.keeps c.in-Err.ensures.unread
