use Rattle.std.proofs.Common.{[], Ok, sym, subst}
use Rattle.rv_cmd.specs.declared.product.Made.{Made}
use Rattle.rv_cmd.specs.Commands.Demo.{demo_row}
use Rattle.rv_cmd.specs.inside.Making.{Makes}
use Rattle.rv_cmd.proofs.Laws.Demo.{demo-answers}
use Rattle.rv_cmd.proofs.inside.Made.{lacks-none}
use Rattle.rv_cmd.proofs.commands.demo.demo.Goals as goal

pub returns-in-Ok : goal.returns-in-Ok
returns-in-Ok c = λ view.
    let By : Made → Type 0 = λ made. Makes (demo_row c.args.lines c.args.seed) [] view view (Ok made) in
    subst By (sym c.alike.ensures) (demo-answers c.args.lines c.args.seed c.in-Ok.summary view c.in-Ok.ensures.summary c.in-Ok.ensures.small)

pub returns-in-Err : goal.returns-in-Err
returns-in-Err c = λ view. lacks-none (demo_row c.args.lines c.args.seed) view
