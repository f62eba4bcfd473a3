use Rattle.std.proofs.Common.{ap, subst, sym, ◌∙◌}
use Rattle.rv_net.specs.Op.{IsNetwork, Network}
use Rattle.rv_picture.specs.Lines.{network_lines}
use Rattle.rv_cmd.specs.declared.product.Product.{Product}
use Rattle.rv_cmd.specs.declared.product.Product.TheVariants.{NetDrawing}
use Rattle.rv_cmd.specs.Commands.Draw.{IsNetworkDrawing, network_report}
use Rattle.rv_cmd.specs.inside.Products.{IsProductOf}
use Rattle.rv_cmd.proofs.Laws.Draw.{network-drawing}
use Rattle.rv_cmd.proofs.commands.draw.OfProgramOneInput.make.Goals as goal

pub returns-in-Ok-clause-made : goal.returns-in-Ok-clause-made
returns-in-Ok-clause-made c =
    let command = c.args.self.now in
    let program = c.args.program.now in
    subst (λ (product : Product). IsProductOf (network_report command.picture command.wrap program) (IsNetworkDrawing command.picture command.wrap program) product)
    (sym (c.in-Ok.ensures ∙ ap (λ (net : Network). NetDrawing (network_lines net.lines) net command.picture command.wrap) c.net-net.ensures.value))
    (network-drawing command.picture command.wrap program (subst IsNetwork c.net-net.ensures.value c.recall_invariant.ensures))
