use Rattle.std.proofs.Common.{ap, sym, ◌∙◌}
use Rattle.std.specs.Prelude.{Some}
use Rattle.rv_templ.specs.inside.Library.{templates_in}
use Rattle.rv_templ.specs.Choices.{window_at}
use Rattle.rv_templ.specs.inside.Linking.{coming}
use Rattle.rv_templ.proofs.inside.SizeLaws.{window_near, window_few}
use Rattle.rv_templ.proofs.windows.window_at.Goals as goal

pub returns : goal.returns
returns c =
    c.find_window.ensures.exact ∙ ap (λ l. window_at l (templates_in c.args.templates.now)) c.copy_from-n.ensures.gates
    ∙ window_near c.args.sizes.most c.args.sizes.least c.args.sizes.wide c.reach-most.result (templates_in c.args.templates.now) _ c.requires.templates c.requires.sizes c.reach-most.ensures.beyond

pub returns-then-most-sizes : goal.returns-then-most-sizes
returns-then-most-sizes c =
    sym (window_few c.args.sizes.most c.args.sizes.least c.args.sizes.wide c.reach-most.result (templates_in c.args.templates.now) (coming (Some c.args.node) c.args.linked.now.nodes) c.requires.sizes c.if-most-sizes.true)
    ∙ window_near c.args.sizes.most c.args.sizes.least c.args.sizes.wide c.reach-most.result (templates_in c.args.templates.now) _ c.requires.templates c.requires.sizes c.reach-most.ensures.beyond
