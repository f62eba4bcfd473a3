use Rattle.std.proofs.Common.{drop, ap, ◌∙◌}
use Rattle.std.specs.Prelude.{Some}
use Rattle.rv_links.specs.Nodes.{Linkage, gates_in}
use Rattle.rv_templ.specs.inside.Library.{templates_in}
use Rattle.rv_templ.specs.inside.Linking.{coming}
use Rattle.rv_templ.specs.inside.Replaced.{gates_for}
use Rattle.rv_templ.proofs.inside.LinkedWindows.{replaced_spot, spot_front, spot_set}
use Rattle.rv_templ.proofs.inside.NoteLaws.{window_noted}
use Rattle.rv_templ.proofs.windows.replace.Goals as goal

pub returns-clause-gates : goal.returns-clause-gates
returns-clause-gates c = ap (λ (l : Linkage). gates_in l.nodes) c.set_window.ensures ∙ replaced_spot _ _ _ _ _ _ c.requires.spot c.recall_spot.ensures

pub returns-clause-front : goal.returns-clause-front
returns-clause-front c = rw c.set_window.ensures (spot_front _ _ _ _ _ _ c.requires.spot)

pub returns-clause-right : goal.returns-clause-right
returns-clause-right c far none right =
    rw (
      c.set_window.ensures,
      spot_set (templates_in c.args.templates.now) c.args.linked.now.nodes c.args.spot.place c.args.spot.node c.args.spot.found
          (gates_for (coming (Some c.args.spot.node) c.args.linked.now.nodes) (templates_in c.args.templates.now) c.args.spot.found) c.recall_invariant.ensures.once c.requires.spot,
    )
    (window_noted c.args.linked.now.notes c.args.spot.found.count _ (drop c.args.spot.place c.args.linked.now.nodes) far none right)
