use Rattle.rv_templ.specs.inside.Library.{templates_in}
use Rattle.rv_templ.proofs.inside.LinkedWindows.{spot_here}
use Rattle.rv_templ.proofs.windows.recall_spot.Goals as goal

pub returns : goal.returns
returns c = spot_here c.args.linked.now (templates_in c.args.templates.now) c.args.spot.now.place c.args.spot.now.node c.args.spot.now.found c.recall_invariant.ensures c.requires.templates c.requires.spot
