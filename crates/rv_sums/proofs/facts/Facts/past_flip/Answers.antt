use Rattle.rv_gate.specs.declared.gate.Shape.TheVariants.{Flip}
use Rattle.rv_sums.proofs.inside.Facts.{after_flip}
use Rattle.rv_sums.proofs.facts.Facts.past_flip.Goals as goal

pub returns : goal.returns
returns c =
    after_flip c.args.lines (Flip c.args.care c.args.want c.args.target) c.args.target c.in_ok-with.with c.args.self.now.sums.items
    c.in_ok-facts.facts.sums.items c.requires.target c.in_ok-with.ensures c.in_ok-facts.ensures
