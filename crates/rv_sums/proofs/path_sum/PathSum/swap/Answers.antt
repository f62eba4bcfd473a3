use Rattle.std.proofs.Common.{refl, ap₂, ◌∙◌}
use Rattle.std.specs.List.{swap}
use Rattle.rv_sums.proofs.inside.Moves.{swap_leads}
use Rattle.rv_sums.proofs.path_sum.PathSum.swap.Goals as goal

pub returns : goal.returns
returns c =
    swap_leads c.args.a c.args.b c.args.self.now _ c.requires.first c.requires.second
    (c.swap.ensures.items ∙ ap₂ (swap c.args.self.now.sums.items) c.from.ensures c.from-2.ensures) refl refl
