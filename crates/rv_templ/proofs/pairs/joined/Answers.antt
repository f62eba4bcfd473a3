use Rattle.std.proofs.Common.{ap, ◌∙◌}
use Rattle.rv_templ.specs.Pairs.{paired}
use Rattle.rv_templ.proofs.LinkedGates.{linked_gates}
use Rattle.rv_templ.proofs.inside.LinkedPairs.{first_live, second_live, first_is, second_is, made_good}
use Rattle.rv_templ.proofs.pairs.joined.Goals as goal

pub gate-requires : goal.gate-requires
gate-requires c = first_live c.args.linked.now.nodes c.args.a c.args.b c.requires

pub gate-requires-2 : goal.gate-requires-2
gate-requires-2 c = second_live c.args.linked.now.nodes c.args.a c.args.b c.requires

pub returns-clause-value : goal.returns-clause-value
returns-clause-value c m =
    let once = c.recall_invariant.ensures.once in
    c.join.ensures ∙ ap (λ g. paired g c.gate-2.result) (c.gate.ensures ∙ first_is _ _ _ m once) ∙ ap (paired m.first.gate) (c.gate-2.ensures ∙ second_is _ _ _ m once) ∙ m.join

pub returns-clause-good : goal.returns-clause-good
returns-clause-good c m = made_good _ _ _ _ m (linked_gates c.args.linked.now c.recall_invariant.ensures)
