use Rattle.rv_optimal.proofs.inside.Growing.{end_leads}
use Rattle.rv_optimal.proofs.way.end_below.Goals as goal

pub returns-in_ok-push-in-Some-clause-leads : goal.returns-in_ok-push-in-Some-clause-leads
returns-in_ok-push-in-Some-clause-leads c =
    end_leads c.args.lines _ _ _ _ _ _ c.in-Some.gate _ c.word_count.ensures.value c.move_of.ensures c.composed-to.ensures.value
    c.in_ok-push-in-Some.ensures.items c.requires.leads
