use Rattle.rv_optimal.proofs.inside.Growing.{begin_leads, begin_whole}
use Rattle.rv_optimal.proofs.way.begin_below.Goals as goal

pub returns-in_ok-insert-in-Some-clause-leads : goal.returns-in_ok-insert-in-Some-clause-leads
returns-in_ok-insert-in-Some-clause-leads c =
    begin_leads c.args.library c.args.lines _ _ _ _ _ c.in-Some.gate _ c.requires.few c.in-Some.ensures.allowed c.requires.key
    c.word_count.ensures.value c.move_of.ensures c.composed-from.ensures.value c.in_ok-insert-in-Some.ensures.items

pub returns-in_ok-insert-in-Some-clause-whole : goal.returns-in_ok-insert-in-Some-clause-whole
returns-in_ok-insert-in-Some-clause-whole c =
    begin_whole c.args.lines _ _ _ _ c.in-Some.gate c.requires.few c.requires.key c.word_count.ensures.value c.move_of.ensures c.composed-from.ensures.value
