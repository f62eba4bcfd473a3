use Rattle.rv_templ.proofs.NodeLists.{next_least, next_later}
use Rattle.rv_templ.proofs.stops.next_to_ask.Goals as goal

pub returns-then-asked-lt-MOST_ASKED-clause-later : goal.returns-then-asked-lt-MOST_ASKED-clause-later
returns-then-asked-lt-MOST_ASKED-clause-later c = next_later c.args.linked.now.nodes c.args.node c.next.result c.recall_invariant.ensures.rising c.recall_invariant.ensures.once c.requires c.next.ensures

pub returns-then-asked-lt-MOST_ASKED-clause-free : goal.returns-then-asked-lt-MOST_ASKED-clause-free
returns-then-asked-lt-MOST_ASKED-clause-free c x on lt before =
    absurd (next_least c.args.linked.now.nodes c.args.node c.next.result c.recall_invariant.ensures.rising c.recall_invariant.ensures.once c.requires c.next.ensures x on lt before)
