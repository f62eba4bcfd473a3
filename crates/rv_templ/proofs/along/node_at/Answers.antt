use Rattle.rv_templ.proofs.inside.CursorLaws.{live_here, live_at, rest_at, before_at, first_at, next_here}
use Rattle.rv_templ.proofs.along.node_at.Goals as goal

pub returns-in-None-clause-live : goal.returns-in-None-clause-live
returns-in-None-clause-live c =
    live_at c.args.linked.now.nodes c.args.cursor.place c.first.result (first_at c.args.linked.now.nodes c.args.cursor.place c.args.cursor.before c.first.result c.requires c.in-None.is c.first.ensures)

pub returns-in-None-clause-node : goal.returns-in-None-clause-node
returns-in-None-clause-node c = first_at c.args.linked.now.nodes c.args.cursor.place c.args.cursor.before c.first.result c.requires c.in-None.is c.first.ensures

pub returns-in-None-clause-rest : goal.returns-in-None-clause-rest
returns-in-None-clause-rest c =
    rest_at c.args.linked.now.nodes c.args.cursor.place c.first.result c.recall_invariant.ensures.once (first_at c.args.linked.now.nodes c.args.cursor.place c.args.cursor.before c.first.result c.requires c.in-None.is c.first.ensures)

pub next-requires : goal.next-requires
next-requires c = live_here c.args.linked.now.nodes _ c.in-Some.node (before_at c.args.linked.now.nodes c.args.cursor.place c.in-Some.node c.args.cursor.before c.requires c.in-Some.is)

pub returns-in-Some-clause-live : goal.returns-in-Some-clause-live
returns-in-Some-clause-live c =
    live_at c.args.linked.now.nodes c.args.cursor.place c.next.result
    (next_here c.args.linked.now.nodes c.args.cursor.place c.in-Some.node c.args.cursor.before c.next.result c.recall_invariant.ensures.once c.requires c.in-Some.is c.next.ensures)

pub returns-in-Some-clause-node : goal.returns-in-Some-clause-node
returns-in-Some-clause-node c = next_here c.args.linked.now.nodes c.args.cursor.place c.in-Some.node c.args.cursor.before c.next.result c.recall_invariant.ensures.once c.requires c.in-Some.is c.next.ensures

pub returns-in-Some-clause-rest : goal.returns-in-Some-clause-rest
returns-in-Some-clause-rest c =
    rest_at c.args.linked.now.nodes c.args.cursor.place c.next.result c.recall_invariant.ensures.once
    (next_here c.args.linked.now.nodes c.args.cursor.place c.in-Some.node c.args.cursor.before c.next.result c.recall_invariant.ensures.once c.requires c.in-Some.is c.next.ensures)
