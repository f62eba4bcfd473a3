use Rattle.std.proofs.Common.{ap, ◌∙◌, subst, List}
use Rattle.rv_links.specs.Order.{next_in}
use Rattle.rv_links.specs.Nodes.{Node, ids_in}
use Rattle.rv_templ.specs.inside.Mates.{Mate}
use Rattle.rv_templ.specs.inside.Notes.{Noted}
use Rattle.rv_templ.proofs.inside.LinkedWindows.{shorter_next}
use Rattle.rv_templ.proofs.inside.PairWalk.{along_live, along_more, along_known, along_all, along_hit, no_pair}
use Rattle.rv_templ.proofs.pairs.first_pair.Goals as goal

pub returns-in-Some-mate-clause-known : goal.returns-in-Some-mate-clause-known
returns-in-Some-mate-clause-known c =
    along_known c.args.linked.now.nodes c.loop-at.linked.notes c.mate_or_note-mate.new.linked.notes c.loop-at.place c.loop-at.at c.in-Some.node c.recall_invariant.ensures.once c.loop-at.invariant.along c.in-Some.is c.mate_or_note-mate.ensures.others

pub returns-in-Some-mate-clause-pair : goal.returns-in-Some-mate-clause-pair
returns-in-Some-mate-clause-pair c =
    let mate = rw c.in-Some-mate.is at c.mate_or_note-mate.ensures.mate in
    along_hit c.args.linked.now.nodes c.loop-at.linked.notes c.loop-at.place c.loop-at.at c.in-Some.node c.in-Some-mate.other c.loop-at.far c.recall_invariant.ensures.once c.loop-at.invariant.along c.loop-at.invariant.right c.in-Some.is
    (subst (λ (l : List Node). Mate l c.in-Some.node c.in-Some-mate.other) c.loop-at.invariant.nodes mate)

pub loop-at-smaller : goal.loop-at-smaller
loop-at-smaller c =
    let on = along_live c.args.linked.now.nodes c.loop-at.linked.notes c.loop-at.place c.loop-at.at c.in-Some.node c.loop-at.invariant.along c.in-Some.is in
    shorter_next c.in-Some.node c.args.linked.now.nodes c.next-at.result c.loop-at.at c.recall_invariant.ensures.once on
    (c.next-at.ensures ∙ ap (λ l. next_in c.in-Some.node (ids_in l)) (c.mate_or_note-mate.ensures.nodes ∙ c.loop-at.invariant.nodes)) c.in-Some.is

pub loop-at-preserved : goal.loop-at-preserved
loop-at-preserved c =
    let nodes = c.mate_or_note-mate.ensures.nodes ∙ c.loop-at.invariant.nodes in
    record {
      frame = c.mate_or_note-mate.ensures.frame ∙ c.loop-at.invariant.frame;
      nodes = nodes;
      along = along_more c.args.linked.now.nodes c.loop-at.linked.notes c.mate_or_note-mate.new.linked.notes c.loop-at.place c.loop-at.at c.next-at.result c.in-Some.node c.recall_invariant.ensures.once c.loop-at.invariant.along c.in-Some.is
          (rw c.in_default-mate.is at c.mate_or_note-mate.ensures.none) c.mate_or_note-mate.ensures.others (c.next-at.ensures ∙ ap (λ l. next_in c.in-Some.node (ids_in l)) nodes);
      right = subst (λ (l : List Node). Noted c.mate_or_note-mate.new.linked.notes l c.mate_or_note-mate.result.1) c.loop-at.invariant.nodes c.mate_or_note-mate.ensures.right;
    }

pub returns-clause-pair : goal.returns-clause-pair
returns-clause-pair c =
    no_pair c.args.linked.now.nodes c.loop-at.linked.notes c.loop-at.far c.loop-at.invariant.right (along_all c.args.linked.now.nodes c.loop-at.linked.notes c.loop-at.place c.loop-at.at c.loop-at.invariant.along c.in_default.is)
