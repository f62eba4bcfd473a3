use Rattle.std.proofs.Common.{ap, sym, ◌∙◌, arith}
use Rattle.rv_links.specs.Order.{next_in}
use Rattle.rv_links.specs.Nodes.{live, ids_in}
use Rattle.rv_templ.proofs.inside.CursorLaws.{live_here}
use Rattle.rv_templ.proofs.inside.ForgetWalks.{place_off, none_ended, none_more, place_more}
use Rattle.rv_templ.proofs.inside.NoteLaws.{fewer_on, fewer_set, known_others}
use Rattle.rv_templ.proofs.notes.forget.Goals as goal

pub returns-in-None-clause-here : goal.returns-in-None-clause-here
returns-in-None-clause-here c =
    none_ended c.loop-i.linked.notes c.args.linked.now.nodes c.args.low.now.place c.loop-i._i c.args.count c.loop-i.at c.in-None.is c.loop-i.invariant.at_is (omega (arith, c.loop-i-test.true)) c.loop-i.invariant.here

pub set_note-requires : goal.set_note-requires
set_note-requires c =
    ap (live c.in-Some.node) c.loop-i.invariant.nodes ∙ live_here c.args.linked.now.nodes _ c.in-Some.node (sym c.in-Some.is ∙ c.loop-i.invariant.at_is)

pub next-at-requires : goal.next-at-requires
next-at-requires c =
    ap (live c.in-Some.node) (c.set_note.ensures.nodes ∙ c.loop-i.invariant.nodes) ∙ live_here c.args.linked.now.nodes _ c.in-Some.node (sym c.in-Some.is ∙ c.loop-i.invariant.at_is)

pub loop-i-preserved : goal.loop-i-preserved
loop-i-preserved c =
    let here = sym c.in-Some.is ∙ c.loop-i.invariant.at_is in
    let nodes = c.set_note.ensures.nodes ∙ c.loop-i.invariant.nodes in
    let once = c.recall_invariant.ensures.once in
    let fewer = fewer_set c.loop-i.linked.notes c.set_note.new.self.notes c.in-Some.node c.set_note.ensures.here c.set_note.ensures.others in
    record {
      frame = c.set_note.ensures.frame ∙ c.loop-i.invariant.frame;
      nodes = nodes;
      fewer = fewer_on c.args.linked.now.notes c.loop-i.linked.notes c.set_note.new.self.notes c.loop-i.invariant.fewer fewer;
      known = λ k. known_others c.loop-i.linked.notes c.set_note.new.self.notes c.in-Some.node _ (place_off c.args.linked.now.nodes c.args.low.now.place c.loop-i._i c.in-Some.node once here) c.set_note.ensures.others (c.loop-i.invariant.known k);
      here = none_more c.loop-i.linked.notes c.set_note.new.self.notes c.args.linked.now.nodes c.args.low.now.place c.loop-i._i c.in-Some.node here fewer c.set_note.ensures.here c.loop-i.invariant.here;
      at_is = place_more c.args.linked.now.nodes c.next-at.result c.loop-i.at c.args.low.now.place c.loop-i._i c.in-Some.node once (c.next-at.ensures ∙ ap (λ l. next_in c.in-Some.node (ids_in l)) nodes) c.in-Some.is c.loop-i.invariant.at_is;
    }
