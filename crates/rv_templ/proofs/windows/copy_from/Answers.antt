use Rattle.std.proofs.Common.{ap, ◌∙◌, arith}
use Rattle.rv_links.proofs.inside.WindowLemmas.{live_after}
use Rattle.rv_templ.specs.inside.Linking.{coming}
use Rattle.rv_templ.proofs.inside.LinkedWindows.{coming_next, copy_more}
use Rattle.rv_templ.proofs.windows.copy_from.Goals as goal

pub loop-i-preserved : goal.loop-i-preserved
loop-i-preserved c =
    let live = rw c.in-Some.is at c.loop-i.invariant.live in
    record {
      rest = copy_more c.args.most c.loop-i.i c.loop-i.room (coming c.loop-i.at c.args.linked.now.nodes) (coming c.next-at.result c.args.linked.now.nodes) _ c.gate.result c.loop-i-test.true
          (omega (arith, c.loop-i.auto.room, c.requires.full, c.requires.few))
          (ap (λ q. coming q c.args.linked.now.nodes) c.in-Some.is ∙ coming_next c.in-Some.next c.args.linked.now.nodes c.next-at.result c.gate.result c.recall_invariant.ensures.once live c.next-at.ensures c.gate.ensures) c.loop-i.invariant.rest;
      live = live_after c.in-Some.next c.args.linked.now.nodes c.next-at.result c.recall_invariant.ensures.once c.next-at.ensures;
    }
