use Rattle.std.proofs.Common.{◌+◌, length, refl, ap, sym, ◌∙◌, arith}
use Rattle.std.specs.Prelude.{Some, count_ones}
use Rattle.std.proofs.lemmas.List.{length-drop}
use Rattle.rv_links.proofs.inside.WindowLemmas.{live_after}
use Rattle.rv_templ.specs.inside.Linking.{coming}
use Rattle.rv_templ.proofs.inside.FoldLemmas.{union_none}
use Rattle.rv_templ.proofs.inside.SizeLaws.{varied_most, reach_set, reach_rest}
use Rattle.rv_templ.proofs.windows.reach.Goals as goal

pub loop-i-init : goal.loop-i-init
loop-i-init c = record { set = sym (union_none _); rest = refl; live = c.requires.live }

pub returns-in-None-clause-beyond : goal.returns-in-None-clause-beyond
returns-in-None-clause-beyond c k more few le =
    let none = ap length (sym (ap (λ q. coming q c.args.linked.now.nodes) c.in-None.is) ∙ c.loop-i.invariant.rest) in
    absurd (omega (arith, more, le, none, length-drop c.loop-i.i (coming (Some c.args.node) c.args.linked.now.nodes)))

pub returns-then-set-wide-clause-beyond : goal.returns-then-set-wide-clause-beyond
returns-then-set-wide-clause-beyond c k more few le =
    let on = rw c.in-Some.is at c.loop-i.invariant.live in
    let set = reach_set c.args.node c.in-Some.next c.loop-i.i c.loop-i.set c.varied_at-set.result c.loop-i.at c.args.linked.now.nodes c.gate.result c.gate-first.result c.recall_invariant.ensures.once c.requires.live on c.in-Some.is c.gate-first.ensures c.gate.ensures c.loop-i.invariant.rest c.loop-i.invariant.set c.varied_at-set.ensures in
    varied_most (coming (Some c.args.node) c.args.linked.now.nodes) (c.loop-i.i + 1) k c.args.wide (omega (arith, more)) (omega (arith, c.if-set-wide.true, ap count_ones set))

pub loop-i-preserved : goal.loop-i-preserved
loop-i-preserved c =
    let on = rw c.in-Some.is at c.loop-i.invariant.live in
    record {
      set = reach_set c.args.node c.in-Some.next c.loop-i.i c.loop-i.set c.varied_at-set.result c.loop-i.at c.args.linked.now.nodes c.gate.result c.gate-first.result c.recall_invariant.ensures.once c.requires.live on c.in-Some.is c.gate-first.ensures c.gate.ensures c.loop-i.invariant.rest c.loop-i.invariant.set c.varied_at-set.ensures;
      rest = reach_rest c.args.node c.in-Some.next c.loop-i.i c.loop-i.at c.next-at.result c.args.linked.now.nodes c.gate.result c.recall_invariant.ensures.once on c.in-Some.is c.gate.ensures c.next-at.ensures c.loop-i.invariant.rest;
      live = live_after c.in-Some.next c.args.linked.now.nodes c.next-at.result c.recall_invariant.ensures.once c.next-at.ensures;
    }
