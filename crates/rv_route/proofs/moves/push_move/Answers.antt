use Rattle.std.proofs.Common.{◌≡◌, ◌-◌, map, ◌++◌, ap, ◌∙◌, sym, arith}
use Rattle.std.proofs.lemmas.List.{append-nil}
use Rattle.std.specs.List.{range_with_len}
use Rattle.rv_route.specs.Moves.{neighbours, swaps_up}
use Rattle.rv_route.proofs.inside.Moving.{up_more, down_more, down_all, down_none}
use Rattle.rv_route.proofs.moves.push_move.Goals as goal

pub loop-p-preserved : goal.loop-p-preserved
loop-p-preserved c =
    let i = c.loop-p.invariant in
    let from = c.loop-p.auto.p in
    let test = c.loop-p-test.true in
    record { made = up_more _ _ _ _ _ _ from i.made c.neighbours.ensures c.in_ok-push.ensures.items; within = omega arith }

pub loop-p-2-init : goal.loop-p-2-init
loop-p-2-init c =
    let i = c.loop-p.invariant in
    let few = i.within in
    let test = c.loop-p-test.false in
    let e : c.loop-p.p - c.args.from ≡ c.args.to - c.args.from = omega arith in
    record {
      made = i.made ∙ ap (λ n. c.args.gates.now.items ++ map neighbours (range_with_len c.args.from n)) e
          ∙ ap (λ l. c.args.gates.now.items ++ map neighbours l) (sym (ap (λ l. swaps_up c.args.from c.args.to ++ l) (down_none c.args.from) ∙ append-nil (swaps_up c.args.from c.args.to)));
      within = omega arith;
    }

pub loop-p-2-preserved : goal.loop-p-2-preserved
loop-p-2-preserved c =
    let i = c.loop-p-2.invariant in
    let test = c.loop-p-2-test.true in
    record {
      made = down_more _ _ _ _ _ _ _ (omega arith) c.loop-p-2.auto.p i.made c.neighbours-in-loop-p-2.ensures c.in_ok-push-2.ensures.items;
      within = omega arith;
    }

pub returns : goal.returns
returns c =
    let i = c.loop-p-2.invariant in
    i.made ∙ ap (λ l. c.args.gates.now.items ++ map neighbours (swaps_up c.args.from c.args.to ++ l)) (down_all c.args.from c.args.to c.loop-p-2.p c.loop-p-2-test.false i.within)
