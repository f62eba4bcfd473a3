use Rattle.std.proofs.Common.{get_or, length, sym, ap, arith, refl}
use Rattle.rv_route.proofs.inside.Moving.{AreMoves-more, place_of, swaps_by-more}
use Rattle.rv_route.proofs.inside.Steps.{going_more, going_none, home_end}
use Rattle.rv_route.proofs.gathering.go_home.Goals as goal

pub loop-line-init : goal.loop-line-init
loop-line-init c = record {
  going = λ row s. going_none _ _ _ c.new-moves.ensures s;
  within = λ k d lt. (let none = ap length c.new-moves.ensures in absurd (omega arith));
  len = ap length c.new-moves.ensures;
}

pub shift-requires : goal.shift-requires
shift-requires c = λ line lt. (let place = place_of _ _ line (c.loop-line.invariant.going c.requires.table.0 c.requires.table.1).stands lt in let few = c.requires.few in let same = c.loop-line.auto.places in omega arith)

pub loop-line-preserved : goal.loop-line-preserved
loop-line-preserved c =
    let i = c.loop-line.invariant in
    let same = c.loop-line.auto.places in
    let test = c.loop-line-test.true in
    let few = c.requires.few in
    let place = place_of _ _ c.loop-line.line (i.going c.requires.table.0 c.requires.table.1).stands (omega arith) in
    let pushed = c.push.ensures.len in
    let len = i.len in
    record {
      going = λ row s. going_more _ c.loop-line.line row _ _ _ _ (record { from = get_or c.loop-line.places c.loop-line.line 0; to = c.loop-line.line }) (omega arith) (sym same) c.shift.auto.places refl refl (swaps_by-more _ _ _ c.push.ensures.items) c.shift.ensures (i.going row s);
      within = AreMoves-more 64 _ _ _ c.push.ensures.items (omega arith) (omega arith) i.within;
      len = omega arith;
    }

pub returns-clause-moves : goal.returns-clause-moves
returns-clause-moves c = λ row s. home_end _ _ _ _ _ c.loop-line-test.false (c.loop-line.invariant.going row s).swaps
