use Rattle.std.proofs.Common.{◌≡◌, ℕ, ◌+◌, ◌-◌, ◌++◌, List, length, get_or, sym, ap, ◌∙◌, arith, refl, append_assoc}
use Rattle.std.proofs.lemmas.List.{append-nil, at_drop_all}
use Rattle.rv_route.specs.Moves.{moves_down, middle}
use Rattle.rv_route.specs.inside.Standing.{swaps_by, swaps_of}
use Rattle.rv_route.proofs.inside.Moving.{AreMoves-more, apart, ascending_below, length-gathering, moves_down_none, one_down, one_up, swaps_by-more, swaps_by_none, up_start}
use Rattle.rv_route.proofs.moves.gathering.Goals as goal

pub loop-j-init : goal.loop-j-init
loop-j-init c =
    let ps : List ℕ = c.args.positions.now in
    let none = ap length c.new-moves.ensures in
    record {
      swaps = ap swaps_by c.new-moves.ensures ∙ swaps_by_none ∙ sym (up_start ps (middle (length ps)) (get_or ps (middle (length ps)) 0));
      within = λ n h k d lt. absurd (omega arith);
      len = omega arith;
    }

pub overflow_sub-to-in-loop-j : goal.overflow_sub-to-in-loop-j
overflow_sub-to-in-loop-j c =
    let ps : List ℕ = c.args.positions.now in
    let some = c.requires.some in
    let le = c.loop-j.auto.j in
    let far = apart 0 64 (c.loop-j.j - 1) (middle (length ps)) ps (omega arith) (omega arith) c.requires.ascending in
    omega arith

pub loop-j-preserved : goal.loop-j-preserved
loop-j-preserved c =
    let ps : List ℕ = c.args.positions.now in
    let m : ℕ = middle (length ps) in
    let i = c.loop-j.invariant in
    let count = i.len in
    let pushed = c.push.ensures.len in
    let some = c.requires.some in
    let test = c.loop-j-test.true in
    let le = c.loop-j.auto.j in
    let far = apart 0 64 (c.loop-j.j - 1) m ps (omega arith) (omega arith) c.requires.ascending in
    record {
      swaps = swaps_by-more _ _ _ c.push.ensures.items ∙ ap (λ l. l ++ swaps_of (get_or ps (c.loop-j.j - 1) 0) (get_or ps m 0 - (m - (c.loop-j.j - 1)))) i.swaps
          ∙ sym (one_up ps m c.loop-j.j (get_or ps m 0) _ test le (omega arith) refl (omega arith));
      within = λ n h. (let first = ascending_below 0 n (c.loop-j.j - 1) ps (omega arith) h in let last = ascending_below 0 n m ps (omega arith) h in
          AreMoves-more n _ _ _ c.push.ensures.items first (omega arith) (i.within n h));
      len = omega arith;
    }

pub overflow_add-to : goal.overflow_add-to
overflow_add-to c =
    let ps : List ℕ = c.args.positions.now in
    let some = c.requires.some in
    let from = c.loop-j-2.auto.j in
    let far = apart 0 64 (middle (length ps)) c.loop-j-2.j ps (omega arith) c.loop-j-2-test.true c.requires.ascending in
    let last = ascending_below 0 64 c.loop-j-2.j ps c.loop-j-2-test.true c.requires.ascending in
    omega arith

pub loop-j-2-preserved : goal.loop-j-2-preserved
loop-j-2-preserved c =
    let ps : List ℕ = c.args.positions.now in
    let m : ℕ = middle (length ps) in
    let j : ℕ = c.loop-j-2.j in
    let i = c.loop-j-2.invariant in
    let count = i.len in
    let pushed = c.push-in-loop-j-2.ensures.len in
    let some = c.requires.some in
    let from = c.loop-j-2.auto.j in
    let far = apart 0 64 m j ps (omega arith) c.loop-j-2-test.true c.requires.ascending in
    let b : ℕ = get_or ps m 0 + (j - m - 1) in
    let next : get_or ps m 0 + (j + 1 - m - 1) ≡ b + 1 = omega arith in
    let to : b + 1 ≡ get_or ps m 0 + (j - m) = omega arith in
    let more = swaps_by-more _ _ _ c.push-in-loop-j-2.ensures.items in
    let one = one_down ps j b c.loop-j-2-test.true (omega arith) in
    record {
      swaps = grind (arith, append_assoc, more, one, i.swaps);
      within = λ n h. (let last = ascending_below 0 n j ps c.loop-j-2-test.true h in
          AreMoves-more n _ _ _ c.push-in-loop-j-2.ensures.items last (omega arith) (i.within n h));
      len = omega arith;
    }

pub returns-clause-moves : goal.returns-clause-moves
returns-clause-moves c =
    let ps : List ℕ = c.args.positions.now in
    let b : ℕ = get_or ps (middle (length ps)) 0 + (c.loop-j-2.j - middle (length ps) - 1) in
    sym (ap (λ l. swaps_by c.loop-j-2.moves.items ++ l) (at_drop_all (λ l. moves_down l b) ps c.loop-j-2.j c.loop-j-2-test.false ∙ moves_down_none b) ∙ append-nil (swaps_by c.loop-j-2.moves.items))
    ∙ c.loop-j-2.invariant.swaps

pub returns-clause-few_swaps : goal.returns-clause-few_swaps
returns-clause-few_swaps c = rw (returns-clause-moves c) (length-gathering c.args.positions.now c.requires.some c.requires.ascending)
