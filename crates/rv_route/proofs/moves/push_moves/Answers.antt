use Rattle.std.proofs.Common.{arith, ◌++◌, map, sym, ap, ◌∙◌, append_assoc}
use Rattle.std.proofs.lemmas.List.{append-nil, map-append}
use Rattle.rv_route.specs.Moves.{neighbours}
use Rattle.rv_route.proofs.inside.Moving.{swaps_by-next, swaps_by_none}
use Rattle.rv_route.proofs.moves.push_moves.Goals as goal

pub loop-a-init : goal.loop-a-init
loop-a-init c = sym (ap (λ l. c.args.gates.now.items ++ map neighbours l) swaps_by_none ∙ append-nil c.args.gates.now.items)

pub loop-a-preserved : goal.loop-a-preserved
loop-a-preserved c =
    let next = swaps_by-next c.args.moves.now c.loop-a.a-index (record { from = 0; to = 0 }) c.loop-a-test.true in
    grind (arith, append_assoc, map-append, next, c.in_ok-push_move.ensures, c.loop-a.invariant)
