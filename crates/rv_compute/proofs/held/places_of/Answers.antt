use Rattle.std.proofs.Common.{List, ◌+◌, sym, subst}
use Rattle.std.specs.Prelude.{Option}
use Rattle.rv_compute.specs.declared.place.Place.{Place}
use Rattle.rv_compute.proofs.inside.Placing.{ArePlacedBelow, placed_more}
use Rattle.rv_compute.proofs.held.places_of.Goals as goal

pub loop-i-preserved : goal.loop-i-preserved
loop-i-preserved c =
    let logic = c.args.logic.now in
    let held = c.args.held.now in
    let P : List (Option Place) → Type 0 =
    λ l. ArePlacedBelow logic held c.args.target c.args.operands.now (c.loop-i.i + 1) l in
    subst P (sym c.in_ok-push.ensures.items)
    (placed_more logic held c.args.target c.args.operands.now c.loop-i.i c.loop-i.places.items c.in-Some.place
    c.loop-i.invariant c.in-Some.ensures)
