use Rattle.std.proofs.Common.{◌≡◌, ◌≢◌, ◌+◌, ℕ, get_or, refl, Vec, Global, sym, ◌∙◌, subst, arith}
use Rattle.rv_cube.specs.declared.distance.Turns.TheVariants.{Once, Twice}
use Rattle.rv_cube.specs.inside.Moved.{turned_by}
use Rattle.rv_cube.specs.inside.Slotted.{Gains, IsTwoApartFrom}
use Rattle.rv_cube.proofs.inside.Listing.{from_more}
use Rattle.rv_cube.proofs.inside.Moved.{gains_moved, skip_input}
use Rattle.rv_cube.proofs.inside.Probes.{step_is}
use Rattle.rv_cube.proofs.slots.Slots.list_pairs.Goals as goal
use Rattle.rv_cube.proofs.slots.Slots.list_pairs.Goals.{then-has+in_ok-list_moved+in_ok-list_moved-2, else-has}

pub list_moved-requires-clause-row : goal.list_moved-requires-clause-row
list_moved-requires-clause-row c = record {
  within = omega arith;
  one = step_is c.args.cube (turned_by c.args.cube c.args.q Once) c.filter_place-place.result (get_or c.args.near.now.one_places c.args.q 0) c.filter_place-place.ensures.value
      (c.requires.one_places.is c.args.q c.requires.within) c.filter_place-place.ensures.within (c.requires.one_places.within c.args.q c.requires.within);
  other = step_is c.args.cube (turned_by c.args.cube c.args.q Twice) c.filter_place-place.result (get_or c.args.near.now.other_places c.args.q 0) c.filter_place-place.ensures.value
      (c.requires.other_places.is c.args.q c.requires.within) c.filter_place-place.ensures.within (c.requires.other_places.within c.args.q c.requires.within);
}

pub list_moved-requires-then-has-clause-row : goal.list_moved-requires-then-has-clause-row
list_moved-requires-then-has-clause-row c = record {
  within = omega arith;
  one = step_is c.args.cube (turned_by c.args.cube c.args.q Once) c.filter_place-place.result (get_or c.args.near.now.one_places c.args.q 0) c.filter_place-place.ensures.value
      (c.requires.one_places.is c.args.q c.requires.within) c.filter_place-place.ensures.within (c.requires.one_places.within c.args.q c.requires.within);
  other = step_is c.args.cube (turned_by c.args.cube c.args.q Twice) c.filter_place-place.result (get_or c.args.near.now.other_places c.args.q 0) c.filter_place-place.ensures.value
      (c.requires.other_places.is c.args.q c.requires.within) c.filter_place-place.ensures.within (c.requires.other_places.within c.args.q c.requires.within);
}

pub loop-p-preserved : goal.loop-p-preserved
loop-p-preserved c =
    let P : Vec ℕ Global → Type 0 = λ found. Gains c.args.self.now.cubes (IsTwoApartFrom c.args.self.now.cubes c.args.cube c.args.q (c.loop-p.p + 1)) c.args.found.now.items found.items in
    let apart : c.args.q ≢ c.loop-p.p = omega arith in
    elim c.if-has.branch [
      | then-has+in_ok-list_moved+in_ok-list_moved-2 w ↦
          subst P (sym w.found-is)
          (from_more c.args.self.now.cubes c.args.cube c.args.q c.loop-p.p c.args.found.now.items c.loop-p.found.items w.list_moved-then-has.new.found.items c.loop-p.invariant
          (gains_moved c.args.self.now.cubes c.args.cube (turned_by c.args.cube c.loop-p.p Once) (turned_by c.args.cube c.loop-p.p Twice) (turned_by c.args.cube c.args.q Once) (turned_by c.args.cube c.args.q Twice) c.loop-p.p c.args.q
          c.loop-p.found.items w.list_moved.new.found.items w.list_moved-then-has.new.found.items apart refl refl refl refl w.in_ok-list_moved.ensures w.in_ok-list_moved-2.ensures))
      | else-has w ↦
          subst P (sym w.found-is)
          (skip_input c.args.self.now.cubes c.args.cube c.args.asked c.args.q c.loop-p.p c.args.found.now.items c.loop-p.found.items c.requires.own c.requires.asks
          (sym c.has.ensures ∙ w.if-has.false) c.loop-p.invariant)
    ]

pub returns : goal.returns
returns c =
    let e : c.loop-p.p ≡ c.args.q = omega arith in
    let P : ℕ → Type 0 = λ k. Gains c.args.self.now.cubes (IsTwoApartFrom c.args.self.now.cubes c.args.cube c.args.q k) c.args.found.now.items c.loop-p.found.items in
    subst P e c.loop-p.invariant
