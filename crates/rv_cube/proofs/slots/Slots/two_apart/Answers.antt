use Rattle.std.proofs.Common.{◌≡◌, ◌+◌, ℕ, [], Vec, Global, sym, ◌∙◌, ap, subst, arith}
use Rattle.std.specs.Prelude.{All, bit_or}
use Rattle.rv_pla.specs.Cube.{IsCube}
use Rattle.rv_pla.specs.declared.cube.TheConstants.{MOST_OUTPUTS}
use Rattle.rv_cube.specs.inside.Slotted.{Slotted, AsksWithin, Gains, IsTwoApartBelow}
use Rattle.rv_cube.proofs.inside.Listing.{below_more, listed}
use Rattle.rv_cube.proofs.inside.Moved.{skip_row}
use Rattle.rv_cube.proofs.inside.Noting.{own_asked, more_asked}
use Rattle.rv_cube.proofs.slots.Slots.two_apart.Goals as goal
use Rattle.rv_cube.proofs.slots.Slots.two_apart.Goals.{then-has+in_ok-list_pairs, else-has}

pub loop-q-preserved : goal.loop-q-preserved
loop-q-preserved c =
    let P : Vec ℕ Global → Type 0 = λ found. Gains c.args.self.now.cubes (IsTwoApartBelow c.args.self.now.cubes c.args.cube (c.loop-q.q + 1)) [] found.items in
    let asks = subst (λ (t : Slotted). All (AsksWithin (bit_or c.self.inside.asked c.args.cube.care)) t.cubes) c.self.view_is
    (more_asked c.self.inside.asked c.args.cube c.self.inside.cubes.items c.self.invariant.asks) in
    elim c.if-has.branch [
      | then-has+in_ok-list_pairs w ↦
          subst P (sym w.found-is)
          (below_more c.args.self.now.cubes c.args.cube c.loop-q.q [] c.loop-q.found.items w.list_pairs.new.found.items c.loop-q.invariant w.in_ok-list_pairs.ensures)
      | else-has w ↦
          subst P (sym w.found-is)
          (skip_row c.args.self.now.cubes c.args.cube (bit_or c.self.inside.asked c.args.cube.care) c.loop-q.q [] c.loop-q.found.items (own_asked c.self.inside.asked c.args.cube) asks
          (sym c.has.ensures ∙ w.if-has.false) c.loop-q.invariant)
    ]

pub returns-clause-lists : goal.returns-clause-lists
returns-clause-lists c =
    let n = c.args.self.now.inputs in
    let s = c.args.self.now.cubes in
    let len = ap (λ (t : Slotted). t.inputs) c.self.view_is in
    let e : c.loop-q.q ≡ c.args.self.now.inputs = omega arith in
    let P : ℕ → Type 0 = λ k. Gains s (IsTwoApartBelow s c.args.cube k) [] c.loop-q.found.items in
    listed n s c.args.cube c.loop-q.found.items
    (subst (λ (t : Slotted). All (IsCube t.inputs MOST_OUTPUTS) t.cubes) c.self.view_is c.self.invariant.valid) c.requires
    (subst P e c.loop-q.invariant)
