use Rattle.std.proofs.Common.{◌≡◌, ℕ, ap, subst, arith}
use Rattle.std.specs.Prelude.{All}
use Rattle.rv_pla.specs.Cube.{IsCube}
use Rattle.rv_pla.specs.declared.cube.TheConstants.{MOST_OUTPUTS}
use Rattle.rv_cube.specs.inside.Slotted.{Slotted}
use Rattle.rv_cube.proofs.inside.Listing.{NearBelow, near_more, near_end}
use Rattle.rv_cube.proofs.slots.Slots.near.Goals as goal

pub loop-p-preserved : goal.loop-p-preserved
loop-p-preserved c =
    near_more c.args.self.now.inputs c.args.self.now.cubes c.args.cube c.loop-p.p c.loop-p.found.items c.list_beside.new.found.items c.loop-p.invariant c.in_ok-list_beside.ensures

pub returns : goal.returns
returns c =
    let n = c.args.self.now.inputs in
    let s = c.args.self.now.cubes in
    let len = ap (λ (t : Slotted). t.inputs) c.self.view_is in
    let e : c.loop-p.p ≡ c.args.self.now.inputs = omega arith in
    let P : ℕ → Type 0 = λ k. NearBelow n s c.args.cube k c.loop-p.found.items in
    near_end n s c.args.cube c.loop-p.found.items
    (subst (λ (t : Slotted). All (IsCube t.inputs MOST_OUTPUTS) t.cubes) c.self.view_is c.self.invariant.valid) c.requires
    (subst P e c.loop-p.invariant)
