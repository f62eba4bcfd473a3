use Rattle.std.proofs.Common.{ℕ, List, sym, subst}
use Rattle.rv_cube.specs.inside.Slotted.{Slotted}
use Rattle.rv_cube.specs.inside.Watching.{IsListedNear}
use Rattle.rv_cube.proofs.reduction.Reduction.put.Goals as goal
use Rattle.rv_cube.proofs.inside.Keeps.{Puts, put_keeps}

pub invariant_of-self-2 : goal.invariant_of-self-2
invariant_of-self-2 c =
    let s = c.self.inside in
    let r = c.requires in
    let w = c.watch.ensures in
    let P : Slotted → Type 0 = λ v. Puts v c.args.i c.args.cube in
    let N : List ℕ → Type 0 = λ l. IsListedNear s.slots.inputs s.slots.cubes c.args.cube s.exorlinks l in
    put_keeps s.slots c.settle.new.self c.args.i c.args.cube c.deref.result.now s.merges s.exorlinks c.watch.new.merges c.watch.new.exorlinks c.self.invariant
    (subst P (sym c.self.view_is) (record { within = r.within; empty = r.empty; some = r.some; own = r.valid }))
    (subst N (sym c.deref.ensures.value) c.in_ok-list_near.ensures)
    c.in_ok-settle.ensures.ok
    (record { merging = w.merges; exorlinking = w.exorlinks })
