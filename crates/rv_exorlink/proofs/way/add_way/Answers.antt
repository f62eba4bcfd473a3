use Rattle.std.proofs.Common.{refl, ap}
use Rattle.std.proofs.lemmas.Result.{on_ok_weaker}
use Rattle.rv_exorlink.proofs.Steps.{walk_start, walk_step, walk_same, walk_end, walk_left}
use Rattle.rv_exorlink.proofs.way.add_way.Goals as goal
use Rattle.rv_exorlink.proofs.way.add_way.Goals.{in-Some+in_ok-add_but, in_default}

pub loop-place-init : goal.loop-place-init
loop-place-init c = walk_start c.args.inputs c.args.free.now c.args.from c.args.to c.args.cubes.now.items

pub loop-place-preserved : goal.loop-place-preserved
loop-place-preserved c =
    let at = c.loop-place.at in
    let now = c.loop-place.cubes.items in
    elim c.match-step_of.branch [
      | in-Some+in_ok-add_but w ↦
          walk_same c.args.inputs c.args.free.now c.args.from c.args.to c.args.cubes.now.items w.in-Some.step.next
          w.add_but.new.cubes.items c.match-step_of.at c.match-step_of.cubes.items
          (walk_step c.args.inputs c.args.free.now c.args.from c.args.to c.args.cubes.now.items at now
          w.in-Some.step.sum w.in-Some.step.next w.add_but.new.cubes.items
          c.loop-place.invariant w.in-Some.ensures w.in_ok-add_but.ensures)
          w.at-is (ap (λ v. v.items) w.cubes-is)
      | in_default w ↦
          walk_same c.args.inputs c.args.free.now c.args.from c.args.to c.args.cubes.now.items at now c.match-step_of.at
          c.match-step_of.cubes.items c.loop-place.invariant w.at-is
          (ap (λ v. v.items) w.cubes-is)
    ]

pub returns-then-are_same : goal.returns-then-are_same
returns-then-are_same c =
    walk_end c.args.inputs c.args.free.now c.args.from c.args.to c.args.cubes.now.items c.loop-place.at
    c.loop-place.cubes.items c.loop-place.invariant (c.if-are_same.ensures refl)

pub returns : goal.returns
returns c =
    on_ok_weaker c.add-2.result
    (walk_left c.args.inputs c.args.free.now c.args.from c.args.to c.args.cubes.now.items c.loop-place.at
    c.loop-place.cubes.items c.add.new.cubes.items c.add-2.new.cubes.items
    c.loop-place.invariant c.in_ok-add.ensures)
    c.add-2.ensures
