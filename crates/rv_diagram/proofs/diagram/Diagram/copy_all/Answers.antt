use Rattle.std.proofs.Common.{arith}
use Rattle.rv_diagram.proofs.inside.Copying.{copied_all, copied_more, copied_none}
use Rattle.rv_diagram.proofs.diagram.Diagram.copy_all.Goals as goal

pub loop-place-init : goal.loop-place-init
loop-place-init c = copied_none c.args.old.now c.args.self.now c.args.copies.now c.args.edges.now c.requires.copies

pub loop-place-preserved : goal.loop-place-preserved
loop-place-preserved c =
    copied_more c.args.old.now c.args.self.now c.loop-place.self c.copy.new.self c.loop-place.copies c.copy.new.copies c.args.edges.now c.loop-place.edges c.loop-place.place _
    c.in_ok-made.made (omega (arith, c.loop-place-test.true, c.loop-place.invariant.count)) c.loop-place.invariant c.in_ok-made.ensures.keeps c.in_ok-made.ensures.copies c.in_ok-made.ensures.copy

pub returns-clause-edges : goal.returns-clause-edges
returns-clause-edges c = copied_all c.args.old.now c.args.self.now c.loop-place.self c.loop-place.copies c.args.edges.now c.loop-place.edges c.loop-place.place (omega (arith, c.loop-place-test.false, c.loop-place.invariant.count)) c.loop-place.invariant
