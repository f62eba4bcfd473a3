use Rattle.rv_diagram.proofs.FirstApart.{least_none, least_more}
use Rattle.rv_diagram.proofs.diagram.Diagram.first_word.Goals as goal

pub loop-input-init : goal.loop-input-init
loop-input-init c = least_none c.args.self.now c.args.differ c.requires.differ

pub loop-input-preserved : goal.loop-input-preserved
loop-input-preserved c =
    rw c.from.ensures
    (least_more c.args.self.now c.loop-input.self c.narrow.new.self c.args.differ c.loop-input.left c.loop-input.input c.loop-input.number c.in_ok-narrowed.narrowed c.loop-input.invariant
    c.in_ok-narrowed.ensures.keeps c.in_ok-narrowed.ensures.narrowed)
