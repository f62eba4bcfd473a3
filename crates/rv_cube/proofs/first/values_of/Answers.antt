use Rattle.rv_gate.specs.Word.{word_of}
use Rattle.rv_cube.specs.First.{outputs_at}
use Rattle.rv_gate.proofs.Ranges.{pushed_more}
use Rattle.rv_cube.proofs.first.values_of.Goals as goal

pub loop-input-preserved : goal.loop-input-preserved
loop-input-preserved c =
    pushed_more (λ x. outputs_at c.args.pla.now (word_of c.args.pla.now.inputs x)) c.loop-input.input c.outputs_at.result c.loop-input.values.items
    c.push.new.self.items c.in_ok-push.ensures.items c.loop-input.invariant c.outputs_at.ensures
