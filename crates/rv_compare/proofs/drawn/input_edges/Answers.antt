use Rattle.std.proofs.Common.{◌∙◌, sym}
use Rattle.rv_compare.proofs.inside.Drawn.{inputs_more, went_well}
use Rattle.rv_compare.proofs.drawn.input_edges.Goals as goal

pub loop-input-preserved : goal.loop-input-preserved
loop-input-preserved c =
    rw (c.push.ensures.items, went_well c.push.result (sym c.is_err.ensures.value ∙ c.if-is_err.false))
    (inputs_more c.args.diagram.now c.loop-input.diagram c.literal.new.self c.loop-input.signals.items c.loop-input.input c.in_ok-edge.edge
    c.loop-input.invariant c.in_ok-edge.ensures.keeps c.in_ok-edge.ensures.edge c.in_ok-edge.ensures.value)
