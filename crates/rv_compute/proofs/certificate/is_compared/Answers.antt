use Rattle.std.proofs.Common.{sym, ◌∙◌}
use Rattle.rv_compute.proofs.Gives.{computes_compared}
use Rattle.rv_compute.proofs.certificate.is_compared.Goals as goal

pub returns : goal.returns
returns c same =
    computes_compared c.args.logic.now c.input_count-inputs.result c.args.plan.now.work c.deref-2.result.now
    c.deref.result.now c.args.plan.now.gates.items c.deref-3.result.now c.args.circuit.now
    c.input_count-inputs.ensures.value c.deref-3.ensures.value
    (c.deref.ensures.len ∙ sym c.len.ensures ∙ c.if-len-output_count.false ∙ c.output_count.ensures.value) c.requires.is
    (c.in_ok-follows.ensures c.if-not-branch.false) (c.in_ok-same.ensures same)
