use Rattle.std.proofs.Common.{ap, ◌∙◌, arith}
use Rattle.rv_compute.specs.Lines.{logic_lines}
use Rattle.rv_compute.specs.inside.Computing.{with_gates}
use Rattle.rv_compute.specs.inside.Held.{line_count}
use Rattle.rv_compute.proofs.inside.Computed.{computed, within_more}
use Rattle.rv_compute.proofs.certificate.certified.Goals as goal

pub returns : goal.returns
returns c =
    let logic = c.args.logic.now in
    let work = c.args.plan.now.work in
    let circuit = c.in_ok-circuit.circuit in
    within_more logic (line_count logic work) (line_count logic c.args.extra) circuit (omega (arith, c.if-plan-extra.false))
    (computed logic work circuit c.args.plan.now.gates.items
    (c.in_ok-circuit.ensures
    ∙ ap (with_gates (logic_lines logic work)) (c.in_ok-gates.ensures.items ∙ c.deref-2.ensures.value))
    (c.in_ok-is_certified.ensures c.if-not-branch.false))
