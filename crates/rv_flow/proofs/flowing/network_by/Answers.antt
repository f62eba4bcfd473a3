use Rattle.std.proofs.Common.{ℕ, Result, Err, inr, arith, ap, sym, ◌∙◌}
use Rattle.rv_mct.specs.declared.decomposing.Decomposed.{Decomposed}
use Rattle.rv_mct.specs.declared.fault.MctFault.{MctFault}
use Rattle.rv_net.specs.declared.expanding.ExpandFault.{ExpandFault}
use Rattle.rv_net.specs.declared.net.Net.{Net}
use Rattle.rv_flow.specs.declared.flowing.FlowFault.TheVariants.{Gates}
use Rattle.rv_flow.proofs.Laws.{circuit-helpers, gates-refused, made-lines, network-carries, network-few, network-made, ops-refused}
use Rattle.rv_flow.proofs.flowing.network_by.Goals as goal

abbrev undecomposed : MctFault → Result Decomposed MctFault
undecomposed fault = Err fault

abbrev unexpanded : ExpandFault → Result Net ExpandFault
unexpanded fault = Err fault

pub unreachable-requires : goal.unreachable-requires
unreachable-requires c =
    let e = c.in-Err-TooManyLines in
    let why = (e.ensures.too_many_lines e.field-0-0).0 (ap undecomposed e.field-0-is) in
    omega (arith, why.0, why.1, circuit-helpers c.args.aux c.args.circuit.now c.recall_invariant.ensures c.requires, c.requires)

pub returns-in-Err-TooManyGates-clause-answer : goal.returns-in-Err-TooManyGates-clause-answer
returns-in-Err-TooManyGates-clause-answer c =
    let e = c.in-Err-TooManyGates in
    let why = (e.ensures.too_many_gates e.count).0 (ap undecomposed e.field-0-is) in
    inr (gates-refused c.args.aux c.args.circuit.now e.count why.1 why.2 ∙ ap (λ (n : ℕ). Err (Gates n)) (sym e.count-is))

pub returns-in-Ok-expand-clause-answer : goal.returns-in-Ok-expand-clause-answer
returns-in-Ok-expand-clause-answer c =
    network-made c.args.aux c.args.circuit.now c.in-Ok.decomposed.circuit c.in-Ok.decomposed c.recall_invariant.ensures c.requires
    c.in-Ok.ensures.circuit c.in-Ok.ensures.too_many_gates c.in-Ok-expand.net c.in-Ok-expand.net c.in-Ok-expand.ensures.net c.in-Ok-expand.ensures.too_many

pub returns-in-Ok-expand-clause-lines : goal.returns-in-Ok-expand-clause-lines
returns-in-Ok-expand-clause-lines c =
    made-lines c.args.aux c.args.circuit.now c.in-Ok.decomposed.circuit c.in-Ok.decomposed c.recall_invariant.ensures c.requires
    c.in-Ok.ensures.circuit c.in-Ok.ensures.too_many_gates c.in-Ok-expand.net c.in-Ok-expand.ensures.net

pub returns-in-Ok-expand-clause-few : goal.returns-in-Ok-expand-clause-few
returns-in-Ok-expand-clause-few c =
    network-few c.args.aux c.args.circuit.now c.in-Ok.decomposed.circuit c.in-Ok.decomposed c.recall_invariant.ensures c.requires
    c.in-Ok.ensures.circuit c.in-Ok.ensures.too_many_gates c.in-Ok-expand.net c.in-Ok-expand.ensures.net

pub returns-in-Ok-expand-clause-carries : goal.returns-in-Ok-expand-clause-carries
returns-in-Ok-expand-clause-carries c =
    network-carries c.args.aux c.args.circuit.now c.in-Ok.decomposed.circuit c.in-Ok.decomposed c.recall_invariant.ensures c.requires
    c.in-Ok.ensures.circuit c.in-Ok.ensures.too_many_gates c.in-Ok-expand.net c.in-Ok.decomposed.added c.in-Ok-expand.ensures.net c.in-Ok.ensures.added
    c.in-Ok.ensures.extends c.in-Ok-expand.ensures.carries

pub returns-in-Err-TooManyOps-clause-answer : goal.returns-in-Err-TooManyOps-clause-answer
returns-in-Err-TooManyOps-clause-answer c =
    let e = c.in-Err-TooManyOps in
    let why = (e.ensures.too_many e.count).0 (ap unexpanded e.field-0-is) in
    inr (ops-refused c.args.aux c.args.circuit.now c.in-Ok.decomposed.circuit c.in-Ok.decomposed c.recall_invariant.ensures c.requires
    c.in-Ok.ensures.circuit c.in-Ok.ensures.too_many_gates e.count why.0 why.1)
