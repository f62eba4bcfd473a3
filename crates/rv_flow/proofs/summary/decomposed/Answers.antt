use Rattle.std.proofs.Common.{Result, Err, ◌+◌, length, ap, arith, ◌∙◌}
use Rattle.rv_mct.specs.Blocks.{cost_of}
use Rattle.rv_mct.specs.declared.aux.Aux.TheVariants.{Borrowed}
use Rattle.rv_mct.specs.declared.decomposing.Decomposed.{Decomposed}
use Rattle.rv_mct.specs.declared.fault.MctFault.{MctFault}
use Rattle.rv_flow.proofs.summary.decomposed.Goals as goal

abbrev failed : MctFault → Result Decomposed MctFault
failed fault = Err fault

pub returns-in-Ok-clause-count : goal.returns-in-Ok-clause-count
returns-in-Ok-clause-count c =
    let circuit = c.args.circuit.now in
    c.in-Ok.ensures.count ∙ ap (λ k. cost_of Borrowed (length circuit.names + k) circuit.gates) c.in-Ok.ensures.added

pub unreachable-requires : goal.unreachable-requires
unreachable-requires c =
    let e = c.in-Err-TooManyLines in
    let why = (e.ensures.too_many_lines e.field-0-0).0 (ap failed e.field-0-is) in
    omega (arith, why.0, why.1, c.requires.lines)

pub unreachable-requires-in-Err-TooManyGates : goal.unreachable-requires-in-Err-TooManyGates
unreachable-requires-in-Err-TooManyGates c =
    let e = c.in-Err-TooManyGates in
    let why = (e.ensures.too_many_gates e.field-0-0).0 (ap failed e.field-0-is) in
    omega (arith, why.1, why.2, c.requires.gates)
