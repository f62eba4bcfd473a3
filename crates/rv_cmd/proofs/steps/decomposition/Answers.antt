use Rattle.rv_mct.specs.Widened.{gate_count, lines_with_helpers}
use Rattle.rv_mct.specs.declared.fault.MctFault.TheVariants as fault
use Rattle.rv_cmd.proofs.inside.Common.{[], ◌∷◌, refl, MOST_GATES, MOST_LINES, few-by, few-unless, of_gates, of_lines}
use Rattle.rv_cmd.proofs.steps.decomposition.Goals as goal

pub returns-in-Ok-clause-kept : goal.returns-in-Ok-clause-kept
returns-in-Ok-clause-kept c =
    let e = c.in-Ok.ensures in
    let gates = gate_count c.args.aux c.args.circuit.now in
    let few = few-by fault.TooManyLines (lines_with_helpers c.args.aux c.args.circuit.now) MOST_LINES c.in-Ok.decomposed e.too_many_lines in
    (few, (few-unless c.in-Ok.decomposed (fault.TooManyGates gates) gates MOST_GATES (λ many. (e.too_many_gates gates).1 (few, refl, many)), tt))

pub returns-in-Err-TooManyLines-clause-unmade : goal.returns-in-Err-TooManyLines-clause-unmade
returns-in-Err-TooManyLines-clause-unmade c =
    let e = c.in-Err-TooManyLines in
    c.too_many_lines.ensures (lines_with_helpers c.args.aux c.args.circuit.now) [] (of_gates (gate_count c.args.aux c.args.circuit.now) ∷ []) tt
    ((e.ensures.too_many_lines e.count).0 (rw e.field-0-is refl))

pub returns-in-Err-TooManyGates-clause-unmade : goal.returns-in-Err-TooManyGates-clause-unmade
returns-in-Err-TooManyGates-clause-unmade c =
    let e = c.in-Err-TooManyGates in
    let why = (e.ensures.too_many_gates e.count).0 (rw e.field-0-is refl) in
    c.too_many_gates.ensures (gate_count c.args.aux c.args.circuit.now) (of_lines (lines_with_helpers c.args.aux c.args.circuit.now) MOST_LINES ∷ []) [] (why.0, tt) (why.1, why.2)
