use Rattle.std.proofs.Common.{Result, Err, [], ◌∷◌, ap}
use Rattle.rv_gate.specs.declared.word.TheConstants.{MOST_LINES}
use Rattle.rv_mct.specs.Widened.{lines_with_helpers}
use Rattle.rv_net.specs.declared.net.Net.{Net}
use Rattle.rv_ladder.specs.Counts.{operations, relative_count}
use Rattle.rv_ladder.specs.declared.mapping.RelativeFault.{RelativeFault}
use Rattle.rv_cmd.specs.Limits.{of_lines, of_ops}
use Rattle.rv_cmd.proofs.Laws.Map.{joined-answers}
use Rattle.rv_cmd.proofs.commands.map.joined_mapping.Goals as goal

abbrev unmapped : RelativeFault → Result Net RelativeFault
unmapped fault = Err fault

pub returns-in-Ok-clause-made : goal.returns-in-Ok-clause-made
returns-in-Ok-clause-made c =
    joined-answers c.args.aux c.args.circuit.now c.in-Ok.net c.in-Ok.ensures.too_many_lines c.in-Ok.ensures.too_many_ops c.in-Ok.net c.in-Ok.ensures.ok

pub returns-in-Err-TooManyLines-clause-unmade : goal.returns-in-Err-TooManyLines-clause-unmade
returns-in-Err-TooManyLines-clause-unmade c =
    let e = c.in-Err-TooManyLines in
    let aux = c.args.aux in
    let circuit = c.args.circuit.now in
    let why = (e.ensures.too_many_lines e.count).0 (ap unmapped e.field-0-is) in
    c.too_many_lines.ensures (lines_with_helpers aux circuit) [] (of_ops (relative_count operations aux circuit) ∷ []) tt (why.0, why.1)

pub returns-in-Err-TooManyOps-clause-unmade : goal.returns-in-Err-TooManyOps-clause-unmade
returns-in-Err-TooManyOps-clause-unmade c =
    let e = c.in-Err-TooManyOps in
    let aux = c.args.aux in
    let circuit = c.args.circuit.now in
    let why = (e.ensures.too_many_ops e.count).0 (ap unmapped e.field-0-is) in
    c.too_many_ops.ensures (relative_count operations aux circuit) (of_lines (lines_with_helpers aux circuit) MOST_LINES ∷ []) [] (why.0, tt) (why.1, why.2)
