use Rattle.std.proofs.Common.{Err, ap, arith}
use Rattle.rv_realize.proofs.Cascades.{cascade_realized, too_long}
use Rattle.rv_realize.proofs.first.by_cascade.Goals as goal

pub returns-in-Ok-clause-realized : goal.returns-in-Ok-clause-realized
returns-in-Ok-clause-realized c =
    let few = c.if-lines-most.false in
    let inputs = c.inputs.ensures.value in
    let outputs = c.outputs.ensures.value in
    cascade_realized c.args.pla.now c.args.most c.in_ok-list.list c.in-Ok.circuit c.in-Ok.ensures.circuit c.in_ok-list.ensures.inputs
    c.in_ok-list.ensures.outputs c.in_ok-list.ensures.right c.in-Ok.ensures.adds (omega arith)

pub returns-in-Err-TooManyGates-clause-too_many_gates : goal.returns-in-Err-TooManyGates-clause-too_many_gates
returns-in-Err-TooManyGates-clause-too_many_gates c _ =
    let few = c.if-lines-most.false in
    let inputs = c.inputs.ensures.value in
    let outputs = c.outputs.ensures.value in
    let count = c.in-Err-TooManyGates.field-0-0 in
    let why = (c.in-Err-TooManyGates.ensures.too_many count).0 (ap Err c.in-Err-TooManyGates.field-0-is) in
    too_long c.args.pla.now c.args.most count c.in_ok-list.list c.requires (omega arith) c.in_ok-list.ensures.list why.0 why.1
