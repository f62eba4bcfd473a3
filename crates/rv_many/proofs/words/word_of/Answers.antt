use mir.Val.{bool_byte}
use Rattle.std.proofs.Common.{◌∙◌, length, sym, ap, arith}
use Rattle.rv_many.specs.Column.{column}
use Rattle.rv_many.proofs.Columns.{bit_of-column, length-column}
use Rattle.rv_many.proofs.inside.Numbers.{number_all, number_more, number_none, number_small}
use Rattle.rv_many.proofs.words.word_of.Goals as goal
use Rattle.rv_gate.proofs.Bits.{bool_byte-le}

pub loop-row-init : goal.loop-row-init
loop-row-init c = number_none (column c.args.rows.now c.args.place)

pub overflow_mul-number : goal.overflow_mul-number
overflow_mul-number c =
    omega (arith, number_small (column c.args.rows.now c.args.place) c.loop-row.row-index c.loop-row.number (omega arith) c.loop-row.invariant)

pub overflow_add-number : goal.overflow_add-number
overflow_add-number c =
    omega (arith, bool_byte-le c.bit.result, c.from.ensures, number_small (column c.args.rows.now c.args.place) c.loop-row.row-index c.loop-row.number (omega arith) c.loop-row.invariant)

pub loop-row-preserved : goal.loop-row-preserved
loop-row-preserved c =
    let rows = c.args.rows.now in
    let place = c.args.place in
    let line = c.loop-row.row-index in
    number_more (column rows place) line c.loop-row.number c.from.result (omega (arith, length-column rows place))
    (c.from.ensures ∙ ap bool_byte (c.bit.ensures ∙ sym (bit_of-column rows line place _ (omega arith)))) c.loop-row.invariant

pub unreachable-requires : goal.unreachable-requires
unreachable-requires c =
    let long = length-column c.args.rows.now c.args.place in
    let all = number_all (column c.args.rows.now c.args.place) c.loop-row.row-index c.loop-row.number (length c.args.rows.now) (omega (arith, long)) (sym long) c.loop-row.invariant in
    c.in_default.ensures (omega arith, all.0)

pub returns : goal.returns
returns c =
    let long = length-column c.args.rows.now c.args.place in
    let all = number_all (column c.args.rows.now c.args.place) c.loop-row.row-index c.loop-row.number (length c.args.rows.now) (omega (arith, long)) (sym long) c.loop-row.invariant in
    c.in-Some.ensures.1 ∙ all.1
