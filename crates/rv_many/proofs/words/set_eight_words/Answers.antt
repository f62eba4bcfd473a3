use Rattle.std.proofs.Common.{◌≡◌, ◌+◌, ◌∙◌, [], arith}
use Rattle.rv_many.specs.Column.{column}
use Rattle.rv_many.proofs.Transposed.{column_by_lines, set_below}
use Rattle.rv_many.proofs.words.set_eight_words.Goals as goal

pub unreachable-requires : goal.unreachable-requires
unreachable-requires c =
    let by = column_by_lines c.args.rows.now (c.args.place + c.loop-i.i) c.number_by.result c.requires.within (omega arith)
    (λ j lt. c.number_by.ensures j lt ∙ c.sets_of-sets.ensures.bits c.loop-i.i j (omega arith) lt) in
    c.in_default.ensures (omega (arith, c.requires.within), by.0)

pub loop-i-preserved : goal.loop-i-preserved
loop-i-preserved c =
    let by = column_by_lines c.args.rows.now (c.args.place + c.loop-i.i) c.number_by.result c.requires.within (omega arith)
    (λ j lt. c.number_by.ensures j lt ∙ c.sets_of-sets.ensures.bits c.loop-i.i j (omega arith) lt) in
    set_below (λ j word. word ≡ column c.args.rows.now (c.args.place + j)) c.loop-i.words c.loop-i.i _ [] (omega arith) c.loop-i.invariant (c.in-Some.ensures.1 ∙ by.1)
