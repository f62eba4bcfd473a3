use Rattle.std.proofs.Common.{◌+◌, ◌*◌, ◌∙◌, false, get_or, ap, sym, arith}
use Rattle.std.specs.List.{between}
use Rattle.std.proofs.lemmas.List.{get_or_past}
use Rattle.rv_gate.specs.Word.{bit_of}
use Rattle.rv_many.specs.Column.{column, row_bit}
use Rattle.rv_many.proofs.Columns.{blank, length-column}
use Rattle.rv_many.proofs.Transposed.{bit_of-column_any, part_at}
use Rattle.rv_many.proofs.inside.Squares.{numbers_all, numbers_more}
use Rattle.rv_many.proofs.words.sets_of.Goals as goal

pub loop-block-preserved : goal.loop-block-preserved
loop-block-preserved c =
    let rows = c.args.rows.now in
    let kept = c.loop-block.invariant in
    let block = c.loop-block.block in
    let place = c.args.place in
    record {
      block = omega (arith, c.loop-block-test.true, c.requires.within);
      numbers = c.put_columns.ensures.numbers;
      bits = numbers_more c.loop-block.sets c.put_columns.new.numbers c.square_of_rows.result block _ (λ i j. bit_of (column rows (place + i)) j) c.square_of_rows.ensures c.put_columns.ensures.columns c.put_columns.ensures.others kept.bits
          (λ i j li lj.
          bit_of-column_any (between (8 * block) c.min-end.result rows) j (place + i)
          ∙ ap (λ row. row_bit row (place + i)) (ap (λ k. get_or (between (8 * block) k rows) j blank) c.min-end.ensures ∙ part_at rows (8 * block) j blank lj)
          ∙ sym (bit_of-column_any rows (8 * block + j) (place + i)));
    }

pub returns-clause-bits : goal.returns-clause-bits
returns-clause-bits c =
    let rows = c.args.rows.now in
    numbers_all c.loop-block.sets c.loop-block.block _ c.loop-block.invariant.bits
    (λ i j lt past. get_or_past (column rows (c.args.place + i)) j false (omega (arith, c.loop-block-test.false, length-column rows (c.args.place + i))))
