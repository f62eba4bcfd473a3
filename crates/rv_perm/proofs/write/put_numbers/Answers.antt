use Rattle.std.proofs.Common.{◌<◌, ◌≤◌, length, arith}
use Rattle.rv_perm.proofs.inside.CellLemmas.{word_count, sending_more, sending_all}
use Rattle.rv_perm.proofs.write.put_numbers.Goals as goal

pub loop-x-preserved : goal.loop-x-preserved
loop-x-preserved g c =
    let count = word_count c.args.perm.now.lines c.lines.result c.args.perm.now.images c.lines.ensures.value c.lines.ensures.valid in
    let within : c.loop-x.x < length c.args.perm.now.images = omega (arith, count) in
    sending_more c.args.perm.now.images c.loop-x.x c.loop-x.column c.next_column-column.result c.get.result c.get.ensures within c.next_column-column.ensures.next c.next_column-column.ensures.bound c.loop-x.invariant c.put_cell.ensures

pub returns : goal.returns
returns g c =
    let count = word_count c.args.perm.now.lines c.lines.result c.args.perm.now.images c.lines.ensures.value c.lines.ensures.valid in
    let all : length c.args.perm.now.images ≤ c.loop-x.x = omega (arith, count) in
    sending_all c.args.perm.now.images c.loop-x.x c.loop-x.column all c.loop-x.invariant c.put_row_end.ensures
