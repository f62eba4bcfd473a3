use Rattle.std.proofs.Common.{arith}
use Rattle.rv_pla.specs.Row.{is_input}
use Rattle.rv_pla.proofs.Rows.{from_all, from_more, all_of_none, all_from}
use Rattle.rv_pla.proofs.row.inputs_of.Goals as goal

pub loop-i-init : goal.loop-i-init
loop-i-init c =
    let row = c.args.row.now in
    record { at = omega arith; care = from_all 48 49 row; want = from_all 49 49 row; all = all_of_none is_input row }

pub loop-i-preserved : goal.loop-i-preserved
loop-i-preserved c =
    let row = c.args.row.now in
    let i = c.loop-i.i in
    let so_far = c.loop-i.invariant in
    record {
      at = omega arith;
      care = from_more 48 49 row i c.loop-i.care _ c.loop-i-test.true so_far.at so_far.care c.with_place-care.ensures;
      want = from_more 49 49 row i c.loop-i.want _ c.loop-i-test.true so_far.at so_far.want c.with_place-want.ensures;
      all = all_from is_input row i _ c.loop-i.are_inputs c.loop-i-test.true so_far.at c.is_input-are_inputs.ensures so_far.all;
    }
