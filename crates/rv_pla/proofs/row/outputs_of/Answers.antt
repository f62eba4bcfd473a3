use Rattle.std.proofs.Common.{arith}
use Rattle.rv_pla.specs.Row.{is_output}
use Rattle.rv_pla.proofs.Rows.{from_all, from_more, all_of_none, all_from}
use Rattle.rv_pla.proofs.row.outputs_of.Goals as goal

pub loop-i-init : goal.loop-i-init
loop-i-init c =
    let row = c.args.row.now in
    record { at = omega arith; ones = from_all 49 52 row; zeros = from_all 48 48 row; dashes = from_all 45 50 row; all = all_of_none is_output row }

pub loop-i-preserved : goal.loop-i-preserved
loop-i-preserved c =
    let row = c.args.row.now in
    let i = c.loop-i.i in
    let so_far = c.loop-i.invariant in
    record {
      at = omega arith;
      ones = from_more 49 52 row i c.loop-i.ones _ c.loop-i-test.true so_far.at so_far.ones c.with_place-ones.ensures;
      zeros = from_more 48 48 row i c.loop-i.zeros _ c.loop-i-test.true so_far.at so_far.zeros c.with_place-zeros.ensures;
      dashes = from_more 45 50 row i c.loop-i.dashes _ c.loop-i-test.true so_far.at so_far.dashes c.with_place-dashes.ensures;
      all = all_from is_output row i _ c.loop-i.are_outputs c.loop-i-test.true so_far.at c.is_output-are_outputs.ensures so_far.all;
    }
