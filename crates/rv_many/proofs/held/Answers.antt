use Rattle.std.proofs.Common.{sym, ap, ◌∙◌, ◌&&◌, arith, w64}
use Rattle.std.specs.Int.{trailing_zeros}
use Rattle.rv_gate.specs.Word.{has}
use Rattle.rv_gate.specs.Gate.{same}
use Rattle.rv_many.specs.Column.{row_bit}
use Rattle.rv_many.proofs.Columns.{bit_of-column, held_none, held_more, held_all, one_fewer}
use Rattle.rv_many.proofs.held.Goals as goal
use Rattle.rv_gate.proofs.LineSets.{lowest}

pub loop-left-init : goal.loop-left-init
loop-left-init c = held_none c.args.rows.now c.args.care c.args.want c.ones-on.result c.ones-on.ensures

pub bounds-rows-line : goal.bounds-rows-line
bounds-rows-line c =
    let at = lowest c.loop-left.left (omega arith) (omega arith) in
    c.requires _ (c.loop-left.invariant.among _ at.1)

pub loop-left-smaller : goal.loop-left-smaller
loop-left-smaller c =
    let at = lowest c.loop-left.left (omega arith) (omega arith) in
    one_fewer c.loop-left.left _ at.0 at.1

pub loop-left-preserved : goal.loop-left-preserved
loop-left-preserved c =
    let at = lowest c.loop-left.left (omega arith) (omega arith) in
    let line = trailing_zeros w64 c.loop-left.left in
    held_more c.args.rows.now c.args.care c.args.want c.loop-left.left line c.loop-left.on c.and-on.result (omega arith) (omega arith) c.loop-left.invariant
    at.1 at.0
    (λ j lt.
    c.and-on.ensures j lt
    ∙ ap (λ b. row_bit c.loop-left.on j && b)
    (c.matching.ensures j lt
    ∙ ap (same _) c.has.ensures
    ∙ ap (λ b. same b (has c.args.want line)) (sym (bit_of-column c.args.rows.now line j _ (c.requires _ (c.loop-left.invariant.among _ at.1))))))

pub returns : goal.returns
returns c = held_all c.args.rows.now c.args.care c.args.want c.loop-left.on c.requires (rw c.loop-left-test.false at c.loop-left.invariant)
