use Rattle.std.proofs.Common.{◌<◌, ◌∙◌, length, refl, sym, arith, length-set}
use Rattle.std.proofs.lemmas.List.{take_more_set}
use Rattle.rv_gate.specs.Word.{has}
use Rattle.rv_mct.proofs.Rising.{count_zero}
use Rattle.rv_search.proofs.LineLaws.{count_on, count_off, lists_none, lists_more, lists_same}
use Rattle.rv_search.proofs.lines.list_lines.Goals as goal
use Rattle.rv_search.proofs.lines.list_lines.Goals.{then-has, else-has}

pub loop-line-init : goal.loop-line-init
loop-line-init c =
    record {
      room = refl;
      few = omega arith;
      value = sym (count_zero
          (has c.args.set));
      lists = lists_none c.args.set c.args.room.now;
    }

pub loop-line-preserved : goal.loop-line-preserved
loop-line-preserved c =
    let room = c.loop-line.room in
    let line = c.loop-line.line in
    let number = c.loop-line.count in
    let same = c.loop-line.invariant.room in
    let few = c.loop-line.invariant.few in
    let lt : number < length room = omega arith in
    elim c.if-has.branch [
      | then-has w ↦
          rw (w.room-is, w.count-is)
          (record {
            room = length-set room number line ∙ same;
            few = omega arith;
            value = count_on c.args.set line number (sym c.has.ensures ∙ w.if-has.true) c.loop-line.invariant.value;
            lists = rw (take_more_set room number line lt) (lists_more c.args.set line _
                (omega arith) c.loop-line.invariant.lists);
          })
      | else-has w ↦
          rw (w.room-is, w.count-is)
          (record {
            room = same;
            few = omega arith;
            value = count_off c.args.set line number (sym c.has.ensures ∙ w.if-has.false) c.loop-line.invariant.value;
            lists = lists_same c.args.set line _ (sym c.has.ensures ∙ w.if-has.false) c.loop-line.invariant.lists;
          })
    ]
