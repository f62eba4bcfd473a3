use Rattle.std.proofs.Common.{arith}
use Rattle.rv_compare.proofs.inside.Rows.{kept_same, kept_more, kept_all, kept_count}
use Rattle.rv_compare.proofs.block.keep_outputs.Goals.{then-not-garbage-line, else-not-garbage-line}
use Rattle.rv_compare.proofs.block.keep_outputs.Goals as goal

pub loop-line-preserved : goal.loop-line-preserved
loop-line-preserved c =
    elim c.if-not-garbage-line.branch [
      | then-not-garbage-line w ↦
          rw (w.rows-is, w.kept-is)
          (kept_more c.args.garbage.now c.args.rows.now c.loop-line.rows c.loop-line.line c.loop-line.kept (omega arith) (omega arith) w.if-not-garbage-line.true c.loop-line.invariant)
      | else-not-garbage-line w ↦
          rw (w.rows-is, w.kept-is)
          (kept_same c.args.garbage.now c.args.rows.now c.loop-line.rows c.loop-line.line c.loop-line.kept (omega arith) (omega arith) w.if-not-garbage-line.false c.loop-line.invariant)
    ]

pub returns-clause-words : goal.returns-clause-words
returns-clause-words c = kept_all c.args.garbage.now c.args.rows.now c.loop-line.rows c.loop-line.line c.loop-line.kept (omega arith) c.loop-line.invariant

pub returns-clause-count : goal.returns-clause-count
returns-clause-count c = kept_count c.args.garbage.now c.args.rows.now c.loop-line.rows c.loop-line.kept c.requires (omega arith) (returns-clause-words c 0)
