use Rattle.std.proofs.Common.{arith}
use Rattle.rv_resynth.proofs.inside.Blocks.{same_columns, columns_differ}
use Rattle.rv_resynth.proofs.block.same_rows.Goals as goal

pub returns-clause-same : goal.returns-clause-same
returns-clause-same c _ j small =
    same_columns c.args.a.now c.args.b.now c.loop-line.line j c.requires (omega arith) c.loop-line.invariant small

pub returns-then-not-same_parts-clause-differ : goal.returns-then-not-same_parts-clause-differ
returns-then-not-same_parts-clause-differ c _ =
    let found = c.same_parts.ensures.differ c.if-not-same_parts.true in
    (found.0, found.1, columns_differ c.args.a.now c.args.b.now c.loop-line.line found.0 c.loop-line-test.true c.requires found.2)
