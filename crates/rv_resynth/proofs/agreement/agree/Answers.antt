use Rattle.std.proofs.Common.{◌≡◌, ◌≤◌, ◌^◌, ◌*◌, length, take, arith}
use Rattle.std.proofs.lemmas.List.{length-take-le}
use Rattle.std.proofs.lemmas.Nat.{or_lt}
use Rattle.rv_gate.proofs.LineSets.{Within-below}
use Rattle.rv_resynth.proofs.inside.Frame.{fit_by_set}
use Rattle.rv_resynth.proofs.inside.Blocks.{agree_more}
use Rattle.rv_resynth.proofs.inside.Agreeing.{agree_all, covers_span}
use Rattle.rv_resynth.proofs.agreement.agree.Goals as goal

pub agree_in-requires-clause-old : goal.agree_in-requires-clause-old
agree_in-requires-clause-old c =
    fit_by_set c.span.result 64 c.args.old.now (Within-below c.span.result 64 (omega arith)) (rw c.span.ensures
    (covers_span c.args.old.now))

pub agree_in-requires-clause-new : goal.agree_in-requires-clause-new
agree_in-requires-clause-new c =
    fit_by_set c.span-2.result 64 c.args.new.now (Within-below c.span-2.result 64 (omega arith)) (rw c.span-2.ensures
    (covers_span c.args.new.now))

pub loop-block-preserved : goal.loop-block-preserved
loop-block-preserved c =
    agree_more c.args.old.now c.args.new.now
    (take c.list_lines-count.result c.list_lines-count.new.room) c.loop-block.block c.loop-block.invariant
    (c.agree_in.ensures.agree c.if-not-agree_in.false)

pub returns-clause-agree : goal.returns-clause-agree
returns-clause-agree c _ =
    let lines = take c.list_lines-count.result c.list_lines-count.new.room in
    let long : length lines ≡ c.list_lines-count.result = length-take-le _ _ (omega arith) in
    let all : 2 ^ c.list_lines-count.result ≤ 256 * c.loop-block.block = omega arith in
    agree_all c.args.old.now c.args.new.now c.span.result c.span-2.result lines
    (256 * c.loop-block.block) c.span.ensures c.span-2.ensures (or_lt 64 c.span.result c.span-2.result
    (omega arith) (omega arith)) c.list_lines-count.ensures.lists (rw long all) c.loop-block.invariant
