use Rattle.std.proofs.Common.{arith}
use Rattle.rv_templ.proofs.inside.CursorLaws.{live_here, before_at, cursor_here, has_before}
use Rattle.rv_templ.proofs.along.back.Goals as goal

pub prev-before-requires : goal.prev-before-requires
prev-before-requires c = live_here c.args.linked.now.nodes _ c.in-Some.node (before_at c.args.linked.now.nodes c.loop-at.at c.in-Some.node c.loop-at.before c.loop-at.invariant.cursor c.in-Some.is)

pub loop-at-preserved-in-Some : goal.loop-at-preserved-in-Some
loop-at-preserved-in-Some c = record {
  most = let le = c.loop-at.invariant.most in omega (arith, le);
  least = let le = c.loop-at.invariant.least in omega (arith, le, c.loop-at-test.true);
  cursor = cursor_here c.args.linked.now.nodes _ c.in-Some.node c.prev-before.result c.recall_invariant.ensures.once
      (before_at c.args.linked.now.nodes c.loop-at.at c.in-Some.node c.loop-at.before c.loop-at.invariant.cursor c.in-Some.is) c.prev-before.ensures;
}

pub loop-at-preserved : goal.loop-at-preserved
loop-at-preserved c = absurd (has_before c.args.linked.now.nodes c.loop-at.at c.loop-at.before c.loop-at.invariant.cursor (omega (arith, c.loop-at-test.true)) c.in_default.is)

pub returns-clause-place : goal.returns-clause-place
returns-clause-place c =
    let le = c.loop-at.invariant.most in
    let ge = c.loop-at.invariant.least in
    omega (arith, le, ge, c.loop-at-test.false)

pub returns-clause-cursor : goal.returns-clause-cursor
returns-clause-cursor c = c.loop-at.invariant.cursor
