use Rattle.rv_hadamards.proofs.Becoming.{itself, then_becomes}
use Rattle.rv_hadamards.proofs.moving.round.Goals as goal

pub loop-line-init : goal.loop-line-init
loop-line-init c = itself c.args.lines c.args.ops.items

pub loop-line-preserved : goal.loop-line-preserved
loop-line-preserved c =
    then_becomes c.args.lines c.args.ops.items c.loop-line.made.items c.in_ok-made.made.items c.loop-line.invariant c.in_ok-made.ensures
