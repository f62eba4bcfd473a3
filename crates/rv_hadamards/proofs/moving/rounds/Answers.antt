use Rattle.std.proofs.Common.{List, sym, ap, subst}
use Rattle.rv_net.specs.declared.op.Op.{Op}
use Rattle.rv_hadamards.specs.Becomes.{Becomes}
use Rattle.rv_hadamards.proofs.Becoming.{itself, then_becomes}
use Rattle.rv_hadamards.proofs.moving.rounds.Goals as goal
use Rattle.rv_hadamards.proofs.moving.rounds.Goals.{then-goes_on+in_ok-made, else-goes_on}

pub loop-init : goal.loop-init
loop-init c = itself c.args.lines c.args.ops.items

pub loop-preserved : goal.loop-preserved
loop-preserved c =
    let before = c.loop.invariant in
    elim c.if-goes_on.branch [
      | then-goes_on+in_ok-made w ↦
          subst (λ (l : List Op). Becomes c.args.lines c.args.ops.items l) (sym (ap (λ v. v.items) w.made-is))
          (then_becomes c.args.lines c.args.ops.items c.loop.made.items w.in_ok-made.made.items before w.in_ok-made.ensures)
      | else-goes_on w ↦ subst (λ (l : List Op). Becomes c.args.lines c.args.ops.items l) (sym (ap (λ v. v.items) w.made-is)) before
    ]
