use Rattle.std.proofs.Common.{◌∙◌, ◌++◌, ◌∷◌, [], List, arith, sym, ap, subst, length}
use Rattle.rv_net.specs.Op.{Network, OpFitsIn}
use Rattle.rv_net.specs.declared.op.Op.{Op}
use Rattle.rv_turns.proofs.inside.Standing.{fits_at, kept_more, kept_none, kept_part}
use Rattle.rv_turns.proofs.joining.write.Goals.{in-Some+in_ok-push, in_default}
use Rattle.rv_turns.proofs.joining.write.Goals as goal

pub push-requires-clause-fits : goal.push-requires-clause-fits
push-requires-clause-fits c =
    subst (λ n. OpFitsIn c.in-Some.op n) (sym (ap (λ (m : Network). m.lines) c.loop-op.invariant))
    (fits_at c.args.lines c.args.made.now c.loop-op.op-index c.in-Some.op c.in-Some.is c.requires.fitting)

pub push-requires-clause-room : goal.push-requires-clause-room
push-requires-clause-room c = omega (arith, ap (λ (m : Network). length m.ops) c.loop-op.invariant, kept_part c.args.made.now c.loop-op.op-index c.loop-op-test.true, c.requires.bounded)

pub loop-op-preserved : goal.loop-op-preserved
loop-op-preserved c =
    elim c.match-op.branch [
      | in-Some+in_ok-push w ↦
          w.net-is
          ∙ w.in_ok-push.ensures
          ∙ ap (λ (m : Network). record m { ops = m.ops ++ w.in-Some.op ∷ [] }) c.loop-op.invariant
          ∙ ap (λ (l : List Op). record { lines = c.args.lines; ops = l }) (sym (kept_more c.args.made.now c.loop-op.op-index w.in-Some.op c.loop-op-test.true w.in-Some.is))
      | in_default w ↦
          w.net-is
          ∙ c.loop-op.invariant
          ∙ ap (λ (l : List Op). record { lines = c.args.lines; ops = l }) (sym (kept_none c.args.made.now c.loop-op.op-index c.loop-op-test.true w.in_default.is))
    ]
