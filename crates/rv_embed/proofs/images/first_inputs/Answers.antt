use Rattle.std.proofs.Common.{◌-◌, ◌*◌, ◌^◌, ap, arith}
use Rattle.std.proofs.lemmas.Nat.{one_shl}
use Rattle.rv_gate.proofs.Ranges.{pushed_more}
use Rattle.rv_embed.proofs.images.first_inputs.Goals as goal

pub loop-x-preserved : goal.loop-x-preserved
loop-x-preserved c =
    pushed_more (λ x. x * 2 ^ (c.args.lines - c.args.inputs)) c.loop-x.x _ c.loop-x.numbers.items c.push.new.self.items c.in_ok-push.ensures.items c.loop-x.invariant
    (ap (λ s. c.loop-x.x * s) (one_shl (c.args.lines - c.args.inputs) 32 (omega arith)))
