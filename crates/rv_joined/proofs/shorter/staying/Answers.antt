use Rattle.std.proofs.Common.{arith, ap, subst, sym, ◌∙◌}
use Rattle.rv_joined.specs.inside.Shorter.{AreFlips}
use Rattle.rv_joined.proofs.inside.Fewer.{flips_more, flips_none}
use Rattle.rv_joined.proofs.shorter.staying.Goals.{then-k-gone+then-not-gone-k+in_ok-push, else-k-gone}
use Rattle.rv_joined.proofs.shorter.staying.Goals as goal

pub loop-k-init : goal.loop-k-init
loop-k-init c = flips_none c.args.setup c.new-left.result.items c.new-left.ensures.items

pub loop-k-preserved : goal.loop-k-preserved
loop-k-preserved c =
    elim c.if-k-gone.branch [
      | then-k-gone+then-not-gone-k+in_ok-push w ↦
          subst (AreFlips c.args.setup) (sym (ap (λ v. v.items) w.left-is ∙ w.in_ok-push.ensures.items))
          (flips_more c.args.setup c.args.flips.now c.loop-k.left.items c.loop-k.k w.index-flips-k.result (omega (arith, c.loop-k-test.true))
          w.index-flips-k.is c.requires c.loop-k.invariant)
      | else-k-gone w ↦ subst (AreFlips c.args.setup) (sym (ap (λ v. v.items) w.left-is)) c.loop-k.invariant
    ]
