use Rattle.std.proofs.Common.{ℕ, length, ◌∷◌, [], subst, arith}
use Rattle.rv_forms.specs.inside.Held.{Leads}
use Rattle.rv_joined.proofs.inside.Fewer.{ends_more}
use Rattle.rv_joined.proofs.shorter.held_after.Goals as goal

pub loop-k-preserved : goal.loop-k-preserved
loop-k-preserved c =
    ends_more c.args.setup c.args.terms.now c.args.flips.now c.loop-k.k c.index-flips-k.result c.loop-k.held.items c.step.new.held.items
    (omega (arith, c.loop-k-test.true)) c.index-flips-k.is c.loop-k.invariant
    (subst (λ (n : ℕ). Leads c.args.terms.now n c.loop-k.held.items (c.index-flips-k.result ∷ []) c.step.new.held.items) c.from-first.ensures
    (c.in_ok-step.ensures c.if-not-branch.false))
