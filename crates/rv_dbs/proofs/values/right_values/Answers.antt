use Rattle.std.proofs.Common.{ℕ, cond, ap, ◌∙◌}
use Rattle.rv_gate.specs.Word.{has}
use Rattle.rv_gate.specs.Gate.{xor}
use Rattle.rv_gate.proofs.Ranges.{pushed_more}
use Rattle.rv_dbs.specs.Walk.{side, right}
use Rattle.rv_dbs.proofs.values.right_values.Goals as goal

pub loop-y-preserved : goal.loop-y-preserved
loop-y-preserved c =
    pushed_more (λ v. cond {A = ℕ} (right c.args.perm.now.lines c.args.k c.args.perm.now.images v) 1 0) c.loop-y.y c.value_of.result c.loop-y.values.items c.push.new.self.items
    c.in_ok-push.ensures.items c.loop-y.invariant
    (c.value_of.ensures ∙ ap (λ b. cond {A = ℕ} (xor b c.side.result) 1 0) c.bit.ensures ∙ ap (λ b. cond {A = ℕ} (xor (has c.loop-y.y c.args.k) b) 1 0) c.side.ensures
    ∙ ap (λ x. cond {A = ℕ} (xor (has c.loop-y.y c.args.k) (side c.args.perm.now.lines c.args.k c.args.perm.now.images x)) 1 0) c.inverse_get.ensures.value)
