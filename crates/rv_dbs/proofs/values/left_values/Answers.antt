use Rattle.std.proofs.Common.{ℕ, cond, ap, ◌∙◌}
use Rattle.rv_gate.specs.Word.{has}
use Rattle.rv_gate.specs.Gate.{xor}
use Rattle.rv_gate.proofs.Ranges.{pushed_more}
use Rattle.rv_dbs.specs.Walk.{left}
use Rattle.rv_dbs.proofs.values.left_values.Goals as goal

pub loop-x-preserved : goal.loop-x-preserved
loop-x-preserved c =
    let n : ℕ = c.args.perm.now.lines in
    pushed_more (λ v. cond {A = ℕ} (left c.args.perm.now.lines c.args.k c.args.perm.now.images v) 1 0) c.loop-x.x c.value_of.result c.loop-x.values.items c.push.new.self.items
    c.in_ok-push.ensures.items c.loop-x.invariant
    (c.value_of.ensures ∙ ap (λ b. cond {A = ℕ} (xor b c.side.result) 1 0) c.bit.ensures ∙ ap (λ b. cond {A = ℕ} (xor (has c.loop-x.x c.args.k) b) 1 0) c.side.ensures)
