use Rattle.std.proofs.Common.{ℕ, cond, get_or, ap, ◌∙◌}
use Rattle.rv_gate.specs.Word.{has}
use Rattle.rv_gate.specs.Gate.{xor}
use Rattle.rv_gate.proofs.Ranges.{pushed_more}
use Rattle.rv_dbs.specs.Singles.{is_changed}
use Rattle.rv_dbs.proofs.values.changes.Goals as goal

pub loop-x-preserved : goal.loop-x-preserved
loop-x-preserved c =
    pushed_more (λ v. cond {A = ℕ} (is_changed c.args.perm.now.images v) 1 0) c.loop-x.x c.value_of.result c.loop-x.values.items c.push.new.self.items
    c.in_ok-push.ensures.items c.loop-x.invariant
    (c.value_of.ensures ∙ ap (λ b. cond {A = ℕ} (xor b c.bit-in-loop-x.result) 1 0) (c.bit.ensures ∙ ap (λ y. has y 0) c.get.ensures)
    ∙ ap (λ b. cond {A = ℕ} (xor (has (get_or c.args.perm.now.images c.loop-x.x 0) 0) b) 1 0) c.bit-in-loop-x.ensures)
