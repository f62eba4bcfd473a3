use Rattle.std.proofs.Common.{◌∙◌, ℕ, ap, cond, nat_eq, sym, arith}
use Rattle.rv_gate.specs.Word.{ones_of}
use Rattle.rv_tbs.specs.Synthesis.{clear_flips}
use Rattle.rv_tbs.proofs.Turning.{clear_free}
use Rattle.rv_tbs.proofs.inside.Loops.{clear_row_on, row_off, row_all}
use Rattle.rv_tbs.proofs.turn.clear_lines.Goals as goal
use Rattle.rv_tbs.proofs.turn.clear_lines.Goals.{then-is_clear_due+in_ok-push, else-is_clear_due}

pub flip_under-requires-clause-free : goal.flip_under-requires-clause-free
flip_under-requires-clause-free c =
    clear_free c.args.goal c.loop-line.word c.loop-line.line _ _ (omega (arith, c.loop-line.invariant.len)) c.with_bit-after.ensures (c.controls_for.ensures ∙ ap (λ (n : ℕ). cond (nat_eq n 0) 0 (ones_of c.with_bit-after.result)) c.number-is_zero.ensures)

pub loop-line-preserved : goal.loop-line-preserved
loop-line-preserved c =
    elim c.if-is_clear_due.branch [
      | then-is_clear_due+in_ok-push w ↦
          rw (w.word-is, w.gates-is)
          (clear_row_on c.args.goal c.loop-line.word c.loop-line.line w.controls_for.result _ _ _ _ _ w.flip_under.result (omega arith)
          (sym w.if-is_clear_due.true ∙ c.is_clear_due.ensures) w.with_bit-after.ensures (w.controls_for.ensures ∙ ap (λ (n : ℕ). cond (nat_eq n 0) 0 (ones_of w.with_bit-after.result)) c.number-is_zero.ensures) w.flip_under.ensures w.in_ok-push.ensures.items c.loop-line.invariant)
      | else-is_clear_due w ↦
          rw (w.word-is, w.gates-is) (row_off (omega arith) (sym c.is_clear_due.ensures ∙ w.if-is_clear_due.false) c.loop-line.invariant)
    ]

pub returns : goal.returns
unfolding clear_flips
returns c = record { gates = (row_all (omega arith) c.loop-line.invariant).0 }
