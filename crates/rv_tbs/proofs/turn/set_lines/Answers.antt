use Rattle.std.proofs.Common.{◌∙◌, sym, arith}
use Rattle.rv_tbs.specs.Synthesis.{set_flips}
use Rattle.rv_tbs.proofs.inside.Loops.{set_row_on, set_free, row_off, row_all}
use Rattle.rv_tbs.proofs.turn.set_lines.Goals as goal
use Rattle.rv_tbs.proofs.turn.set_lines.Goals.{then-is_set_due+in_ok-push, else-is_set_due}

pub flip_under-requires-clause-free : goal.flip_under-requires-clause-free
flip_under-requires-clause-free c =
    set_free c.args.goal c.loop-line.word c.loop-line.line _ (sym c.if-is_set_due.true ∙ c.is_set_due.ensures) c.ones.ensures

pub loop-line-preserved : goal.loop-line-preserved
loop-line-preserved c =
    elim c.if-is_set_due.branch [
      | then-is_set_due+in_ok-push w ↦
          rw (w.word-is, w.gates-is)
          (set_row_on c.args.goal c.loop-line.word c.loop-line.line w.ones.result _ _ _ _ _ w.flip_under.result (omega arith)
          (sym w.if-is_set_due.true ∙ c.is_set_due.ensures) w.ones.ensures w.with_bit-word.ensures w.flip_under.ensures w.in_ok-push.ensures.items c.loop-line.invariant)
      | else-is_set_due w ↦
          rw (w.word-is, w.gates-is) (row_off (omega arith) (sym c.is_set_due.ensures ∙ w.if-is_set_due.false) c.loop-line.invariant)
    ]

pub returns-clause-word : goal.returns-clause-word
unfolding set_flips
returns-clause-word c = (row_all (omega arith) c.loop-line.invariant).1

pub returns-clause-gates : goal.returns-clause-gates
unfolding set_flips
returns-clause-gates c = (row_all (omega arith) c.loop-line.invariant).0
