use Rattle.std.proofs.Common.{◌≡◌, length, sym, ◌∙◌, ap, set, arith}
use Rattle.rv_gate.proofs.inside.WordLemmas.{length_seen, word_with-set_one, word_with-set_zero, set_one-lt, set_zero-lt}
use Rattle.rv_gate.specs.Word.{word_with}
use Rattle.rv_gate.proofs.word.Word.with_bit.Goals as goal
use Rattle.rv_gate.proofs.word.Word.with_bit.Goals.{then-bit, else-bit}

pub invariant_of-result : goal.invariant_of-result
invariant_of-result c =
    let len : length c.args.self ≡ c.self.inside.len = length_seen _ _ _ c.self.view_is in (
      c.self.invariant.0,
      elim c.if-bit.branch [
        | then-bit w ↦ rw w.ones-is (set_one-lt _ _ _ (omega arith) c.self.invariant.0 c.self.invariant.1)
        | else-bit w ↦ rw w.ones-is (set_zero-lt _ _ _ c.self.invariant.1)
      ],
    )

pub returns : goal.returns
returns c =
    let n = c.self.inside.len in
    let s = c.self.inside.ones in
    let len : length c.args.self ≡ n = length_seen _ _ _ c.self.view_is in
    rw (← c.self.view_is)
    (elim c.if-bit.branch [
      | then-bit w ↦ ap (word_with n) w.ones-is ∙ word_with-set_one n s c.args.line (omega arith) c.self.invariant.0 ∙ ap (set (word_with n s) c.args.line) (sym w.if-bit.true)
      | else-bit w ↦ ap (word_with n) w.ones-is ∙ word_with-set_zero n s c.args.line (omega arith) c.self.invariant.0 ∙ ap (set (word_with n s) c.args.line) (sym w.if-bit.false)
    ])
