use Rattle.std.proofs.Common.{ℕ, ◌+◌, ◌*◌, min, ap, sym, ◌∙◌}
use Rattle.rv_text.proofs.inside.Decimal.{number_more, digits_more}
use Rattle.rv_text.proofs.number.decimal_value.Goals as goal

pub loop-byte-preserved : goal.loop-byte-preserved
loop-byte-preserved c = (
  c.min-n.ensures ∙ ap (λ (d : ℕ). min (c.loop-byte.n * 10 + d) (c.args.most + 1)) c.from.ensures
      ∙ number_more _ _ _ (c.args.most + 1) c.loop-byte-test.true (sym c.is_ascii_digit.ensures.value ∙ c.if-not-is_ascii_digit.false) c.loop-byte.invariant.0,
  digits_more _ _ c.loop-byte-test.true (sym c.is_ascii_digit.ensures.value ∙ c.if-not-is_ascii_digit.false) ∙ c.loop-byte.invariant.1,
)
