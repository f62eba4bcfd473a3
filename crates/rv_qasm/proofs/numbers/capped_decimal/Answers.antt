use Rattle.std.proofs.Common.{ℕ, ◌+◌, ◌*◌, min, ap, sym, ◌∙◌}
use Rattle.rv_text.proofs.inside.Decimal.{number_more, digits_more}
use Rattle.rv_qasm.specs.declared.numbers.TheConstants.{BEYOND}
use Rattle.rv_qasm.proofs.numbers.capped_decimal.Goals as goal

pub loop-byte-preserved : goal.loop-byte-preserved
loop-byte-preserved c = (
  c.min-n.ensures ∙ ap (λ (d : ℕ). min (c.loop-byte.n * 10 + d) BEYOND) c.from.ensures
      ∙ number_more _ _ _ BEYOND c.loop-byte-test.true (sym c.is_ascii_digit.ensures.value ∙ c.if-not-is_ascii_digit.false) c.loop-byte.invariant.0,
  digits_more _ _ c.loop-byte-test.true (sym c.is_ascii_digit.ensures.value ∙ c.if-not-is_ascii_digit.false) ∙ c.loop-byte.invariant.1,
)
