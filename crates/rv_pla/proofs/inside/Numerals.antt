-- Numbers as words.
use Rattle.std.proofs.Common.{ℕ, ◌<◌, ◌^◌, refl, arith, decimal, ne_eqb}
use Rattle.rv_text.specs.inside.Writable.{IsPlainWord}
use Rattle.rv_text.proofs.inside.Decimal.{HasNoDigit, decimal_word}
use Rattle.rv_pla.specs.Line.{bar}

bar_no_digit : HasNoDigit bar
bar_no_digit c h = rw (ne_eqb 124 c (λ e. omega (arith, e, h.1))) refl

-- a number is a word
pub number_word : (n : ℕ) → n < 2 ^ 64 → IsPlainWord bar (decimal n)
number_word n small = decimal_word bar bar_no_digit n small
