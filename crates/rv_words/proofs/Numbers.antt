-- The number that a few digits write.
use Rattle.std.proofs.Common.{◌≡◌, ℕ, ◌+◌, ◌≤◌, ◌^◌, min, true, false, List, length, Option, Some, None, MatchOption, ap, arith, refl}
use Rattle.std.proofs.lemmas.Bool.{lt-ltb}
use Rattle.rv_text.specs.Decimal.{is_decimal, decimal_value}
use Rattle.rv_text.proofs.inside.Decimal.{decimal_value-few}
use Rattle.rv_words.specs.Values.{number_written}

pub number_is : (digits : ℕ) (text : List ℕ) (answer : Option ℕ) → length text ≤ digits
    → MatchOption answer (is_decimal text ≡ false) (λ n. (is_decimal text ≡ true) × (n ≡ min (decimal_value text) (10 ^ digits)))
    → answer ≡ number_written digits text
number_is digits text None few h = rw h refl
number_is digits text (Some n) few h =
    rw (h.0, lt-ltb (length text) (digits + 1) (omega (arith, few))) (ap Some (decimal_value-few text digits n h.0 few h.1))
