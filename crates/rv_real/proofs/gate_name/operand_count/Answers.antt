use Rattle.std.proofs.Common.{◌≡◌, ℕ, ◌≤◌, min, true, List, length, refl, arith}
use Rattle.std.proofs.lemmas.Bool.{lt-ltb}
use Rattle.rv_text.specs.Decimal.{is_decimal, is_short_decimal, decimal_value}
use Rattle.rv_text.proofs.inside.Decimal.{decimal_value-few}
use Rattle.rv_real.proofs.gate_name.operand_count.Goals as goal

few_digits : (digits : List ℕ) (n : ℕ) → is_decimal digits ≡ true → length digits ≤ 3 → n ≡ min (decimal_value digits) 1000
    → (is_short_decimal 3 digits ≡ true) × (n ≡ decimal_value digits)
few_digits digits n is few e =
    (rw (is, lt-ltb (length digits) 4 (omega (arith, few))) refl, decimal_value-few digits 3 n is few e)

pub returns-in-Some : goal.returns-in-Some
returns-in-Some c = few_digits c.args.digits.now c.in-Some.n c.in-Some.ensures.0 (omega arith) c.in-Some.ensures.1
