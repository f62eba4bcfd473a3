-- Decimal numbers: one digit more, and what is written of a number.
use Rattle.std.proofs.Common.{◌≡◌, ℕ, ◌+◌, ◌-◌, ◌*◌, ◌<◌, ◌≤◌, ◌^◌, min, true, false, List, [], ◌∷◌, length, get_or, take, drop, nat_eq, refl, arith, rules, add-one, drop-cons, decimal, ne_eqb}
use Rattle.std.specs.Char.{is_ascii_digit}
use Rattle.std.specs.List.{list_all, list_any}
use Rattle.std.specs.Int.{IsInRange}
use Rattle.std.specs.Str.{all_ascii_digits}
use Rattle.std.specs.Str.Parse.{AllDigits}
use Rattle.std.proofs.lemmas.Bool.{and_parts, lt-ltb}
use Rattle.std.proofs.lemmas.Fmt.{decimal_is_IsNumeral, decimal_nonempty, digits_decimal, digits_value-decimal, length-decimal-le}
use Rattle.std.proofs.lemmas.Int.Digits.{digits_value_more}
use Rattle.std.proofs.lemmas.Str.{digit_value_digit}
use Rattle.std.proofs.lemmas.Str.Parse.{IsNumeralModel, numerals_by_value, tells_digits, tells_all_ascii_digits, digit_at, digits_value_short}
use Rattle.rv_text.specs.Decimal.{is_count, is_decimal, decimal_value}
use Rattle.rv_text.specs.inside.Writable.{is_word_byte, IsPlainWord}

pub digit_range : (c : ℕ) → is_ascii_digit c ≡ true → IsInRange 48 57 c
digit_range c h = (tells_all_ascii_digits.parts c [] (rw h refl)).0

-- one digit more, with all numbers from `most` on as one
pub number_more : (bytes : List ℕ) (i n most : ℕ) → i < length bytes → is_ascii_digit (get_or bytes i 0) ≡ true → n ≡ min (decimal_value (take i bytes)) most
    → min (n * 10 + (get_or bytes i 0 - 48)) most ≡ min (decimal_value (take (i + 1) bytes)) most
number_more bytes i n most lt h e =
    rw (digits_value_more 10 bytes i lt) (omega (arith, digit_value_digit (get_or bytes i 0) (digit_range _ h)))

pub digits_more : (bytes : List ℕ) (i : ℕ) → i < length bytes → is_ascii_digit (get_or bytes i 0) ≡ true → all_ascii_digits (drop (i + 1) bytes) ≡ all_ascii_digits (drop i bytes)
digits_more bytes i lt h = rw (add-one, drop-cons bytes i 0, h) refl

own : IsNumeralModel (λ ds. all_ascii_digits ds ≡ true) decimal_value
own = numerals_by_value _ (search rules)

-- a number of few digits is small
pub decimal_value-lt : (digits : List ℕ) (k : ℕ) → all_ascii_digits digits ≡ true → length digits ≤ k → decimal_value digits < 10 ^ k
decimal_value-lt digits k h few = digits_value_short own digits k h few

-- and is not cut off
pub decimal_value-few : (digits : List ℕ) (k n : ℕ) → is_decimal digits ≡ true → length digits ≤ k → n ≡ min (decimal_value digits) (10 ^ k) → n ≡ decimal_value digits
decimal_value-few digits k n is few e =
    let small = decimal_value-lt digits k (and_parts _ _ is).1 few in
    omega (arith, e, small)

-- ---- what is written of a number

pub is_decimal-decimal : (n : ℕ) → n < 2 ^ 64 → is_decimal (decimal n) ≡ true
is_decimal-decimal n small = rw (lt-ltb 0 (length (decimal n)) (decimal_nonempty n small), digits_decimal own n small) refl

pub decimal_value-decimal : (n : ℕ) → n < 2 ^ 64 → decimal_value (decimal n) ≡ n
decimal_value-decimal n small = digits_value-decimal own n small

-- a number of at most two digits is a count
pub count_is : (n : ℕ) → 1 ≤ n → n < 100 → is_count (decimal n) ≡ true
count_is n some few =
    let small : n < 2 ^ 64 = omega arith in
    let short = length-decimal-le 2 n (omega arith) (omega arith) small in
    rw (is_decimal-decimal n small, decimal_value-decimal n small, lt-ltb (length (decimal n)) 10 (omega (arith, short)), lt-ltb 0 n (omega arith)) refl

pub decimal_no_dot : (n : ℕ) → n < 2 ^ 64 → nat_eq (get_or (decimal n) 0 0) 46 ≡ false
decimal_no_dot n small =
    let is = (decimal_is_IsNumeral n small).0 in
    let range = digit_at (decimal n) 0 is.1 is.0 in
    ne_eqb _ _ (λ e. omega (arith, e, range.0))

-- no digit is one of the bytes
abbrev pub HasNoDigit : List ℕ → Type 0
HasNoDigit blanks = (c : ℕ) → IsInRange 48 57 c → list_any (λ b. nat_eq b c) blanks ≡ false

digit_byte : (blanks : List ℕ) → HasNoDigit blanks → (c : ℕ) → IsInRange 48 57 c → is_word_byte blanks c ≡ true
digit_byte blanks free c h =
    rw (ne_eqb c 32 (λ e. omega (arith, e, h.0)), ne_eqb c 9 (λ e. omega (arith, e, h.0)), ne_eqb c 13 (λ e. omega (arith, e, h.0)), free c h, ne_eqb c 35 (λ e. omega (arith, e, h.0)), ne_eqb c 34 (λ e. omega (arith, e, h.0)), ne_eqb c 10 (λ e. omega (arith, e, h.0))) refl

digit_bytes : (blanks : List ℕ) → HasNoDigit blanks → (ds : List ℕ) → AllDigits 10 ds → list_all (is_word_byte blanks) ds ≡ true
digit_bytes blanks free [] h = refl
digit_bytes blanks free (c ∷ cs) h =
    let p = tells_digits.parts c cs h in
    rw (digit_byte blanks free c p.0) (digit_bytes blanks free cs p.1)

-- a number is a word, where no digit is a blank
pub decimal_word : (blanks : List ℕ) → HasNoDigit blanks → (n : ℕ) → n < 2 ^ 64 → IsPlainWord blanks (decimal n)
decimal_word blanks free n small =
    let is = (decimal_is_IsNumeral n small).0 in
    (is.0, digit_bytes blanks free (decimal n) is.1)
