-- Numbers of a permutation as words that are read back.
use Rattle.std.proofs.Common.{ℕ, ◌<◌, List, [], ◌∷◌, map, refl, arith, decimal, ne_eqb}
use Rattle.std.specs.Prelude.{All}
use Rattle.std.specs.List.{AllByRecursion}
use Rattle.std.proofs.lemmas.List.Elements.{All-head, All-tail}
use Rattle.rv_text.specs.inside.Writable.{ArePlainWords}
use Rattle.rv_text.proofs.inside.Decimal.{HasNoDigit, decimal_word}
use Rattle.rv_perm.specs.Line.{separators}

-- numbers that can be images
abbrev pub Small : List ℕ → Type 0
Small ns = AllByRecursion (λ n. n < 65536) ns

pub small_numbers : (ns : List ℕ) → All (λ n. n < 65536) ns → Small ns
small_numbers [] h = tt
small_numbers (n ∷ ns) h = (All-head (λ n. n < 65536) n ns h, small_numbers ns (All-tail (λ n. n < 65536) n ns h))

pub separators_no_digit : HasNoDigit separators
separators_no_digit c h =
    rw (ne_eqb 44 c (λ e. omega (arith, e, h.0)), ne_eqb 123 c (λ e. omega (arith, e, h.1)), ne_eqb 125 c (λ e. omega (arith, e, h.1)), ne_eqb 91 c (λ e. omega (arith, e, h.1)), ne_eqb 93 c (λ e. omega (arith, e, h.1))) refl

-- numbers are words, where no digit is a blank
pub decimal_words : (blanks : List ℕ) → HasNoDigit blanks → (ns : List ℕ) → Small ns → ArePlainWords blanks (map decimal ns)
decimal_words blanks free [] h = tt
decimal_words blanks free (n ∷ ns) h = (decimal_word blanks free n (omega (arith, h.0)), decimal_words blanks free ns h.1)
