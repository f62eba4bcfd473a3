-- A token as it is mostly written.
use Rattle.std.proofs.Common.{◌≡◌, ◌≤◌, ◌<◌, ◌+◌, ℕ, true, false, List, [], length, get_or, drop, drop-cons, slice_range, refl, arith, nat_eq}
use Rattle.std.proofs.lemmas.Bool.{ne_eqb}
use Rattle.rv_text.specs.Tokens.{tokens_of, tokens_from, inside, is_blank}
use Rattle.rv_text.proofs.TokenSteps.{goes_on_plain}

other_byte : (byte c : ℕ) → 35 < byte → c ≤ 35 → nat_eq byte c ≡ false
other_byte byte c over low = ne_eqb byte c (λ same. absurd (omega (arith, same)))

no_blank : (byte : ℕ) → 35 < byte → is_blank [] byte ≡ false
no_blank byte over = rw (other_byte byte 32 over (omega arith), other_byte byte 9 over (omega arith), other_byte byte 13 over (omega arith)) refl

-- a byte over `#` begins a token
pub begins : (line : List ℕ) (i : ℕ) → i < length line → 35 < get_or line i 0 → tokens_of true [] (drop i line) ≡ tokens_from true [] (inside []) (drop i line)
begins line i lt over = rw (drop-cons line i 0 lt, no_blank _ over, other_byte _ 35 over (omega arith), other_byte _ 34 over (omega arith)) refl

-- and goes on with it
pub goes_on : (line : List ℕ) (start i : ℕ) → start ≤ i → i < length line → 35 < get_or line i 0
    → tokens_from true [] (inside (slice_range line start i)) (drop i line) ≡ tokens_from true [] (inside []) (drop start line)
    → tokens_from true [] (inside (slice_range line start (i + 1))) (drop (i + 1) line) ≡ tokens_from true [] (inside []) (drop start line)
goes_on line start i le lt over so_far = goes_on_plain true [] line start i _ le lt (no_blank _ over) (λ same. absurd (omega (arith, same))) so_far
