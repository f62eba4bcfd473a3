-- One more byte of a token.
use Rattle.std.proofs.Common.{◌≡◌, ◌≢◌, ℕ, suc, ◌+◌, ◌-◌, ◌<◌, ◌≤◌, Bool, true, false, List, [], ◌∷◌, ◌++◌, length, get_or, drop, slice_range, refl, ◌∙◌, add-one, arith, drop-cons, nat_eq, length-drop, get_or-drop}
use Rattle.std.proofs.Math.Seq.{take-suc}
use Rattle.std.proofs.lemmas.Bool.{ne_eqb}
use Rattle.rv_text.specs.Tokens.{Lexeme, tokens_from, inside, quoting, is_blank}

pub step_plain : (quotes : Bool) (blanks line begun : List ℕ) (i : ℕ) → i < length line → is_blank blanks (get_or line i 0) ≡ false → nat_eq (get_or line i 0) 35 ≡ false
    → tokens_from quotes blanks (inside (begun ++ get_or line i 0 ∷ [])) (drop (i + 1) line) ≡ tokens_from quotes blanks (inside begun) (drop i line)
step_plain quotes blanks line begun i lt h k = rw (add-one, drop-cons line i 0, h, k) refl

pub step_quoted : (blanks line begun : List ℕ) (i : ℕ) → i < length line → nat_eq (get_or line i 0) 34 ≡ false
    → tokens_from true blanks (quoting (begun ++ get_or line i 0 ∷ [])) (drop (i + 1) line) ≡ tokens_from true blanks (quoting begun) (drop i line)
step_quoted blanks line begun i lt h = rw (add-one, drop-cons line i 0, h) refl

pub range_more : (line : List ℕ) (start i : ℕ) → start ≤ i → i < length line → slice_range line start (i + 1) ≡ slice_range line start i ++ get_or line i 0 ∷ []
range_more line start i le lt =
    let k : i + 1 - start ≡ suc (i - start) = omega arith in
    let at : start + (i - start) ≡ i = omega arith in
    let inside_it : i - start < length (drop start line) = omega (arith, length-drop start line) in
    rw (k, take-suc (drop start line) (i - start) 0 inside_it, get_or-drop start line (i - start) 0, at) refl

pub goes_on_plain : (quotes : Bool) (blanks line : List ℕ) (start i : ℕ) (all : List Lexeme) → start ≤ i → i < length line → is_blank blanks (get_or line i 0) ≡ false → get_or line i 0 ≢ 35
    → tokens_from quotes blanks (inside (slice_range line start i)) (drop i line) ≡ all
    → tokens_from quotes blanks (inside (slice_range line start (i + 1))) (drop (i + 1) line) ≡ all
goes_on_plain quotes blanks line start i all le lt h ne so_far = rw (range_more line start i le lt) (step_plain quotes blanks line (slice_range line start i) i lt h (ne_eqb _ _ ne) ∙ so_far)

pub goes_on_quoted : (blanks line : List ℕ) (start i : ℕ) (all : List Lexeme) → start ≤ i → i < length line → get_or line i 0 ≢ 34
    → tokens_from true blanks (quoting (slice_range line start i)) (drop i line) ≡ all
    → tokens_from true blanks (quoting (slice_range line start (i + 1))) (drop (i + 1) line) ≡ all
goes_on_quoted blanks line start i all le lt ne so_far = rw (range_more line start i le lt) (step_quoted blanks line (slice_range line start i) i lt (ne_eqb _ _ ne) ∙ so_far)
