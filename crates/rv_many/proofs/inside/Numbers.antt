-- The number of a word, which grows by a bit from its first line on.
use mir.Val.{bool_byte}
use Rattle.std.proofs.Common.{◌≡◌, ◌∙◌, ℕ, suc, ◌+◌, ◌*◌, ◌^◌, ◌<◌, ◌≤◌, Bool, true, false, List, [], ◌∷◌, ◌++◌, length, take, get_or, refl, ap, sym, subst, arith}
use Rattle.std.proofs.Math.Nat.{pow-le-pow_right}
use Rattle.std.proofs.lemmas.List.{length-append, length-take, take_all, take_more}
use Rattle.rv_gate.specs.Word.{number_of, word_of}
use Rattle.rv_gate.specs.inside.laws.WordLaws.{number_of-lt, word_of-number_of}

-- one more bit behind a word: its number is shifted
pub number_of-next : (word : List Bool) (bit : Bool) → number_of (word ++ bit ∷ []) ≡ number_of word * 2 + bool_byte bit
unfolding number_of
number_of-next [] true = refl
number_of-next [] false = refl
number_of-next (true ∷ word) bit =
    let e : length (word ++ bit ∷ []) ≡ suc (length word) = omega (arith, length-append word (bit ∷ [])) in
    let longer : 2 ^ length (word ++ bit ∷ []) ≡ 2 ^ suc (length word) = ap (λ n. 2 ^ n) e in
    omega (arith, longer, number_of-next word bit)
number_of-next (false ∷ word) bit = omega (arith, number_of-next word bit)

-- fewer than 64 bits leave room for one more
room_for_bit : (n : ℕ) → n < 64 → 2 ^ n ≤ 2 ^ 63
room_for_bit n few =
    let short : n ≤ 63 = omega arith in
    pow-le-pow_right {n = 2} (omega arith) short

-- ---- the number of a word

-- the number of the bits of the lines before one
abbrev pub NumberTo : List Bool → ℕ → ℕ → Type 0
NumberTo word line number = number_of (take line word) ≡ number

pub number_none : (word : List Bool) → NumberTo word 0 0
unfolding number_of
number_none word = refl

pub number_more : (word : List Bool) (line number byte : ℕ) → line < length word → byte ≡ bool_byte (get_or word line false) → NumberTo word line number → NumberTo word (line + 1) (number * 2 + byte)
number_more word line number byte lt is so_far =
    ap number_of (take_more word line false lt) ∙ number_of-next (take line word) (get_or word line false)
    ∙ ap (λ n. n * 2 + bool_byte (get_or word line false)) so_far ∙ ap (λ b. number * 2 + b) (sym is)

pub number_small : (word : List Bool) (line number : ℕ) → line < 64 → NumberTo word line number → number < 9223372036854775808
number_small word line number few so_far =
    omega (arith, so_far, number_of-lt (take line word), room_for_bit (length (take line word)) (omega (arith, length-take line word)))

pub number_all : (word : List Bool) (line number count : ℕ) → length word ≤ line → count ≡ length word → NumberTo word line number → (number < 2 ^ count) × (word_of count number ≡ word)
number_all word line number count all long so_far =
    let whole : number_of word ≡ number = ap number_of (sym (take_all line word all)) ∙ so_far in
    let P : ℕ → ℕ → Type 0 = λ n x. (x < 2 ^ n) × (word_of n x ≡ word) in
    subst (λ x. P count x) whole (subst (λ n. P n (number_of word)) (sym long) (number_of-lt word, word_of-number_of word))
