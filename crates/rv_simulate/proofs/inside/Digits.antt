-- The digits of a word, eight at a time.
use Rattle.std.proofs.Common.{◌≡◌, ◌∙◌, ℕ, zero, suc, ◌+◌, ◌-◌, ◌*◌, ◌/◌, ◌%◌, ◌^◌, ◌<◌, ◌≤◌, eqb, Bool, false, List, [], ◌∷◌, ◌++◌, length, map, take, refl, ap, sym, arith, inl, inr, w64, ext_get_or, drop}
use Rattle.std.specs.Prelude.{bit_and, bit_or}
use Rattle.std.specs.Int.{to_le_bytes}
use Rattle.std.proofs.lemmas.Bool.{cases_eq}
use Rattle.std.proofs.lemmas.List.{length-append, length-drop, length-map, length-take, length-take-le, map-append, take-append-le, take-map, take-take, take_all}
use Rattle.std.proofs.Math.Seq.{take-append-add}
use Rattle.std.proofs.lemmas.Nat.{and_mask, div-add-mod', shr-shr}
use Rattle.std.proofs.lemmas.Nat.Bits.{bit_at_cat_low}
use borrow.Rule.Slice.PartMut.{post_of, put_mid}
use Rattle.std.proofs.lemmas.Slice.{take-put_mid}
use Rattle.rv_gate.specs.Word.{has, ones_of, word_with}
use Rattle.rv_gate.specs.inside.laws.WordLaws.{bit_of-word_with, length-word_with}
use Rattle.rv_gate.proofs.inside.Ones.{word_with-ones_of}
use Rattle.rv_text.specs.Bytes.{bit_byte}

-- the digits of eight lines, by the steps of `digits_of`
abbrev spread : ℕ → List ℕ
spread lines = to_le_bytes w64 (bit_or (bit_and (bit_or (bit_and lines 127 * 4432676798593) (lines * 562949953421312 % 18446744073709551616)) 72340172838076673) 3472328296227680304)

abbrev below : ℕ → List ℕ
below zero = []
below (suc n) = n ∷ below n

same_below : (f g : ℕ → List ℕ) (n i : ℕ) → i < n → map f (below n) ≡ map g (below n) → f i ≡ g i
same_below f g zero i lt same = absurd (omega (arith, lt))
same_below f g (suc n) i lt same =
    elim (cases_eq i n) [
      | inl is ↦ let head : f n ≡ g n = cc in ap f is ∙ head ∙ ap g (sym is)
      | inr other ↦ let rest : map f (below n) ≡ map g (below n) = cc in same_below f g n i (omega (arith, lt, other)) rest
    ]

all_spread : map spread (below 256) ≡ map (λ lines. map bit_byte (word_with 8 lines)) (below 256)
unfolding word_with
all_spread = refl

pub digits_spread : (lines : ℕ) → lines < 256 → spread lines ≡ map bit_byte (word_with 8 lines)
digits_spread lines lt = same_below spread (λ lines. map bit_byte (word_with 8 lines)) 256 lines lt all_spread

word_with-same : (n x y : ℕ) → ((i : ℕ) → i < n → has x i ≡ has y i) → word_with n x ≡ word_with n y
word_with-same n x y same =
    ext_get_or false (word_with n x) (word_with n y) (length-word_with n x ∙ sym (length-word_with n y))
    (λ i lt. let within : i < n = omega (arith, lt, length-word_with n x) in bit_of-word_with n x i within ∙ same i within ∙ sym (bit_of-word_with n y i within))

-- only the lowest eight lines count
lowest_eight : (lines : ℕ) → word_with 8 (bit_and lines 255) ≡ word_with 8 lines
lowest_eight lines =
    let low : bit_and lines 255 ≡ lines % 256 = and_mask lines 8 in
    ap (word_with 8) low
    ∙ word_with-same 8 (lines % 256) lines
    (λ i lt. ap (λ b. eqb b 1) (sym (bit_at_cat_low (lines / 256) 8 (lines % 256) i lt)) ∙ ap (λ x. has x i) (div-add-mod' lines 256))

word_with-append : (n m x : ℕ) → word_with (n + m) x ≡ word_with n x ++ word_with m (x / 2 ^ n)
unfolding word_with
word_with-append zero m x = let whole : x ≡ x / 2 ^ 0 = omega arith in let none : 0 + m ≡ m = omega arith in ap (λ k. word_with k x) none ∙ ap (word_with m) whole
word_with-append (suc n) m x =
    let longer : suc n + m ≡ suc (n + m) = omega arith in
    let sum : 1 + n ≡ suc n = omega arith in
    ap (λ k. word_with k x) longer
    ∙ ap (λ rest. has x 0 ∷ rest) (word_with-append n m (x / 2) ∙ ap (λ y. word_with n (x / 2) ++ word_with m y) (shr-shr x 1 n ∙ ap (λ k. x / 2 ^ k) sum))

pub digits_none : (ones : ℕ) → [] ≡ map bit_byte (word_with 0 ones)
unfolding word_with
digits_none ones = refl

-- the digits of the lines before one stand in the text, of which eight more are set
pub digits_more : (ones line end : ℕ) (text digits : List ℕ) → end ≡ line + 8 → line ≤ length text → digits ≡ map bit_byte (word_with 8 (bit_and (ones / 2 ^ line) 255))
    → take line text ≡ map bit_byte (word_with line ones) → take end (put_mid line (end - line) text digits) ≡ map bit_byte (word_with end ones)
digits_more ones line end text digits sum room is before =
    grind (
      arith,
      length-map,
      word_with,
      bit_and,
      bit_byte,
      length-word_with,
      take-put_mid,
      lowest_eight,
      word_with-append,
      map-append,
    )

-- all lines of a word have their digits
pub digits_all : (word : List Bool) (ones line : ℕ) (text : List ℕ) → ones ≡ ones_of word → length word ≤ line → take line text ≡ map bit_byte (word_with line ones)
    → take (length word) text ≡ map bit_byte word
digits_all word ones line text is short before =
    let rest : line ≡ length word + (line - length word) = omega (arith, short) in
    let front : take (length word) (word_with line ones) ≡ word_with (length word) ones =
    ap (λ k. take (length word) (word_with k ones)) rest
    ∙ ap (take (length word)) (word_with-append (length word) (line - length word) ones)
    ∙ take-append-le (length word) (word_with (length word) ones) (word_with (line - length word) (ones / 2 ^ length word)) (omega (arith, length-word_with (length word) ones))
    ∙ take_all (length word) (word_with (length word) ones) (omega (arith, length-word_with (length word) ones)) in
    sym (take-take (length word) line text short)
    ∙ ap (take (length word)) before
    ∙ take-map bit_byte (length word) (word_with line ones)
    ∙ ap (map bit_byte) (front ∙ ap (word_with (length word)) is ∙ word_with-ones_of word)

-- a part behind others is set
pub length-behind : (len size : ℕ) (text behind : List ℕ) → length text ≡ size → len ≤ size → length behind ≡ length (take (size - len) (drop len text)) → length (put_mid len (size - len) text behind) ≡ size
length-behind len size text behind whole within same =
    grind (arith, put_mid, post_of, length-append, length-drop, length-take)

pub take-behind : (len more size : ℕ) (text behind answer : List ℕ) → length text ≡ size → len + more ≤ size → length behind ≡ length (take (size - len) (drop len text)) → take more behind ≡ answer
    → take (len + more) (put_mid len (size - len) text behind) ≡ take len text ++ answer
take-behind len more size text behind answer whole within same is =
    grind (arith, post_of, length-take-le, length-take, length-drop, take-append-add, take-append-le)
