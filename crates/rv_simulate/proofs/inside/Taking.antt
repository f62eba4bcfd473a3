-- The bits that a number holds, as more of them are put behind it.
use mir.Val.{bool_byte}
use Rattle.std.proofs.Common.{◌≡◌, ◌∙◌, ℕ, ◌+◌, ◌-◌, ◌*◌, ◌^◌, ◌<◌, ◌≤◌, ◌&&◌, Bool, true, false, List, [], ◌∷◌, ◌++◌, length, map, take, drop, get_or, refl, ap, sym, subst, arith, append_assoc}
use Rattle.std.specs.Cmp.Derive.{both_true}
use Rattle.std.specs.List.{list_all}
use Rattle.std.proofs.lemmas.List.{append-nil, length-append, length-drop, length-map, length-take, length-take-le, map-append, take-take, take_more}
use Rattle.std.proofs.Math.Nat.{pow-le-pow_right}
use Rattle.std.proofs.Math.Seq.{take-add}
use Rattle.std.proofs.lemmas.Nat.{pow-add}
use Rattle.std.proofs.lemmas.Bool.{lt-ltb, le-ltb}
use Rattle.std.proofs.lemmas.List.Folds.{list_all-append}
use Rattle.rv_gate.specs.Word.{number_of, word_of}
use Rattle.rv_gate.specs.inside.laws.WordLaws.{length-word_of, number_of-lt, number_of-word_of_small, word_of-number_of}
use Rattle.rv_gate.specs.declared.word.TheConstants.{MOST_LINES}
use Rattle.rv_simulate.specs.Simulation.{is_bit}
use Rattle.rv_simulate.specs.inside.WordLine.{IsOctet, WordLine, after_bytes, is_one, with_bit}
use Rattle.rv_simulate.proofs.inside.Bits.{bits_taken, digit_value}
use Rattle.rv_many.proofs.inside.Numbers.{number_of-next}

-- one bit more behind the number of a word
pub pushed : (count number : ℕ) (bit : Bool) → number < 2 ^ count → (word_of (count + 1) (number * 2 + bool_byte bit) ≡ word_of count number ++ bit ∷ []) × (number * 2 + bool_byte bit < 2 ^ (count + 1))
pushed count number bit small =
    let word : List Bool = word_of count number ++ bit ∷ [] in
    let size : length (word_of count number ++ bit ∷ []) ≡ count + 1 = length-append (word_of count number) (bit ∷ []) ∙ ap (λ n. n + 1) (length-word_of count number) in
    let value : number_of (word_of count number ++ bit ∷ []) ≡ number * 2 + bool_byte bit = number_of-next (word_of count number) bit ∙ ap (λ n. n * 2 + bool_byte bit) (number_of-word_of_small count number small) in
    let P : ℕ → ℕ → Type 0 = λ n x. (word_of n x ≡ word_of count number ++ bit ∷ []) × (x < 2 ^ n) in
    subst (λ x. P (count + 1) x) value (subst (λ n. P n (number_of (word_of count number ++ bit ∷ []))) size (word_of-number_of word, number_of-lt word))

-- so many bytes were taken, and their bits stand behind those of a number
pub record Taking (number count : ℕ) (bytes : List ℕ) (most taken now : ℕ) : Type 0 where
  pub within : taken ≤ most
  pub small : now < 2 ^ (count + taken)
  pub bits : list_all is_bit (take taken bytes) ≡ true
  pub word : word_of (count + taken) now ≡ word_of count number ++ map is_one (take taken bytes)

pub taking_none : (number count : ℕ) (bytes : List ℕ) (most : ℕ) → number < 2 ^ count → Taking number count bytes most 0 number
taking_none number count bytes most small =
    let same : count ≡ count + 0 = omega arith in
    record {
      within = omega arith;
      small = subst (λ n. number < 2 ^ n) same small;
      bits = refl;
      word = ap (λ n. word_of n number) (sym same) ∙ sym (append-nil (word_of count number));
    }

pub taking_more : (number count : ℕ) (bytes : List ℕ) (most taken now byte : ℕ) → taken < most → most ≤ length bytes → get_or bytes taken 0 ≡ byte → is_bit byte ≡ true
    → Taking number count bytes most taken now → Taking number count bytes most (taken + 1) (now * 2 + (byte - 48))
taking_more number count bytes most taken now byte lt most_le at is before =
    let next : take (taken + 1) bytes ≡ take taken bytes ++ byte ∷ [] = take_more bytes taken 0 (omega (arith, lt, most_le)) ∙ ap (λ b. take taken bytes ++ b ∷ []) at in
    let more = pushed (count + taken) now (is_one byte) before.small in
    let sum : count + taken + 1 ≡ count + (taken + 1) = omega arith in
    let value : now * 2 + bool_byte (is_one byte) ≡ now * 2 + (byte - 48) = ap (λ n. now * 2 + n) (sym (digit_value byte is).1) in
    record {
      within = omega (arith, lt);
      small = subst (λ n. now * 2 + (byte - 48) < 2 ^ n) sum (subst (λ x. x < 2 ^ (count + taken + 1)) value more.1);
      bits = ap (list_all is_bit) next ∙ list_all-append is_bit (take taken bytes) (byte ∷ []) ∙ both_true before.bits (ap (λ b. b && true) is);
      word = ap (λ n. word_of n (now * 2 + (byte - 48))) (sym sum) ∙ ap (word_of (count + taken + 1)) (sym value) ∙ more.0 ∙ ap (λ w. w ++ is_one byte ∷ []) before.word
          ∙ append_assoc (word_of count number) (map is_one (take taken bytes)) (is_one byte ∷ [])
          ∙ ap (λ more. word_of count number ++ more) (sym (ap (map is_one) next ∙ map-append is_one (take taken bytes) (byte ∷ [])));
    }

number_of-behind : (word more : List Bool) → length more ≡ 8 → number_of (word ++ more) ≡ number_of word * 256 + number_of more
unfolding number_of
number_of-behind [] more size = omega arith
number_of-behind (true ∷ word) more size =
    let sum : length (word ++ more) ≡ 8 + length word = omega (arith, length-append word more, size) in
    let longer : 2 ^ length (word ++ more) ≡ 256 * 2 ^ length word = ap (λ n. 2 ^ n) sum ∙ pow-add 2 8 (length word) in
    omega (arith, longer, number_of-behind word more size)
number_of-behind (false ∷ word) more size = omega (arith, number_of-behind word more size)

-- eight bits more behind the number of a word
pushed_8 : (count number : ℕ) (more : List Bool) → number < 2 ^ count → length more ≡ 8
    → (word_of (count + 8) (number * 256 + number_of more) ≡ word_of count number ++ more) × (number * 256 + number_of more < 2 ^ (count + 8))
pushed_8 count number more small size =
    let word : List Bool = word_of count number ++ more in
    let long : length (word_of count number ++ more) ≡ count + 8 = length-append (word_of count number) more ∙ omega (arith, length-word_of count number, size) in
    let value : number_of (word_of count number ++ more) ≡ number * 256 + number_of more =
    number_of-behind (word_of count number) more size ∙ ap (λ n. n * 256 + number_of more) (number_of-word_of_small count number small) in
    let P : ℕ → ℕ → Type 0 = λ n x. (word_of n x ≡ word_of count number ++ more) × (x < 2 ^ n) in
    subst (λ x. P (count + 8) x) value (subst (λ n. P n (number_of (word_of count number ++ more))) long (word_of-number_of word, number_of-lt word))

pub taking_fits : (number count : ℕ) (bytes : List ℕ) (most taken now : ℕ) → count + most ≤ 64 → Taking number count bytes most taken now → now < 18446744073709551616
taking_fits number count bytes most taken now few t = grind (arith, pow-le-pow_right)

pub taking_octet : (number count : ℕ) (bytes : List ℕ) (most taken now octet : ℕ) → most ≤ length bytes → IsOctet octet (take (most - taken) (drop taken bytes))
    → Taking number count bytes most taken now → Taking number count bytes most (taken + 8) (now * 256 + octet)
taking_octet number count bytes most taken now octet most_le is before =
    let chunk : List ℕ = take 8 (drop taken bytes) in
    let room : taken + 8 ≤ most = omega (arith, is.within, length-take (most - taken) (drop taken bytes)) in
    let same : take 8 (take (most - taken) (drop taken bytes)) ≡ chunk = take-take 8 (most - taken) (drop taken bytes) (omega (arith, room)) in
    let next : take (taken + 8) bytes ≡ take taken bytes ++ chunk = take-add taken 8 bytes in
    let bits : List Bool = map is_one chunk in
    let size : length (map is_one (take 8 (drop taken bytes))) ≡ 8 = length-map (take 8 (drop taken bytes)) is_one ∙ omega (arith, length-take 8 (drop taken bytes), length-drop taken bytes, room, most_le) in
    let value : octet ≡ number_of bits = is.number ∙ ap (λ bytes. number_of (map is_one bytes)) same in
    let more = pushed_8 (count + taken) now bits before.small size in
    let sum : count + taken + 8 ≡ count + (taken + 8) = omega arith in
    let P : ℕ → ℕ → Type 0 = λ n x. (word_of n x ≡ word_of (count + taken) now ++ bits) × (x < 2 ^ n) in
    let made = subst (λ n. P n (now * 256 + octet)) sum (subst (λ o. P (count + taken + 8) (now * 256 + o)) (sym value) more) in
    record {
      within = room;
      small = made.1;
      bits = ap (list_all is_bit) next ∙ list_all-append is_bit (take taken bytes) chunk ∙ both_true before.bits (ap (list_all is_bit) (sym same) ∙ is.bits);
      word = made.0 ∙ ap (λ w. w ++ bits) before.word ∙ append_assoc (word_of count number) (map is_one (take taken bytes)) bits
          ∙ ap (λ more. word_of count number ++ more) (sym (ap (map is_one) next ∙ map-append is_one (take taken bytes) chunk));
    }

-- the state of a line whose bits a number holds
abbrev line_of : ℕ → ℕ → ℕ → Bool → Bool → WordLine
line_of number count bits in_comment is_wrong = record { number = number; bits = word_of count bits; in_comment = in_comment; is_wrong = is_wrong }

pub bit_put : (number count bits next : ℕ) (in_comment is_wrong bit : Bool) → bits < 2 ^ count → count < MOST_LINES → next ≡ bool_byte bit
    → line_of number (count + 1) (bits * 2 + next) in_comment is_wrong ≡ with_bit (line_of number count bits in_comment is_wrong) bit
bit_put number count bits next in_comment is_wrong bit small few is =
    grind (arith, word_of, MOST_LINES, lt-ltb, length-word_of, pushed)

pub bit_refused : (number count bits : ℕ) (in_comment is_wrong bit : Bool) → count ≡ MOST_LINES
    → line_of number count bits in_comment true ≡ with_bit (line_of number count bits in_comment is_wrong) bit
bit_refused number count bits in_comment is_wrong bit full = grind (arith, word_of, MOST_LINES, le-ltb, length-word_of)

pub bytes_taken : (number count bits next taken : ℕ) (in_comment is_wrong : Bool) (bytes : List ℕ) → in_comment ≡ false → taken ≤ length bytes → count + taken ≤ MOST_LINES → list_all is_bit (take taken bytes) ≡ true
    → word_of (count + taken) next ≡ word_of count bits ++ map is_one (take taken bytes)
    → line_of number (count + taken) next in_comment is_wrong ≡ after_bytes (line_of number count bits in_comment is_wrong) (take taken bytes)
bytes_taken number count bits next taken in_comment is_wrong bytes off within few are word =
    grind (arith, bits_taken, length-word_of, length-take-le)
