-- The output words of a PLA, and their numbers.
use Rattle.std.proofs.Common.{◌≡◌, ℕ, suc, ◌+◌, ◌*◌, ◌^◌, ◌<◌, Bool, true, false, cond, List, [], ◌∷◌, ◌++◌, length, map, get_or, refl, sym, ◌∙◌, ap, subst, arith, add-one}
use Rattle.std.specs.List.{range_with_len}
use Rattle.std.proofs.lemmas.List.{length_push}
use Rattle.std.proofs.lemmas.List.FromFn.{length-map-range_with_len, get_or-map-range_with_len, map-range_with_len_more}
use Rattle.std.proofs.Math.Nat.{pow-suc}
use Rattle.rv_gate.specs.Word.{number_of, word_of}
use Rattle.rv_gate.specs.inside.laws.WordLaws.{number_of-lt, word_of-number_of}
use Rattle.rv_pla.specs.Pla.{TwoLevel, entry}
use Rattle.rv_pla.specs.Zeros.{bit_for, output_word, zeros}

-- the first n bits of an output word
abbrev pub front_of : TwoLevel → List Bool → ℕ → List Bool
front_of pla x n = map (λ j. bit_for (entry pla x j)) (range_with_len 0 n)

-- ---- a word with one more bit

number_of-push : (w : List Bool) (b : Bool) → number_of (w ++ b ∷ []) ≡ number_of w * 2 + cond b 1 0
unfolding number_of
number_of-push [] true = refl
number_of-push [] false = refl
number_of-push (true ∷ w) b =
    let p : 2 ^ length (w ++ b ∷ []) ≡ 2 ^ (length w + 1) = ap (λ k. 2 ^ k) (length_push w b) in
    let q : 2 ^ (length w + 1) ≡ 2 ^ suc (length w) = ap (λ k. 2 ^ k) (add-one (length w)) in
    omega (arith, number_of-push w b, pow-suc 2 (length w))
number_of-push (false ∷ w) b = omega (arith, number_of-push w b)

pub front_more : (pla : TwoLevel) (x : List Bool) (n : ℕ) → number_of (front_of pla x (n + 1)) ≡ number_of (front_of pla x n) * 2 + cond (bit_for (entry pla x n)) 1 0
front_more pla x n =
    ap number_of (map-range_with_len_more (λ j. bit_for (entry pla x j)) 0 n n (omega arith))
    ∙ number_of-push (front_of pla x n) (bit_for (entry pla x n))

pub length-front : (pla : TwoLevel) (x : List Bool) (n : ℕ) → length (front_of pla x n) ≡ n
length-front pla x n = length-map-range_with_len (λ j. bit_for (entry pla x j)) 0 n

pub front-lt : (pla : TwoLevel) (x : List Bool) (n : ℕ) → number_of (front_of pla x n) < 2 ^ n
front-lt pla x n = let P : ℕ → Type 0 = λ k. number_of (front_of pla x n) < 2 ^ k in subst P (length-front pla x n) (number_of-lt (front_of pla x n))

-- ---- the table

pub length-zeros : (pla : TwoLevel) → length (zeros pla) ≡ 2 ^ pla.inputs
unfolding zeros
length-zeros pla = length-map-range_with_len (λ x. number_of (output_word pla (word_of pla.inputs x))) 0 (2 ^ pla.inputs)

pub get_or-zeros : (pla : TwoLevel) (x : ℕ) → x < 2 ^ pla.inputs → get_or (zeros pla) x 0 ≡ number_of (output_word pla (word_of pla.inputs x))
unfolding zeros
get_or-zeros pla x h = get_or-map-range_with_len (λ x. number_of (output_word pla (word_of pla.inputs x))) 0 (2 ^ pla.inputs) x x 0 h (omega arith)

-- words with the same number are the same, where they have as many bits
pub same_word : (u v : List Bool) → length u ≡ length v → number_of u ≡ number_of v → u ≡ v
same_word u v len e = sym (word_of-number_of u) ∙ ap (λ n. word_of n (number_of u)) len ∙ ap (word_of (length v)) e ∙ word_of-number_of v

pub same_output : (pla : TwoLevel) (x y : ℕ) → x < 2 ^ pla.inputs → y < 2 ^ pla.inputs → get_or (zeros pla) x 0 ≡ get_or (zeros pla) y 0
    → output_word pla (word_of pla.inputs x) ≡ output_word pla (word_of pla.inputs y)
same_output pla x y hx hy e = grind (arith, same_word, length-front, word_of, get_or-zeros)
