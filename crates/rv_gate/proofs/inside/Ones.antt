-- Laws of the set of the lines on which a word has the bit 1.
use Rattle.std.proofs.Common.{◌≡◌, ℕ, zero, suc, ◌+◌, ◌-◌, ◌*◌, ◌/◌, ◌^◌, ◌<◌, ◌≤◌, Bool, true, false, eqb, List, [], ◌∷◌, length, sym, ◌∙◌, ap, inl, inr, arith, ext_get_or, eq-eqb, ne_eqb}
use Rattle.std.proofs.lemmas.Bool.{cases_lt}
use Rattle.std.proofs.lemmas.List.{get_or_past}
use Rattle.std.proofs.lemmas.Nat.Bits.{bit_at-suc, bit_at_lowest}
use Rattle.std.proofs.Math.Nat.{pow-suc}
use Rattle.std.specs.Int.{bit_at}
use Rattle.rv_gate.specs.Word.{has, bit_of, word_of, word_with, ones_of}
use Rattle.rv_gate.specs.inside.laws.WordLaws.{length-word_of, bit_of-word_of, length-word_with, bit_of-word_with}
use Rattle.rv_gate.proofs.LineSets.{has-none, has-above, same_lines}

pub has-ones_of : (w : List Bool) (line : ℕ) → has (ones_of w) line ≡ bit_of w line
unfolding ones_of
has-ones_of [] line = has-none line
has-ones_of (true ∷ w) zero = eq-eqb _ 1 (let z = bit_at_lowest (1 + 2 * ones_of w) in omega arith)
has-ones_of (false ∷ w) zero = ne_eqb _ 1 (λ e. let z = bit_at_lowest (0 + 2 * ones_of w) in omega arith)
has-ones_of (true ∷ w) (suc line) =
    let h : (1 + 2 * ones_of w) / 2 ≡ ones_of w = omega arith in
    ap (λ b. eqb b 1) (bit_at-suc (1 + 2 * ones_of w) line ∙ ap (λ n. bit_at n line) h) ∙ has-ones_of w line
has-ones_of (false ∷ w) (suc line) =
    let h : (0 + 2 * ones_of w) / 2 ≡ ones_of w = omega arith in
    ap (λ b. eqb b 1) (bit_at-suc (0 + 2 * ones_of w) line ∙ ap (λ n. bit_at n line) h) ∙ has-ones_of w line

pub ones_of-lt : (w : List Bool) → ones_of w < 2 ^ length w
unfolding ones_of
ones_of-lt [] = omega arith
ones_of-lt (true ∷ w) = omega (arith, ones_of-lt w, pow-suc 2 (length w))
ones_of-lt (false ∷ w) = omega (arith, ones_of-lt w, pow-suc 2 (length w))

-- a set with the lines on which a word has the bit 1, and no others
pub ones_of-is : (set : ℕ) (w : List Bool) → ((line : ℕ) → line < length w → has set line ≡ bit_of w line) → ((line : ℕ) → length w ≤ line → has set line ≡ false) → set ≡ ones_of w
ones_of-is set w below above =
    same_lines set (ones_of w) (λ line.
    (elim (cases_lt line (length w)) [
      | inl lt ↦ below line lt
      | inr past ↦ above line past ∙ sym (get_or_past w line false past)
    ])
    ∙ sym (has-ones_of w line))

pub word_with-ones_of : (w : List Bool) → word_with (length w) (ones_of w) ≡ w
word_with-ones_of w =
    ext_get_or false _ w (length-word_with (length w) (ones_of w))
    (λ i h. bit_of-word_with (length w) (ones_of w) i (omega (arith, length-word_with (length w) (ones_of w))) ∙ has-ones_of w i)

-- the mirror image of a number has the lines on which its word has the bit 1
pub ones_of-mirrored : (n x set : ℕ) → set < 2 ^ n → ((i : ℕ) → i < n → bit_at set i ≡ bit_at x (n - 1 - i)) → set ≡ ones_of (word_of n x)
ones_of-mirrored n x set small mirror =
    let len : length (word_of n x) ≡ n = length-word_of n x in
    ones_of-is set (word_of n x) (λ line h. let lt : line < n = omega arith in ap (λ b. eqb b 1) (mirror line lt) ∙ sym (bit_of-word_of n x line lt))
    (λ line h. has-above set n line small (omega arith))
