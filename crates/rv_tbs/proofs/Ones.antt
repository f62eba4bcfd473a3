-- Words, their ones, and the order of their numbers.
use Rattle.std.proofs.Common.{◌≡◌, ◌≢◌, ℕ, suc, ◌^◌, ◌<◌, ◌≤◌, Bool, true, false, not, List, [], ◌∷◌, length, refl, sym, ◌∙◌, ap, inl, inr, arith, length-set, get_or-set_same, get_or-set_other, ext_get_or}
use Rattle.std.proofs.lemmas.Bool.{cases_lt, false≢true}
use Rattle.std.proofs.lemmas.List.{get_or_past}
use Rattle.rv_gate.specs.Word.{bit_of, number_of}
use Rattle.rv_gate.specs.Gate.{flip}

-- each 1 of the one is a 1 of the other
abbrev pub Within : List Bool → List Bool → Type 0
Within w v = (i : ℕ) → bit_of w i ≡ true → bit_of v i ≡ true

-- more ones make no smaller number
pub number_of-mono : (w v : List Bool) → length w ≡ length v → Within w v → number_of w ≤ number_of v
unfolding number_of
number_of-mono [] v len h = omega arith
number_of-mono (b ∷ w) [] len h = absurd (omega (arith, len))
number_of-mono (true ∷ w) (true ∷ v) len h =
    let l : length w ≡ length v = omega (arith, len) in
    let p : 2 ^ length w ≡ 2 ^ length v = ap (λ n. 2 ^ n) l in
    omega (arith, p, number_of-mono w v l (λ i. h (suc i)))
number_of-mono (true ∷ w) (false ∷ v) len h = absurd (false≢true (h 0 refl))
number_of-mono (false ∷ w) (true ∷ v) len h =
    let l : length w ≡ length v = omega (arith, len) in
    omega (arith, number_of-mono w v l (λ i. h (suc i)))
number_of-mono (false ∷ w) (false ∷ v) len h =
    let l : length w ≡ length v = omega (arith, len) in
    omega (arith, number_of-mono w v l (λ i. h (suc i)))

-- a place with a 1 is within the word
pub one_within : (w : List Bool) (i : ℕ) → bit_of w i ≡ true → i < length w
one_within w i h =
    elim (cases_lt i (length w)) [ inl lt ↦ lt | inr past ↦ absurd (false≢true (sym (get_or_past w i false past) ∙ h)) ]

pub bit_of-flip_same : (w : List Bool) (line : ℕ) → line < length w → bit_of (flip w line) line ≡ not (bit_of w line)
bit_of-flip_same w line h = get_or-set_same w line _ false h

pub bit_of-flip_other : (w : List Bool) (line i : ℕ) → i ≢ line → bit_of (flip w line) i ≡ bit_of w i
bit_of-flip_other w line i h = get_or-set_other w line i _ false h

pub length-flip : (w : List Bool) (line : ℕ) → length (flip w line) ≡ length w
length-flip w line = length-set w line _

pub same_words : (w v : List Bool) → length w ≡ length v → ((i : ℕ) → i < length w → bit_of w i ≡ bit_of v i) → w ≡ v
same_words w v len h = ext_get_or false w v len h
