-- The outputs that are free at all words that a cube matches, found one word after another.
use Rattle.std.proofs.Common.{◌≡◌, ℕ, zero, suc, ◌+◌, ◌-◌, ◌*◌, ◌/◌, ◌^◌, ◌<◌, ◌≤◌, Bool, true, false, not, ◌&&◌, ◌||◌, eqb, get_or, length, refl, sym, ◌∙◌, ap, subst, arith, add-one, eq-eqb}
use Rattle.std.specs.Prelude.{bit_and, bit_xor}
use Rattle.std.specs.Int.{bit_at}
use Rattle.std.proofs.lemmas.Bool.{cases_Bool, eqb-true, and_parts, and_from}
use Rattle.std.proofs.lemmas.Nat.{mul-le, pow-add, pow_pos, one_shl}
use Rattle.std.proofs.lemmas.Nat.Bits.{bit_at-lt, bit_at-zero, bit_at_and, bit_at_xor}
use Rattle.std.proofs.Math.Nat.{div-mul-le_self, div-eq_of_lt-le, div-lt_iff_lt-mul}
use Rattle.std.specs.List.{range_with_len}
use Rattle.std.proofs.lemmas.List.FromFn.{get_or-map-range_with_len, length-map-range_with_len}
use Rattle.rv_gate.specs.Gate.{all_below}
use Rattle.rv_gate.specs.Word.{has, bit_of, ones_of, word_of}
use Rattle.rv_gate.specs.inside.laws.WordLaws.{length-word_of, bit_of-word_of}
use Rattle.rv_gate.proofs.inside.Ones.{has-ones_of}
use Rattle.rv_gate.proofs.LineSets.{has-and, bit_at-shr, bits_from_has}
use Rattle.rv_pla.specs.Cube.{symbol_of, symbol, agrees, matches}
use Rattle.rv_pla.specs.declared.cube.Cube.{Cube}
use Rattle.rv_pla.specs.Pla.{TwoLevel, entry}
use Rattle.rv_pla.specs.FreeEntries.{is_dont_care}
use Rattle.rv_gate.proofs.AllBelow.{all_below-at, all_below-fails, all_below-from}
use Rattle.rv_cube.specs.ReductionFor.{free_where, is_idle}
use Rattle.rv_cube.specs.inside.Idle.{free_at, free_sets}

-- ---- the sets

pub free_sets-at : (pla : TwoLevel) (x j : ℕ) → x < 2 ^ pla.inputs → j < pla.outputs → has (get_or (free_sets pla) x 0) j ≡ is_dont_care (entry pla (word_of pla.inputs x) j)
free_sets-at pla x j hx hj =
    grind (arith, get_or-map-range_with_len, free_at, has-ones_of, is_dont_care, word_of, range_with_len)

-- ---- the words so far

-- the outputs of a cube that are free at the words below n that it matches
abbrev pub Idles : TwoLevel → Cube → ℕ → ℕ → Type 0
Idles pla cube n set = (j : ℕ) → j < pla.outputs → has set j ≡ (has cube.outs j && all_below (free_where pla cube j) n)

one_more : (pla : TwoLevel) (cube : Cube) (n j : ℕ) → all_below (free_where pla cube j) (n + 1) ≡ (free_where pla cube j n && all_below (free_where pla cube j) n)
one_more pla cube n j = ap (all_below (free_where pla cube j)) (add-one n)

pub idles_off : (pla : TwoLevel) (cube : Cube) (n set : ℕ) → Idles pla cube n set → matches cube (word_of pla.inputs n) ≡ false → Idles pla cube (n + 1) set
idles_off pla cube n set i off j h = grind (arith, one_more)

pub idles_on : (pla : TwoLevel) (cube : Cube) (n set free : ℕ) → Idles pla cube n set → n < 2 ^ pla.inputs → matches cube (word_of pla.inputs n) ≡ true → free ≡ get_or (free_sets pla) n 0
    → Idles pla cube (n + 1) (bit_and set free)
idles_on pla cube n set free i lt on e j h =
    let own : has free j ≡ is_dont_care (entry pla (word_of pla.inputs n) j) = ap (λ f. has f j) e ∙ free_sets-at pla n j lt h in
    has-and set free j
    ∙ ap (λ b. b && has free j) (i j h)
    ∙ swap (has cube.outs j) (all_below (free_where pla cube j) n) (has free j)
    ∙ ap (λ f. has cube.outs j && (f && all_below (free_where pla cube j) n)) own
    ∙ sym (ap (λ b. has cube.outs j && b) (one_more pla cube n j ∙ ap (λ m. (not m || is_dont_care (entry pla (word_of pla.inputs n) j)) && all_below (free_where pla cube j) n) on))
  where
    swap : (a b c : Bool) → ((a && b) && c) ≡ (a && (c && b))
    swap true true true = refl
    swap true true false = refl
    swap true false true = refl
    swap true false false = refl
    swap false b c = refl

pub idles_all : (pla : TwoLevel) (cube : Cube) (n set : ℕ) → Idles pla cube n set → n ≡ 2 ^ pla.inputs → (j : ℕ) → j < pla.outputs → has set j ≡ is_idle pla cube j
unfolding is_idle
idles_all pla cube n set i all j h = i j h ∙ ap (λ k. has cube.outs j && all_below (free_where pla cube j) k) all

-- ---- words that are passed over

pub idles_skip : (pla : TwoLevel) (cube : Cube) (m n set : ℕ) → Idles pla cube n set → ((y : ℕ) → n ≤ y → y < n + m → matches cube (word_of pla.inputs y) ≡ false) → Idles pla cube (n + m) set
idles_skip pla cube zero n set i none = let e : n ≡ n + 0 = omega arith in subst (λ k. Idles pla cube k set) e i
idles_skip pla cube (suc m) n set i none = let i0 = idles_skip pla cube m (n + 1) set in grind (arith, i0, idles_off)

all_at_first : (pla : TwoLevel) (cube : Cube) (n j : ℕ) → all_below (free_where pla cube j) (2 ^ pla.inputs) ≡ true → n ≤ 2 ^ pla.inputs → (x : ℕ) → x < n → free_where pla cube j x ≡ true
all_at_first pla cube n j all le x l = all_below-at (free_where pla cube j) (2 ^ pla.inputs) x all (omega arith)

-- no output is left
pub idles_gone : (pla : TwoLevel) (cube : Cube) (n : ℕ) → Idles pla cube n 0 → n ≤ 2 ^ pla.inputs → (j : ℕ) → j < pla.outputs → has 0 j ≡ is_idle pla cube j
unfolding is_idle
idles_gone pla cube n i le j h =
    grind (arith, bit_at-zero, cases_Bool, all_below, free_where, and_parts, all_below-from, all_at_first, and_from)

apart_bit : (c w b : Bool) → c ≡ true → (w ≡ b → ⊥) → agrees (symbol_of c w) b ≡ false
apart_bit c w b h h2 = grind arith

-- words with the bit of one that the cube doesn't match
pub passed : (cube : Cube) (n j x y set : ℕ) → j < n → set ≡ ones_of (word_of n x) → has (bit_and (bit_xor set cube.want) cube.care) j ≡ true → y / 2 ^ (n - 1 - j) ≡ x / 2 ^ (n - 1 - j)
    → matches cube (word_of n y) ≡ false
unfolding matches
passed cube n j x y set h is on same =
    let k : ℕ = n - 1 - j in
    let both : bit_at (bit_and (bit_xor set cube.want) cube.care) j ≡ 1 = eqb-true _ _ on in
    let a = bit_at_and (bit_xor set cube.want) cube.care j in
    let s = bit_at_xor set cube.want j in
    let lc = bit_at-lt cube.care j in
    let lw = bit_at-lt cube.want j in
    let ls = bit_at-lt set j in
    let care_on : bit_at cube.care j ≡ 1 = omega arith in
    let z : k + 0 ≡ k = omega arith in
    let bits : bit_at y k ≡ bit_at x k = ap (bit_at y) (sym z) ∙ sym (bit_at-shr y k 0) ∙ ap (λ v. bit_at v 0) same ∙ bit_at-shr x k 0 ∙ ap (bit_at x) z in
    let own : bit_of (word_of n y) j ≡ has set j =
    bit_of-word_of n y j h ∙ ap (λ b. eqb b 1) bits ∙ sym (bit_of-word_of n x j h) ∙ sym (has-ones_of (word_of n x) j) ∙ ap (λ v. has v j) (sym is) in
    let apart : has cube.want j ≡ bit_of (word_of n y) j → ⊥ = λ e.
    let q : bit_at cube.want j ≡ bit_at set j = bits_from_has cube.want j set j (e ∙ own) in
    omega arith in
    all_below-fails (λ input. agrees (symbol cube input) (bit_of (word_of n y) input)) (length (word_of n y)) j (omega (arith, length-word_of n y))
    (apart_bit (has cube.care j) (has cube.want j) (bit_of (word_of n y) j) (eq-eqb _ _ care_on) apart)

-- ---- the words up to the next multiple

pub between : (x y m : ℕ) → x < y → y < (x / m + 1) * m → y / m ≡ x / m
between x y m lt up = let l = div-mul-le_self x m in div-eq_of_lt-le m (omega arith) up

pub past_within : (n k x : ℕ) → k ≤ n → x < 2 ^ n → (x / 2 ^ k + 1) * 2 ^ k ≤ 2 ^ n
past_within n k x h lt =
    let z : n - k + k ≡ n = omega arith in
    let e : 2 ^ n ≡ 2 ^ (n - k) * 2 ^ k = ap (λ i. 2 ^ i) (sym z) ∙ pow-add 2 (n - k) k in
    let q : x / 2 ^ k < 2 ^ (n - k) = (div-lt_iff_lt-mul (pow_pos k)).1 (omega arith) in
    let p : (x / 2 ^ k + 1) * 2 ^ k ≤ 2 ^ (n - k) * 2 ^ k = mul-le (x / 2 ^ k + 1) (2 ^ k) (2 ^ (n - k)) (2 ^ k) (omega arith) (omega arith) in
    omega arith

-- what a word that is counted is proved by
pub ruleset counted = (length-map-range_with_len, one_shl, idles_on)

-- words that are passed over
pub ruleset passing = (passed, between, past_within)
