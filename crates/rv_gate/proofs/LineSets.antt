-- Laws of sets of lines: which lines a set has, and when two sets are the same.
use Rattle.std.proofs.Common.{◌≡◌, ◌≢◌, ℕ, ◌+◌, ◌-◌, ◌*◌, ◌/◌, ◌%◌, ◌^◌, ◌<◌, ◌≤◌, Bool, true, false, not, cond, ◌&&◌, ◌||◌, eqb, min, refl, sym, ◌∙◌, ap, inl, inr, arith, eq-eqb, ne_eqb, w64}
use Rattle.std.specs.Prelude.{bit_and, bit_or, bit_xor, ◌⊎◌}
use Rattle.std.specs.Int.{bit_at, trailing_zeros}
use Rattle.std.specs.Int.Bits.{xor_assoc, xor_self, xor_zero_l}
use Rattle.std.proofs.lemmas.Bool.{cases_eq, cases_lt, eqb-true, eqb-false, or_left, or_right}
use Rattle.std.proofs.lemmas.Nat.{shr-shr, one_shl, pow_pos}
use Rattle.std.proofs.Math.Nat.{div-lt_iff_lt-mul}
use Rattle.std.proofs.lemmas.Nat.Bits.{bit_at_cat_low, bit_at_cat_high, bit_at-lt, bit_at-zero, bit_at_and, bit_at_or, bit_at_xor, bit_at-pow_same, bit_at-pow_other, bit_at-trailing_zeros, bit_at_above, same_from_bits, same_from_bits_below}
use Rattle.rv_gate.specs.Word.{has}
use Rattle.rv_gate.specs.Gate.{xor, Within}
use Rattle.rv_gate.proofs.Bits.{eqb_refl, or_assoc, or_off, xor_false, xor_true}

-- ---- bits and lines

pub bit_cases : (n i : ℕ) → (bit_at n i ≡ 0) ⊎ (bit_at n i ≡ 1)
bit_cases n i =
    elim (cases_eq (bit_at n i) 1) [
      | inl one ↦ inr one
      | inr other ↦ let small : bit_at n i < 2 = bit_at-lt n i in inl (omega arith)
    ]

pub has_one : (n i : ℕ) → has n i ≡ true → bit_at n i ≡ 1
has_one n i h = eqb-true _ _ h

pub has_not : (n i : ℕ) → has n i ≡ false → bit_at n i ≡ 0
has_not n i h = elim (bit_cases n i) [ inl z ↦ z | inr one ↦ absurd (eqb-false _ _ h one) ]

pub bits_from_has : (a i b j : ℕ) → has a i ≡ has b j → bit_at a i ≡ bit_at b j
bits_from_has a i b j h =
    elim (bit_cases b j) [
      | inl z ↦ has_not a i (h ∙ ne_eqb _ 1 (λ o. omega arith)) ∙ sym z
      | inr one ↦ has_one a i (h ∙ eq-eqb _ 1 one) ∙ sym one
    ]

-- sets with the same lines are the same
pub same_lines : (a b : ℕ) → ((line : ℕ) → has a line ≡ has b line) → a ≡ b
same_lines a b h = same_from_bits a b (λ i. bits_from_has a i b i (h i))

-- and so are sets with the same lines below n, and no others
pub same_lines_below : (n a b : ℕ) → a < 2 ^ n → b < 2 ^ n → ((line : ℕ) → line < n → has a line ≡ has b line) → a ≡ b
same_lines_below n a b la lb h = same_from_bits_below n a b la lb (λ i lt. bits_from_has a i b i (h i lt))

-- ---- the lines of sets that are put together

pub has-none : (line : ℕ) → has 0 line ≡ false
has-none line = ne_eqb _ 1 (λ e. let z = bit_at-zero line in omega arith)

pub has-and : (a b line : ℕ) → has (bit_and a b) line ≡ (has a line && has b line)
has-and a b line =
    elim (bit_cases a line) [
      | inl za ↦ (elim (bit_cases b line) [ inl zb ↦ rw (bit_at_and, za, zb) refl | inr ob ↦ rw (bit_at_and, za, ob) refl ])
      | inr oa ↦ (elim (bit_cases b line) [ inl zb ↦ rw (bit_at_and, oa, zb) refl | inr ob ↦ rw (bit_at_and, oa, ob) refl ])
    ]

pub has-or : (a b line : ℕ) → has (bit_or a b) line ≡ (has a line || has b line)
has-or a b line =
    elim (bit_cases a line) [
      | inl za ↦ (elim (bit_cases b line) [ inl zb ↦ rw (bit_at_or, za, zb) refl | inr ob ↦ rw (bit_at_or, za, ob) refl ])
      | inr oa ↦ (elim (bit_cases b line) [ inl zb ↦ rw (bit_at_or, oa, zb) refl | inr ob ↦ rw (bit_at_or, oa, ob) refl ])
    ]

pub has-xor : (a b line : ℕ) → has (bit_xor a b) line ≡ xor (has a line) (has b line)
has-xor a b line =
    elim (bit_cases a line) [
      | inl za ↦ (elim (bit_cases b line) [ inl zb ↦ rw (bit_at_xor, za, zb) refl | inr ob ↦ rw (bit_at_xor, za, ob) refl ])
      | inr oa ↦ (elim (bit_cases b line) [ inl zb ↦ rw (bit_at_xor, oa, zb) refl | inr ob ↦ rw (bit_at_xor, oa, ob) refl ])
    ]

pub has-cond : (b : Bool) (set line : ℕ) → has (cond b set 0) line ≡ (b && has set line)
has-cond true set line = refl
has-cond false set line = has-none line

-- ---- sets of one line and of two, and one line more

pub has-line : (a line : ℕ) → has (2 ^ a) line ≡ eqb line a
has-line a line =
    elim (cases_eq line a) [
      | inl same ↦ rw same (eq-eqb _ 1 (bit_at-pow_same a) ∙ sym (eq-eqb a a refl))
      | inr other ↦ ne_eqb _ 1 (λ one. let none = bit_at-pow_other a line other in omega arith) ∙ sym (ne_eqb line a other)
    ]

pub has-lines : (a b line : ℕ) → has (bit_or (2 ^ a) (2 ^ b)) line ≡ (eqb line a || eqb line b)
has-lines a b line = has-or (2 ^ a) (2 ^ b) line ∙ ap (λ t. t || has (2 ^ b) line) (has-line a line) ∙ ap (λ t. eqb line a || t) (has-line b line)

pub has-with_line : (set a line : ℕ) → has (bit_or set (2 ^ a)) line ≡ (has set line || eqb line a)
has-with_line set a line = has-or set (2 ^ a) line ∙ ap (λ t. has set line || t) (has-line a line)

-- a line by itself, and each of two
pub has_self : (k : ℕ) → has (2 ^ k) k ≡ true
has_self k = has-line k k ∙ eqb_refl k

pub has_first : (a b : ℕ) → has (bit_or (2 ^ a) (2 ^ b)) a ≡ true
has_first a b = has-lines a b a ∙ or_left (eqb a a) (eqb a b) (eqb_refl a)

pub has_second : (a b : ℕ) → has (bit_or (2 ^ a) (2 ^ b)) b ≡ true
has_second a b = has-lines a b b ∙ or_right (eqb b a) (eqb b b) (eqb_refl b)

-- a set with one line more
pub with_same : (set a : ℕ) → has (bit_or set (2 ^ a)) a ≡ true
with_same set a = has-with_line set a a ∙ or_right (has set a) (eqb a a) (eqb_refl a)

pub with_other : (set a line : ℕ) → line ≢ a → has (bit_or set (2 ^ a)) line ≡ has set line
with_other set a line other = has-with_line set a line ∙ or_off (has set line) _ (ne_eqb line a other)

pub bit_or-assoc : (a b c : ℕ) → bit_or a (bit_or b c) ≡ bit_or (bit_or a b) c
bit_or-assoc a b c =
    same_lines _ _ (λ line.
    has-or a (bit_or b c) line ∙ ap (λ t. has a line || t) (has-or b c line) ∙ or_assoc (has a line) (has b line) (has c line)
    ∙ ap (λ t. t || has c line) (sym (has-or a b line)) ∙ sym (has-or (bit_or a b) c line))

-- twice the same is nothing
pub bit_xor-back : (a b : ℕ) → bit_xor a (bit_xor a b) ≡ b
bit_xor-back a b = sym (xor_assoc a a b) ∙ ap (λ set. bit_xor set b) (xor_self a) ∙ xor_zero_l b

-- the lowest line of a set
pub lowest : (left : ℕ) → 0 < left → left < 2 ^ 64 → (trailing_zeros w64 left < 64) × (has left (trailing_zeros w64 left) ≡ true)
lowest left some small = let is = bit_at-trailing_zeros w64 left some small in (is.0, eq-eqb _ 1 is.1)

-- a line that is put in or out
pub has-changed_same : (set a : ℕ) → has (bit_xor set (2 ^ a)) a ≡ not (has set a)
has-changed_same set a = has-xor set (2 ^ a) a ∙ ap (xor (has set a)) (has-line a a ∙ eq-eqb a a refl) ∙ xor_true (has set a)

pub has-changed_other : (set a line : ℕ) → line ≢ a → has (bit_xor set (2 ^ a)) line ≡ has set line
has-changed_other set a line other = has-xor set (2 ^ a) line ∙ ap (xor (has set line)) (has-line a line ∙ ne_eqb line a other) ∙ xor_false (has set line)

-- `care | 1 << line`
pub has-or_one_shl : (care target line : ℕ) → target < 64 → has (bit_or care (1 * 2 ^ target % 2 ^ 64)) line ≡ (has care line || eqb line target)
has-or_one_shl care target line h = ap (λ s. has (bit_or care s) line) (one_shl target 64 h) ∙ has-with_line care target line

pub has-one_shl : (target line : ℕ) → target < 64 → has (1 * 2 ^ target % 2 ^ 64) line ≡ eqb line target
has-one_shl target line h = ap (λ s. has s line) (one_shl target 64 h) ∙ has-line target line

-- ---- sets without a common line, and subsets

abbrev pub Apart : ℕ → ℕ → Type 0
Apart x y = (line : ℕ) → has x line ≡ true → has y line ≡ false

pub subset_from_and : (a b : ℕ) → bit_and a b ≡ a → (line : ℕ) → has a line ≡ true → has b line ≡ true
subset_from_and a b e line h =
    let one = has_one a line h in
    let m : min (bit_at a line) (bit_at b line) ≡ bit_at a line = sym (bit_at_and a b line) ∙ ap (λ n. bit_at n line) e in
    let small : bit_at b line < 2 = bit_at-lt b line in
    eq-eqb _ 1 (omega arith)

pub and_from_subset : (a b : ℕ) → ((line : ℕ) → has a line ≡ true → has b line ≡ true) → bit_and a b ≡ a
and_from_subset a b h =
    same_from_bits _ _ (λ i.
    bit_at_and a b i
    ∙ (elim (bit_cases a i) [
      | inl z ↦ rw z (omega arith)
      | inr one ↦
          let other = has_one b i (h i (eq-eqb _ 1 one)) in
          rw (one, other) refl
    ]))

-- ---- sets whose lines are below n

pub has-above : (set n line : ℕ) → set < 2 ^ n → n ≤ line → has set line ≡ false
has-above set n line lt above = ne_eqb _ 1 (λ one. let z = bit_at_above set n line lt above in omega arith)

pub Within-below : (set n : ℕ) → set < 2 ^ n → Within set n
Within-below set n lt line on =
    let one = has_one set line on in
    elim (cases_lt line n) [ inl below ↦ below | inr above ↦ let z = bit_at_above set n line lt above in absurd (omega arith) ]

pub bit_at-shr : (n j i : ℕ) → bit_at (n / 2 ^ j) i ≡ bit_at n (j + i)
bit_at-shr n j i = ap (λ q. q % 2) (shr-shr n j i)

-- the bits of a number of 64 bits that is shifted up
pub has-low : (n k : ℕ) → k < 64 → has (n % 2 ^ 64) k ≡ has n k
has-low n k lt =
    let e : n / 2 ^ 64 * 2 ^ 64 + n % 2 ^ 64 ≡ n = omega arith in
    ap (λ b. eqb b 1) (sym (bit_at_cat_low (n / 2 ^ 64) 64 (n % 2 ^ 64) k lt) ∙ ap (λ m. bit_at m k) e)

pub has-shl : (n s k : ℕ) → k < 64 → s ≤ k → has (n * 2 ^ s % 2 ^ 64) k ≡ has n (k - s)
has-shl n s k lt le =
    let e : n * 2 ^ s + 0 ≡ n * 2 ^ s = omega arith in
    has-low (n * 2 ^ s) k lt ∙ ap (λ m. has m k) (sym e) ∙ ap (λ b. eqb b 1) (bit_at_cat_high n s 0 k (pow_pos s) le)

pub has-shl_below : (n s k : ℕ) → k < 64 → k < s → has (n * 2 ^ s % 2 ^ 64) k ≡ false
has-shl_below n s k lt below =
    let e : n * 2 ^ s + 0 ≡ n * 2 ^ s = omega arith in
    has-low (n * 2 ^ s) k lt ∙ ap (λ m. has m k) (sym e) ∙ ap (λ b. eqb b 1) (bit_at_cat_low n s 0 k below) ∙ has-none k

-- `set >> n == 0`
pub Within-shr : (set n : ℕ) → set / 2 ^ n ≡ 0 → Within set n
Within-shr set n none line on =
    elim (cases_lt line n) [
      | inl lt ↦ lt
      | inr ge ↦
          let at : n + (line - n) ≡ line = omega arith in
          let one = has_one set line on in
          let z : bit_at (set / 2 ^ n) (line - n) ≡ 0 = rw none (bit_at-zero (line - n)) in
          let o : bit_at (set / 2 ^ n) (line - n) ≡ 1 = bit_at-shr set n (line - n) ∙ ap (bit_at set) at ∙ one in
          absurd (omega arith)
    ]

pub shr-Within : (set n : ℕ) → Within set n → set / 2 ^ n ≡ 0
shr-Within set n within =
    same_from_bits _ 0 (λ i.
    bit_at-shr set n i
    ∙ (elim (bit_cases set (n + i)) [
      | inl z ↦ z ∙ sym (bit_at-zero i)
      | inr one ↦ let lt : n + i < n = within (n + i) (eq-eqb _ 1 one) in absurd (omega arith)
    ]))

pub below-Within : (set n : ℕ) → Within set n → set < 2 ^ n
below-Within set n within =
    let none = shr-Within set n within in
    let some : 0 < 2 ^ n = pow_pos n in
    let lt : set < 1 * 2 ^ n = (div-lt_iff_lt-mul some).0 (omega arith) in
    omega arith
