-- The lines of a set one by one, the lowest first, and the free lines as a set.
use Rattle.std.proofs.Common.{length, length-append, ◌≡◌, ◌≢◌, ℕ, zero, suc, ◌^◌, ◌<◌, ◌≤◌, Bool, true, false, not, cond, ltb, eqb, ◌+◌, ◌&&◌, [], List, ◌∷◌, ◌++◌, refl, sym, ◌∙◌, ap, inl, inr, arith, w64, bit_or}
use Rattle.std.specs.Int.{bit_not}
use Rattle.std.proofs.lemmas.Bool.{cases_lt, lt-ltb, le-ltb, or_cases, eqb-true}
use Rattle.std.proofs.lemmas.Nat.Bits.{bit_at_not}
use Rattle.rv_gate.specs.Word.{has}
use Rattle.rv_gate.proofs.LineSets.{bit_cases, has-above, has-with_line, Within-below, below-Within, has-none}
use Rattle.rv_gate.proofs.LowestLine.{IsLowest}
use Rattle.rv_mct.specs.Blocks.{rising, count, count_lines, is_free, below}
use Rattle.rv_mct.proofs.Rising.{rising_zero, rising-suc, rising_upto, count_zero, count-suc}
use Rattle.rv_mct.proofs.inside.Splits.{count_upto, has_below, not_below}

-- ---- the lowest line, and the others

none_rise : (p : ℕ → Bool) (n : ℕ) → ((k : ℕ) → k < n → p k ≡ false) → rising p n ≡ []
none_rise p n h = rising_upto p p n 0 (omega arith) (λ x l. refl) (λ x g l. h x l) ∙ rising_zero p

first_rises : (p q : ℕ → Bool) (line n : ℕ) → line < n → p line ≡ true → q line ≡ false → ((k : ℕ) → k < line → (p k ≡ false) × (q k ≡ false))
    → ((k : ℕ) → k < n → k ≢ line → q k ≡ p k) → rising p n ≡ line ∷ rising q n
first_rises p q line zero within on off low same = absurd (omega arith)
first_rises p q line (suc n) within on off low same = let hyp = first_rises p q line n in grind (arith, hyp, none_rise, rising-suc)

pub rising_lowest : (left line rest : ℕ) → IsLowest left line rest → rising (has left) 64 ≡ line ∷ rising (has rest) 64
rising_lowest left line rest lowest =
    first_rises (has left) (has rest) line 64 lowest.within lowest.there lowest.gone
    (λ k lt. let below = lowest.within in (lowest.least k lt, lowest.same k (omega arith) (λ e. omega arith) ∙ lowest.least k lt))
    (λ k lt other. lowest.same k lt other)

pub rising_none : (left : ℕ) → left ≡ 0 → rising (has left) 64 ≡ []
rising_none left e = none_rise (has left) 64 (λ k lt. ap (λ s. has s k) e ∙ has-none k)

-- ---- the free lines

one_more : (b : Bool) (m n : ℕ) → m ≤ n → m + cond {A = ℕ} b 1 0 ≤ suc n
one_more b m n le = grind arith

pub count_few : (p : ℕ → Bool) (n : ℕ) → count p n ≤ n
count_few p zero = omega (arith, count_zero p)
count_few p (suc n) = omega (arith, count-suc p n, one_more (p n) (count p n) n (count_few p n))

-- the set of the free lines
abbrev pub FreeSet : ℕ → ℕ → ℕ → ℕ → Type 0
FreeSet set care target lines = (line : ℕ) → has set line ≡ (ltb line lines && is_free care target line)

has_others : (n line : ℕ) → n < 2 ^ 64 → line < 64 → has (bit_not w64 n) line ≡ not (has n line)
has_others n line small lt = elim (bit_cases n line) [ inl z ↦ rw (bit_at_not w64 n line small lt, z) refl | inr one ↦ rw (bit_at_not w64 n line small lt, one) refl ]

touched_small : (care target : ℕ) → care < 2 ^ 64 → target < 64 → bit_or care (2 ^ target) < 2 ^ 64
touched_small care target small lt =
    below-Within _ 64 (λ line on. elim (or_cases (has care line) (eqb line target) (sym (has-with_line care target line) ∙ on)) [
      | inl c ↦ Within-below care 64 small line c
      | inr at ↦ let e = eqb-true line target at in omega arith
    ])

pub free_all : (care target lines : ℕ) → care < 2 ^ 64 → target < 64 → lines ≡ 64 → FreeSet (bit_not w64 (bit_or care (2 ^ target))) care target lines
free_all care target lines small lt e line =
    let touched = touched_small care target small lt in
    elim (cases_lt line lines) [
      | inl l ↦ rw (lt-ltb line lines l) (has_others _ line touched (omega arith) ∙ ap not (has-with_line care target line))
      | inr ge ↦ rw (le-ltb line lines ge) (has-above _ 64 line (omega arith) (omega arith))
    ]

pub free_below : (care target lines : ℕ) → care < 2 ^ 64 → target < 64 → lines ≤ 64 → FreeSet (below (bit_not w64 (bit_or care (2 ^ target))) lines) care target lines
free_below care target lines small lt few line = grind (arith, lt-ltb, has_below, has_others, touched_small, has-with_line, le-ltb, not_below)

free_low : (set care target lines : ℕ) → FreeSet set care target lines → (x : ℕ) → x < lines → has set x ≡ is_free care target x
free_low set care target lines free x lt = free x ∙ ap (λ b. b && is_free care target x) (lt-ltb x lines lt)

free_high : (set care target lines : ℕ) → FreeSet set care target lines → (x : ℕ) → lines ≤ x → has set x ≡ false
free_high set care target lines free x ge = free x ∙ ap (λ b. b && is_free care target x) (le-ltb x lines ge)

pub count_free : (set care target lines : ℕ) → lines ≤ 64 → FreeSet set care target lines → count_lines set ≡ count (is_free care target) lines
count_free set care target lines few free =
    count_upto (is_free care target) (has set) 64 lines few (free_low set care target lines free) (λ x ge lt. free_high set care target lines free x ge)

pub rising_free : (set care target lines : ℕ) → lines ≤ 64 → FreeSet set care target lines → rising (has set) 64 ≡ rising (is_free care target) lines
rising_free set care target lines few free =
    rising_upto (is_free care target) (has set) 64 lines few (free_low set care target lines free) (λ x ge lt. free_high set care target lines free x ge)

-- ---- room for one more

pub room_left : {A : Type 0} → (done left rest all : List A) (x : A) → done ++ left ≡ all → left ≡ x ∷ rest → length all ≤ 64 → length done < 64
room_left done left rest all x e f few = omega (arith, ap length e, length-append done left, ap length f, few)
