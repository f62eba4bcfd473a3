-- Passes over the places that have the bit 1 wherever a mask has it.
use Rattle.rv_gate.proofs.Bits.{and_false}
use Rattle.rv_gate.proofs.LineSets.{bit_or-assoc}
use Rattle.std.proofs.Common.{◌≡◌, ◌≢◌, ◌⊎◌, ℕ, zero, suc, ◌+◌, ◌-◌, ◌*◌, ◌/◌, ◌%◌, ◌^◌, ◌<◌, ◌≤◌, ◌==◌, ◌&&◌, nat_lt, Bool, true, false, cond, List, map, length, get_or, set, refl, sym, ap, ◌∙◌, arith, inl, inr, length-set}
use Rattle.std.proofs.Math.Pow.{pow_mono}
use Rattle.std.proofs.lemmas.Bool.{cases_eq, cases_lt, false≢true, le-ltb, lt-ltb, eq-eqb, eqb-false, eqb-true, ne_eqb}
use Rattle.std.proofs.lemmas.List.{get_or-set_other, get_or-set_same}
use Rattle.std.proofs.lemmas.Nat.{and_or_self, le_or_l, le_or_r}
use Rattle.std.proofs.lemmas.Nat.Bits.{and_pow, bit_at-lt}
use Rattle.std.specs.Int.{bit_at}
use Rattle.std.specs.Int.Bits.{bit_or, or_add_and, or_self, or_step, or_zero_r}
use Rattle.rv_gate.specs.Word.{bit_of, number_of, word_of}
use Rattle.rv_gate.specs.inside.laws.WordLaws.{bit_of-word_of, number_of-lt, word_of-number_of}
use Rattle.rv_net.specs.Cyclotomic.{Cyclotomic, nought}
use Rattle.rv_check.specs.Reduced.{words}
use Rattle.rv_check.specs.inside.Dense.{covers}
use Rattle.rv_check.proofs.inside.Numbers.{at_number, from_numbers, length-map_words, same_map}
use Rattle.rv_check.proofs.inside.Sparse.{Word}

-- as an equation
abbrev pub Covers : ℕ → ℕ → Type 0
Covers mask k = bit_or k mask ≡ k

covered : (mask k : ℕ) → covers mask k ≡ true → Covers mask k
covered mask k e = eqb-true (bit_or k mask) k e

half_step : (k m : ℕ) → bit_or k m ≡ k → (bit_or (k / 2) (m / 2) ≡ k / 2) × (m % 2 ≤ k % 2)
half_step k m h = grind (arith, or_step)

-- the next such place after one is the number after it with the mask's bits
next_le : (n p q m : ℕ) → m ≤ n → Covers m p → Covers m q → p < q → bit_or (p + 1) m ≤ q
next_le zero p q m le g h less =
    let none : m ≡ 0 = omega (arith, le) in
    omega (arith, less, ap (bit_or (p + 1)) none, or_zero_r (p + 1))
next_le (suc n) p q m le g h less = go (cases_eq (p % 2) 0) (next_le n (p / 2) (q / 2) (m / 2) (omega (arith, le)) s.0 t.0) where
  s : (bit_or (p / 2) (m / 2) ≡ p / 2) × (m % 2 ≤ p % 2)
  s = half_step p m g

  t : (bit_or (q / 2) (m / 2) ≡ q / 2) × (m % 2 ≤ q % 2)
  t = half_step q m h

  go : (p % 2 ≡ 0) ⊎ (p % 2 ≢ 0) → (p / 2 < q / 2 → bit_or (p / 2 + 1) (m / 2) ≤ q / 2) → bit_or (p + 1) m ≤ q
  go (inl even) deep =
      let e : (p + 1) / 2 ≡ p / 2 = omega (arith, even) in
      omega (arith, less, even, s.0, s.1, or_step (p + 1) m, ap (λ k. bit_or k (m / 2)) e)
  go (inr odd) deep =
      let e : (p + 1) / 2 ≡ p / 2 + 1 = omega (arith, odd) in
      omega (arith, odd, t.1, or_step (p + 1) m, ap (λ k. bit_or k (m / 2)) e, deep (omega (arith, less, odd)))

pub next_covers : (m k : ℕ) → Covers m (bit_or k m)
next_covers m k = omega (arith, or_add_and (bit_or k m) m, and_or_self m k)

-- ---- passes over such places

-- what a pass that has come to a place has made of the value of a word, if it moves that one when it comes to the key
abbrev pub Swept : (Word → Bool) → (Word → ℕ) → (Word → Cyclotomic) → (Word → Cyclotomic) → ℕ → Word → Cyclotomic
Swept moves key f new place x = cond (moves x && nat_lt (key x) place) (new x) (f x)

-- the keys are places with the bits of the mask
pub record Sweeps (n m : ℕ) (moves : Word → Bool) (key : Word → ℕ) : Type 0 where
  pub within : (x : Word) → length x ≡ n → moves x ≡ true → key x < 2 ^ n
  pub marked : (x : Word) → length x ≡ n → moves x ≡ true → covers m (key x) ≡ true

module _ (n m : ℕ) (moves : Word → Bool) (key : Word → ℕ) (sweeps : Sweeps n m moves key) (f new : Word → Cyclotomic) where
  pub sweep_start : map f (words n) ≡ map (Swept moves key f new m) (words n)
  sweep_start = same_map _ _ n (λ x l. go x l (moves x) refl) where
    go : (x : Word) → length x ≡ n → (b : Bool) → moves x ≡ b → f x ≡ cond (b && nat_lt (key x) m) (new x) (f x)
    go x l false e = refl
    go x l true e = ap (λ b. cond b (new x) (f x)) (sym (le-ltb (key x) m (omega (arith, covered m (key x) (sweeps.marked x l e), le_or_r (key x) m))))

  value : (place : ℕ) (vs : List Cyclotomic) → vs ≡ map (Swept moves key f new place) (words n) → (x : Word) → length x ≡ n → get_or vs (number_of x) nought ≡ Swept moves key f new place x
  value place vs is x l = ap (λ us. get_or us (number_of x) nought) is ∙ at_number (Swept moves key f new place) n x nought l

  -- the word that is moved next has its value yet
  pub sweep_own : (place : ℕ) (vs : List Cyclotomic) → vs ≡ map (Swept moves key f new place) (words n) → (x : Word) → length x ≡ n → key x ≡ place → get_or vs (number_of x) nought ≡ f x
  sweep_own place vs is x l k =
      value place vs is x l ∙ ap (λ b. cond (moves x && b) (new x) (f x)) (le-ltb (key x) place (omega (arith, k))) ∙ ap (λ b. cond b (new x) (f x)) (and_false (moves x))

  -- the words of one key are moved, and no others
  pub sweep_more : (place : ℕ) (vs ws : List Cyclotomic) → Covers m place → length ws ≡ length vs → vs ≡ map (Swept moves key f new place) (words n)
      → ((x : Word) → length x ≡ n → moves x ≡ true → key x ≡ place → get_or ws (number_of x) nought ≡ new x)
      → ((x : Word) → length x ≡ n → (moves x ≡ true → key x ≢ place) → get_or ws (number_of x) nought ≡ get_or vs (number_of x) nought)
      → ws ≡ map (Swept moves key f new (bit_or (place + 1) m)) (words n)
  sweep_more place vs ws at len is done others =
      from_numbers (Swept moves key f new (bit_or (place + 1) m)) n ws nought (len ∙ ap length is ∙ length-map_words (Swept moves key f new place) n)
      (λ x l. go x l (moves x) refl (cases_eq (key x) place)) where
        side : (x : Word) → length x ≡ n → moves x ≡ true → key x ≢ place → nat_lt (key x) place ≡ nat_lt (key x) (bit_or (place + 1) m)
        side x l e ne = elim (cases_lt (key x) place) [
          | inl below ↦ lt-ltb (key x) place below ∙ sym (lt-ltb (key x) (bit_or (place + 1) m) (omega (arith, below, le_or_l (place + 1) m)))
          | inr above ↦
              le-ltb (key x) place above
              ∙ sym (le-ltb (key x) (bit_or (place + 1) m) (next_le m place (key x) m (omega arith) at (covered m (key x) (sweeps.marked x l e)) (omega (arith, above, ne))))
        ]

        go : (x : Word) → length x ≡ n → (b : Bool) → moves x ≡ b → (key x ≡ place) ⊎ (key x ≢ place) → get_or ws (number_of x) nought ≡ cond (b && nat_lt (key x) (bit_or (place + 1) m)) (new x) (f x)
        go x l false e k = others x l (λ t. absurd (false≢true (sym e ∙ t))) ∙ value place vs is x l ∙ ap (λ b. cond (b && nat_lt (key x) place) (new x) (f x)) e
        go x l true e (inl k) = done x l e k ∙ ap (λ b. cond b (new x) (f x)) (sym (lt-ltb (key x) (bit_or (place + 1) m) (omega (arith, k, le_or_l (place + 1) m))))
        go x l true e (inr ne) =
            others x l (λ t. ne) ∙ value place vs is x l ∙ ap (λ b. cond (b && nat_lt (key x) place) (new x) (f x)) e ∙ ap (λ b. cond b (new x) (f x)) (side x l e ne)

  pub sweep_end : (place : ℕ) (vs : List Cyclotomic) → length vs ≤ place → vs ≡ map (Swept moves key f new place) (words n) → vs ≡ map (λ x. cond (moves x) (new x) (f x)) (words n)
  sweep_end place vs end is = is ∙ same_map _ _ n (λ x l. go x l (moves x) refl) where
    go : (x : Word) → length x ≡ n → (b : Bool) → moves x ≡ b → cond (b && nat_lt (key x) place) (new x) (f x) ≡ cond b (new x) (f x)
    go x l false e = refl
    go x l true e =
        ap (λ b. cond b (new x) (f x)) (lt-ltb (key x) place (omega (arith, sweeps.within x l e, ap length is ∙ length-map_words (Swept moves key f new place) n, end)))

-- ---- one value at each place

pub masked_sweeps : (n m : ℕ) → Sweeps n m (λ x. covers m (number_of x)) number_of
masked_sweeps n m = record { within = λ x l e. omega (arith, number_of-lt x, ap (λ k. 2 ^ k) l); marked = λ x l e. e }

pub record Masked (m : ℕ) (does : Cyclotomic → Cyclotomic) (before after : List Cyclotomic) (place : ℕ) : Type 0 where
  pub len : length after ≡ length before
  pub here : Covers m place
  pub rest : (k : ℕ) → place ≤ k → get_or after k nought ≡ get_or before k nought
  pub swept : (n : ℕ) (f : Word → Cyclotomic) → before ≡ map f (words n) → after ≡ map (Swept (λ x. covers m (number_of x)) number_of f (λ x. does (f x)) place) (words n)

pub masked_start : (m : ℕ) (does : Cyclotomic → Cyclotomic) (before : List Cyclotomic) → Masked m does before before m
masked_start m does before = record {
  len = refl;
  here = or_self m;
  rest = λ k le. refl;
  swept = λ n f is. is ∙ sweep_start n m (λ x. covers m (number_of x)) number_of (masked_sweeps n m) f (λ x. does (f x));
}

pub masked_more : (m : ℕ) (does : Cyclotomic → Cyclotomic) (before after : List Cyclotomic) (place : ℕ) (v : Cyclotomic) → place < length after → v ≡ does (get_or after place nought)
    → Masked m does before after place → Masked m does before (set after place v) (bit_or (place + 1) m)
masked_more m does before after place v lt ev s = record {
  len = length-set after place v ∙ s.len;
  here = next_covers m (place + 1);
  rest = λ k le. let above = le_or_l (place + 1) m in get_or-set_other after place k v nought (omega arith) ∙ s.rest k (omega arith);
  swept = λ n f ef.
      sweep_more n m (λ x. covers m (number_of x)) number_of (masked_sweeps n m) f (λ x. does (f x)) place after (set after place v) s.here (length-set after place v) (s.swept n f ef)
      (λ x l e k. ap (λ j. get_or (set after place v) j nought) k ∙ get_or-set_same after place v nought lt ∙ ev ∙ ap (λ j. does (get_or after j nought)) (sym k)
      ∙ ap does (sweep_own n m (λ x. covers m (number_of x)) number_of (masked_sweeps n m) f (λ x. does (f x)) place after (s.swept n f ef) x l k))
      (λ x l ne. get_or-set_other after place (number_of x) v nought (λ e. ne (ap (covers m) e ∙ eq-eqb _ place s.here) e));
}

pub masked_end : (m place : ℕ) (does : Cyclotomic → Cyclotomic) (before after : List Cyclotomic) → length after ≤ place → Masked m does before after place
    → (n : ℕ) (f : Word → Cyclotomic) → before ≡ map f (words n) → after ≡ map (λ x. cond (covers m (number_of x)) (does (f x)) (f x)) (words n)
masked_end m place does before after end s n f is = sweep_end n m (λ x. covers m (number_of x)) number_of (masked_sweeps n m) f (λ x. does (f x)) place after end (s.swept n f is)

-- ---- masks of lines

covers_bit : (i k : ℕ) → covers (2 ^ i) k ≡ (bit_at k i == 1)
covers_bit i k = go (bit_at k i == 1) refl where
  sums : bit_or k (2 ^ i) + bit_at k i * 2 ^ i ≡ k + 2 ^ i
  sums = ap (λ a. bit_or k (2 ^ i) + a) (sym (and_pow k i)) ∙ or_add_and k (2 ^ i)

  go : (b : Bool) → (bit_at k i == 1) ≡ b → covers (2 ^ i) k ≡ b
  go true e = let one : bit_at k i ≡ 1 = eqb-true _ 1 e in eq-eqb _ k (omega (arith, sums, ap (λ a. a * 2 ^ i) one))
  go false e =
      let none : bit_at k i ≡ 0 = omega (arith, bit_at-lt k i, eqb-false _ 1 e) in
      let some : 2 ^ 0 ≤ 2 ^ i = pow_mono (let h : 0 ≤ i = omega arith in h) in
      let more : bit_or k (2 ^ i) ≡ k + 2 ^ i = omega (arith, sums, ap (λ a. a * 2 ^ i) none) in
      ne_eqb _ k (λ same. omega (arith, more, same, some))

pub covers_line : (n q : ℕ) (x : Word) → length x ≡ n → q < n → covers (2 ^ (n - 1 - q)) (number_of x) ≡ bit_of x q
covers_line n q x l lt =
    covers_bit (n - 1 - q) (number_of x)
    ∙ sym (sym (ap (λ y. get_or y q false) (ap (λ k. word_of k (number_of x)) (sym l) ∙ word_of-number_of x)) ∙ bit_of-word_of n (number_of x) q lt)

-- both masks
pub covers_both : (a b k : ℕ) → covers (bit_or a b) k ≡ (covers a k && covers b k)
covers_both a b k = grind (arith, bit_or, eqb-false, covered, bit_or-assoc, le_or_l)
