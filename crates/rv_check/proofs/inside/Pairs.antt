-- Passes that take two values at a time: that of a word, and that of its partner.
use Rattle.rv_gate.proofs.Bits.{not_not}
use Rattle.std.proofs.Common.{◌≡◌, ◌≢◌, ◌⊎◌, ℕ, zero, suc, ◌+◌, ◌-◌, ◌^◌, ◌<◌, ◌≤◌, ◌&&◌, Bool, true, false, not, cond, List, [], ◌∷◌, map, length, get_or, set, All, subst, refl, sym, ap, ap₂, ◌∙◌, arith, inl, inr, length-set, get_or-set_same, get_or-set_other, set-set}
use Rattle.std.proofs.Math.Pow.{pow_mono}
use Rattle.std.proofs.lemmas.Bool.{and_parts, eq-eqb, false≢true, ne_eqb}
use Rattle.std.proofs.lemmas.List.{get_or_default, get_or_read, set_comm, set-get_or}
use Rattle.std.proofs.lemmas.List.Elements.{All-get_or}
use Rattle.std.proofs.lemmas.Nat.{le_or_r}
use Rattle.std.specs.List.{swap}
use Rattle.std.specs.Int.Bits.{bit_or}
use Rattle.rv_gate.specs.Gate.{xor}
use Rattle.rv_gate.specs.Word.{bit_of, number_of, word_of}
use Rattle.rv_gate.specs.inside.laws.WordLaws.{length-word_of, number_of-lt, number_of-word_of_small}
use Rattle.rv_net.specs.Cyclotomic.{Cyclotomic, nought, plus}
use Rattle.rv_net.specs.Op.{OpFitsIn, goes_to}
use Rattle.rv_net.specs.declared.op.Op.TheVariants.{Swap}
use Rattle.rv_check.specs.Reduced.{words}
use Rattle.rv_check.specs.inside.Dense.{Marks, covers, minus, mixed_at}
use Rattle.rv_check.specs.inside.Small.{AreSmall}
use Rattle.rv_check.proofs.Back.{goes_back, here, length-goes_to, one_back, there}
use Rattle.rv_check.proofs.inside.Masks.{Covers, Swept, Sweeps, covers_both, covers_line, sweep_end, sweep_more, sweep_own, sweep_start}
use Rattle.rv_check.proofs.inside.Numbers.{as_map, length-map_words, number_same, same_map}
use Rattle.rv_check.proofs.inside.Small.{small_wider}
use Rattle.rv_check.proofs.inside.Sparse.{Word}

-- The words that are moved stand in pairs: partners have one key, which is the number of one of them.
pub record ArePairs (n m : ℕ) (moves : Word → Bool) (key : Word → ℕ) (partner : Word → Word) : Type 0 where
  pub sweeps : Sweeps n m moves key
  pub len : (x : Word) → length x ≡ n → length (partner x) ≡ n
  pub back : (x : Word) → length x ≡ n → partner (partner x) ≡ x
  pub moved : (x : Word) → length x ≡ n → moves (partner x) ≡ moves x
  pub one_key : (x : Word) → length x ≡ n → key (partner x) ≡ key x
  pub either : (x : Word) → length x ≡ n → moves x ≡ true → (key x ≡ number_of x) ⊎ (key x ≡ number_of (partner x))

-- the word at a place, which is moved next, and its partner's place
pub record IsNext (n : ℕ) (moves : Word → Bool) (key : Word → ℕ) (partner : Word → Word) (place i : ℕ) : Type 0 where
  pub moved : moves (word_of n place) ≡ true
  pub now : key (word_of n place) ≡ place
  pub other : number_of (partner (word_of n place)) ≡ i
  pub differ : i ≢ place

module _ (n m : ℕ) (moves : Word → Bool) (key : Word → ℕ) (partner : Word → Word) (pairs : ArePairs n m moves key partner) (f new : Word → Cyclotomic)
    (place i : ℕ) (vs : List Cyclotomic) (lt : place < length vs) (next : IsNext n moves key partner place i) (is : vs ≡ map (Swept moves key f new place) (words n)) where
  abbrev w : Word
  w = word_of n place

  lw : length w ≡ n
  lw = length-word_of n place

  ew : number_of w ≡ place
  ew = number_of-word_of_small n place (omega (arith, lt, ap length is, length-map_words (Swept moves key f new place) n))

  -- both have their values yet
  pub pair_own : (get_or vs i nought ≡ f (partner w)) × (get_or vs place nought ≡ f w)
  pair_own = (
    ap (λ k. get_or vs k nought) (sym next.other) ∙ sweep_own n m moves key pairs.sweeps f new place vs is (partner w) (pairs.len w lw) (pairs.one_key w lw ∙ next.now),
    ap (λ k. get_or vs k nought) (sym ew) ∙ sweep_own n m moves key pairs.sweeps f new place vs is w lw next.now,
  )

  pub pair_in : i < length vs
  pair_in = omega (arith, number_of-lt (partner w), ap (λ k. 2 ^ k) (pairs.len w lw), next.other, ap length is, length-map_words (Swept moves key f new place) n)

  pub pair_more : (u v : Cyclotomic) → Covers m place → u ≡ new (partner w) → v ≡ new w → set (set vs i u) place v ≡ map (Swept moves key f new (bit_or (place + 1) m)) (words n)
  pair_more u v at eu ev =
      sweep_more n m moves key pairs.sweeps f new place vs (set (set vs i u) place v) at (length-set (set vs i u) place v ∙ length-set vs i u) is done others where
        is_w : (x : Word) → length x ≡ n → number_of x ≡ place → x ≡ w
        is_w x l e = number_same x w (l ∙ sym lw) (e ∙ sym ew)

        is_partner : (x : Word) → length x ≡ n → number_of x ≡ i → x ≡ partner w
        is_partner x l e = number_same x (partner w) (l ∙ sym (pairs.len w lw)) (e ∙ sym next.other)

        done : (x : Word) → length x ≡ n → moves x ≡ true → key x ≡ place → get_or (set (set vs i u) place v) (number_of x) nought ≡ new x
        done x l t k = elim (pairs.either x l t) [
          | inl own ↦
              let e : number_of x ≡ place = sym own ∙ k in
              ap (λ j. get_or (set (set vs i u) place v) j nought) e ∙ get_or-set_same (set vs i u) place v nought (omega (arith, lt, length-set vs i u)) ∙ ev ∙ ap new (sym (is_w x l e))
          | inr up ↦
              let e : x ≡ partner w = sym (pairs.back x l) ∙ ap partner (is_w (partner x) (pairs.len x l) (sym up ∙ k)) in
              ap (λ y. get_or (set (set vs i u) place v) (number_of y) nought) e ∙ ap (λ j. get_or (set (set vs i u) place v) j nought) next.other
              ∙ get_or-set_other (set vs i u) place i v nought next.differ ∙ get_or-set_same vs i u nought pair_in ∙ eu ∙ ap new (sym e)
        ]

        others : (x : Word) → length x ≡ n → (moves x ≡ true → key x ≢ place) → get_or (set (set vs i u) place v) (number_of x) nought ≡ get_or vs (number_of x) nought
        others x l ne =
            get_or-set_other (set vs i u) place (number_of x) v nought (λ e. let s = is_w x l e in ne (ap moves s ∙ next.moved) (ap key s ∙ next.now))
            ∙ get_or-set_other vs i (number_of x) u nought
            (λ e. let s = is_partner x l e in ne (ap moves s ∙ pairs.moved w lw ∙ next.moved) (ap key s ∙ pairs.one_key w lw ∙ next.now))

swapped : (vs : List Cyclotomic) (i j : ℕ) → i < length vs → j < length vs → swap vs i j ≡ set (set vs i (get_or vs j nought)) j (get_or vs i nought)
swapped [] i j lt less = absurd (omega (arith, lt))
swapped (v ∷ vs) i j lt less = ap₂ (λ x y. set (set (v ∷ vs) i x) j y) (get_or_default (v ∷ vs) j v nought less) (get_or_default (v ∷ vs) i v nought lt)

-- two values exchanged
pair_swapped : (n m : ℕ) (moves : Word → Bool) (key : Word → ℕ) (partner : Word → Word) → ArePairs n m moves key partner → (f : Word → Cyclotomic) (place i : ℕ) (vs ws : List Cyclotomic) → Covers m place
    → place < length vs → IsNext n moves key partner place i → ws ≡ swap vs i place → vs ≡ map (Swept moves key f (λ x. f (partner x)) place) (words n)
    → ws ≡ map (Swept moves key f (λ x. f (partner x)) (bit_or (place + 1) m)) (words n)
pair_swapped n m moves key partner pairs f place i vs ws at lt next es is =
    let own = pair_own n m moves key partner pairs f (λ x. f (partner x)) place i vs lt next is in
    es ∙ swapped vs i place (pair_in n m moves key partner pairs f (λ x. f (partner x)) place i vs lt next is) lt
    ∙ pair_more n m moves key partner pairs f (λ x. f (partner x)) place i vs lt next is (get_or vs place nought) (get_or vs i nought) at
    (own.1 ∙ ap f (sym (pairs.back (word_of n place) (length-word_of n place)))) own.0

number_of-set : (x : Word) (q : ℕ) → q < length x → number_of (set x q true) ≡ number_of (set x q false) + 2 ^ (length x - 1 - q)
unfolding number_of
number_of-set [] q lt = absurd (omega (arith, lt))
number_of-set (c ∷ x) zero lt = let e : suc (length x) - 1 - 0 ≡ length x = omega arith in omega (arith, ap (λ k. 2 ^ k) e)
number_of-set (c ∷ x) (suc q) lt = let i0 = number_of-set x q in grind (arith, i0, length-set)

same : (x : Word) (q : ℕ) (c : Bool) → bit_of x q ≡ c → set x q c ≡ x
same x q c g = ap (set x q) (sym g) ∙ set-get_or x q false

-- ---- words that differ on one line

abbrev pub turned : ℕ → Word → Word
turned q x = set x q (not (bit_of x q))

abbrev pub top : ℕ → Word → ℕ
top q x = number_of (set x q true)

line_held : (n q b : ℕ) → q < n → b ≡ 2 ^ (n - 1 - q) → (x : Word) → length x ≡ n → covers b (number_of x) ≡ bit_of x q
line_held n q b lt e x l = ap (λ m. covers m (number_of x)) e ∙ covers_line n q x l lt

mask_held : (n mask q b : ℕ) (on : Word → Bool) → Marks mask n q on → q < n → b ≡ 2 ^ (n - 1 - q) → (x : Word) → length x ≡ n → covers (bit_or mask b) (number_of x) ≡ (on x && bit_of x q)
mask_held n mask q b on marks lt e x l = covers_both mask b (number_of x) ∙ ap₂ (λ c d. c && d) (marks.held x l) (line_held n q b lt e x l)

pub flip_pairs : (n m q : ℕ) (on : Word → Bool) → q < n → ((x : Word) → length x ≡ n → covers m (number_of x) ≡ (on x && bit_of x q)) → ((x : Word) (c : Bool) → on (set x q c) ≡ on x)
    → ArePairs n m on (top q) (turned q)
flip_pairs n m q on lt held free = record {
  sweeps = record {
    within = λ x l t. omega (arith, number_of-lt (set x q true), ap (λ k. 2 ^ k) (length-set x q true ∙ l));
    marked = λ x l t. held (set x q true) (length-set x q true ∙ l) ∙ ap₂ (λ c d. c && d) (free x true ∙ t) (here x q true (omega (arith, lt, l)));
  };
  len = λ x l. length-set x q _ ∙ l;
  back = λ x l. one_back x q _ _ (ap not (here x q _ (omega (arith, lt, l))) ∙ not_not (bit_of x q));
  moved = λ x l. free x _;
  one_key = λ x l. ap number_of (set-set x q _ true);
  either = λ x l t. go x (bit_of x q) refl;
} where
  go : (x : Word) (c : Bool) → bit_of x q ≡ c → (top q x ≡ number_of x) ⊎ (top q x ≡ number_of (set x q (not c)))
  go x true g = inl (ap number_of (same x q true g))
  go x false g = inr refl

-- the word at a place of the mask is the higher one
flip_next : (n m q b place : ℕ) (on : Word → Bool) → q < n → b ≡ 2 ^ (n - 1 - q) → ((x : Word) → length x ≡ n → covers m (number_of x) ≡ (on x && bit_of x q)) → Covers m place → place < 2 ^ n
    → IsNext n on (top q) (turned q) place (place - b)
flip_next n m q b place on lt e held at within =
    let w : Word = word_of n place in
    let lw : length w ≡ n = length-word_of n place in
    let ew : number_of w ≡ place = number_of-word_of_small n place within in
    let s = and_parts (on w) (bit_of w q) (sym (held w lw) ∙ ap (covers m) ew ∙ eq-eqb _ place at) in
    let own = ap number_of (same w q true s.1) in
    let sum = number_of-set w q (omega (arith, lt, lw)) in
    let p = ap (λ k. 2 ^ (k - 1 - q)) lw in
    let low : number_of (turned q w) ≡ number_of (set w q false) = ap (λ c. number_of (set w q (not c))) s.1 in
    let some : 2 ^ 0 ≤ 2 ^ (n - 1 - q) = pow_mono (let h : 0 ≤ n - 1 - q = omega arith in h) in
    record { moved = s.0; now = own ∙ ew; other = omega (arith, own, ew, sum, p, e, low); differ = λ z. omega (arith, z, own, ew, sum, p, e, some) }

-- H: what its pass has come to
abbrev pub Mixing : ℕ → ℕ → List Cyclotomic → List Cyclotomic → ℕ → Type 0
Mixing n q before after place = (f : Word → Cyclotomic) → before ≡ map f (words n) → after ≡ map (Swept (λ x. true) (top q) f (mixed_at q f) place) (words n)

line_pairs : (n q b : ℕ) → q < n → b ≡ 2 ^ (n - 1 - q) → ArePairs n b (λ x. true) (top q) (turned q)
line_pairs n q b lt e = flip_pairs n b q (λ x. true) lt (line_held n q b lt e) (λ x c. refl)

pub mixing_start : (n q b : ℕ) (before : List Cyclotomic) → q < n → b ≡ 2 ^ (n - 1 - q) → Mixing n q before before b
mixing_start n q b before lt e f is = is ∙ sweep_start n b (λ x. true) (top q) (line_pairs n q b lt e).sweeps f (mixed_at q f)

pub mixing_end : (n q b place : ℕ) (before after : List Cyclotomic) → q < n → b ≡ 2 ^ (n - 1 - q) → length after ≤ place → Mixing n q before after place
    → (f : Word → Cyclotomic) → before ≡ map f (words n) → after ≡ map (mixed_at q f) (words n)
mixing_end n q b place before after lt e end is f ef = sweep_end n b (λ x. true) (top q) (line_pairs n q b lt e).sweeps f (mixed_at q f) place after end (is f ef)

module _ (n q b place : ℕ) (before after : List Cyclotomic) (less : q < n) (e : b ≡ 2 ^ (n - 1 - q)) (at : Covers b place) (len : length after ≡ 2 ^ n) (lt : place < length after) (mixing : Mixing n q before after place) where
  next : IsNext n (λ x. true) (top q) (turned q) place (place - b)
  next = flip_next n b q b place (λ x. true) less e (line_held n q b less e) at (omega (arith, len, lt))

  pub mixing_more : (u v : Cyclotomic) → u ≡ plus (get_or after (place - b) nought) (get_or after place nought) → v ≡ minus (get_or after (place - b) nought) (get_or after place nought)
      → Mixing n q before (set (set after (place - b) u) place v) (bit_or (place + 1) b)
  unfolding mixed_at
  mixing_more u v eu ev f ef =
      let w : Word = word_of n place in
      let own = pair_own n b (λ x. true) (top q) (turned q) (line_pairs n q b less e) f (mixed_at q f) place (place - b) after lt next (mixing f ef) in
      let lw : length w ≡ n = length-word_of n place in
      let bit : bit_of w q ≡ true = sym (line_held n q b less e w lw) ∙ ap (covers b) (number_of-word_of_small n place (omega (arith, len, lt))) ∙ eq-eqb _ place at in
      let low : f (turned q w) ≡ f (set w q false) = ap (λ c. f (set w q (not c))) bit in
      let high : f w ≡ f (set w q true) = ap f (sym (same w q true bit)) in
      let off : bit_of (turned q w) q ≡ false = here w q _ (omega (arith, less, lw)) ∙ ap not bit in
      pair_more n b (λ x. true) (top q) (turned q) (line_pairs n q b less e) f (mixed_at q f) place (place - b) after lt next (mixing f ef) u v at
      (eu ∙ ap₂ plus (own.0 ∙ low) (own.1 ∙ high)
      ∙ sym (ap (λ c. cond c (minus (f (set (turned q w) q false)) (f (set (turned q w) q true))) (plus (f (set (turned q w) q false)) (f (set (turned q w) q true)))) off
      ∙ ap₂ plus (ap f (set-set w q _ false)) (ap f (set-set w q _ true))))
      (ev ∙ ap₂ minus (own.0 ∙ low) (own.1 ∙ high) ∙ sym (ap (λ c. cond c (minus (f (set w q false)) (f (set w q true))) (plus (f (set w q false)) (f (set w q true)))) bit))

  -- the values of the next pair are as small as they were
  pub pair_small : (most wide : ℕ) (x y : Cyclotomic) → length before ≡ 2 ^ n → most ≤ wide → All (AreSmall most) before → x ≡ get_or after (place - b) x → y ≡ get_or after place y → AreSmall wide x × AreSmall wide y
  pair_small most wide x y size le all ex ey =
      let f : Word → Cyclotomic = λ x. get_or before (number_of x) nought in
      let own = pair_own n b (λ x. true) (top q) (turned q) (line_pairs n q b less e) f (mixed_at q f) place (place - b) after lt next (mixing f (as_map n before nought size)) in
      let small : (k : ℕ) → k < length before → AreSmall wide (get_or before k nought) = λ k h. small_wider most wide _ le (All-get_or (AreSmall most) before k nought h all) in
      let low = get_or_read after (place - b) x (omega (arith, lt)) ex nought ∙ own.0 ∙ ap (λ k. get_or before k nought) next.other in
      let high = get_or_read after place y lt ey nought ∙ own.1 ∙ ap (λ k. get_or before k nought) (number_of-word_of_small n place (omega (arith, len, lt))) in
      (subst (AreSmall wide) (sym low) (small (place - b) (omega (arith, lt, len, size))), subst (AreSmall wide) (sym high) (small place (omega (arith, lt, len, size))))

-- a bit changed: what its pass has come to
abbrev pub Flipping : ℕ → ℕ → ℕ → List Cyclotomic → List Cyclotomic → ℕ → Type 0
Flipping n mask q before after place =
    (on : Word → Bool) → Marks mask n q on → (f : Word → Cyclotomic) → before ≡ map f (words n) → after ≡ map (Swept on (top q) f (λ x. f (turned q x)) place) (words n)

module _ (n mask q b : ℕ) (before : List Cyclotomic) (lt : q < n) (e : b ≡ 2 ^ (n - 1 - q)) where
  marked_pairs : (on : Word → Bool) → Marks mask n q on → ArePairs n (bit_or mask b) on (top q) (turned q)
  marked_pairs on marks = flip_pairs n (bit_or mask b) q on lt (mask_held n mask q b on marks lt e) marks.free

  pub flipping_start : Flipping n mask q before before (bit_or mask b)
  flipping_start on marks f is = is ∙ sweep_start n (bit_or mask b) on (top q) (marked_pairs on marks).sweeps f (λ x. f (turned q x))

  pub flipping_more : (place : ℕ) (after now : List Cyclotomic) → Covers (bit_or mask b) place → place < length after → now ≡ swap after (place - b) place
      → Flipping n mask q before after place → Flipping n mask q before now (bit_or (place + 1) (bit_or mask b))
  flipping_more place after now at less es is on marks f ef =
      pair_swapped n (bit_or mask b) on (top q) (turned q) (marked_pairs on marks) f place (place - b) after now at less
      (flip_next n (bit_or mask b) q b place on lt e (mask_held n mask q b on marks lt e) at (omega (arith, less, ap length (is on marks f ef), length-map_words (Swept on (top q) f (λ x. f (turned q x)) place) n))) es (is on marks f ef)

  pub flipping_end : (place : ℕ) (after : List Cyclotomic) → length after ≤ place → Flipping n mask q before after place
      → (on : Word → Bool) → Marks mask n q on → (f : Word → Cyclotomic) → before ≡ map f (words n) → after ≡ map (λ x. f (set x q (xor (on x) (bit_of x q)))) (words n)
  flipping_end place after end is on marks f ef =
      sweep_end n (bit_or mask b) on (top q) (marked_pairs on marks).sweeps f (λ x. f (turned q x)) place after end (is on marks f ef) ∙ same_map _ _ n (λ x l. go x (on x) (bit_of x q) refl) where
        go : (x : Word) (o c : Bool) → bit_of x q ≡ c → cond o (f (set x q (not c))) (f x) ≡ f (set x q (xor o c))
        go x true true g = refl
        go x true false g = refl
        go x false true g = ap f (sym (same x q true g))
        go x false false g = ap f (sym (same x q false g))

-- ---- words that differ on two lines

abbrev pub differs : (Word → Bool) → ℕ → ℕ → Word → Bool
differs on a b x = on x && xor (bit_of x a) (bit_of x b)

abbrev pub upper : ℕ → ℕ → Word → ℕ
upper a b x = number_of (set (set x a true) b false)

-- the number of the partner
exchanged_number : (n a b p q : ℕ) (x : Word) → OpFitsIn (Swap a b) n → p ≡ 2 ^ (n - 1 - a) → q ≡ 2 ^ (n - 1 - b) → length x ≡ n → bit_of x a ≡ true → bit_of x b ≡ false
    → number_of (goes_to (Swap a b) x) + p ≡ number_of x + q
exchanged_number n a b p q x fits e g l on off =
    let y : Word = set x a false in
    let ly : length y ≡ n = length-set x a false ∙ l in
    let upper = number_of-set x a (omega (arith, fits.0, l)) in
    let lower = number_of-set y b (omega (arith, fits.1, ly)) in
    let own = ap number_of (same x a true on) in
    let still = ap number_of (same y b false (there x a b false (λ e. fits.2 (sym e)) ∙ off)) in
    let is = ap₂ (λ c d. number_of (set (set x a c) b d)) off on in
    omega (arith, upper, lower, own, still, is, ap (λ k. 2 ^ (k - 1 - a)) l, ap (λ k. 2 ^ (k - 1 - b)) ly, e, g)

-- an exchange: what its pass has come to
abbrev pub Exchanging : ℕ → ℕ → ℕ → ℕ → List Cyclotomic → List Cyclotomic → ℕ → Type 0
Exchanging n mask a b before after place =
    (on : Word → Bool) → Marks mask n a on → Marks mask n b on → (f : Word → Cyclotomic) → before ≡ map f (words n)
    → after ≡ map (Swept (differs on a b) (upper a b) f (λ x. f (goes_to (Swap a b) x)) place) (words n)

module _ (n mask a b p q : ℕ) (before : List Cyclotomic) (fits : OpFitsIn (Swap a b) n) (e : p ≡ 2 ^ (n - 1 - a)) (g : q ≡ 2 ^ (n - 1 - b)) where
  in_a : (x : Word) (c : Bool) → length x ≡ n → bit_of (set x a c) a ≡ c
  in_a x c l = here x a c (omega (arith, fits.0, l))

  in_b : (x : Word) (c d : Bool) → length x ≡ n → bit_of (set (set x a c) b d) b ≡ d
  in_b x c d l = here (set x a c) b d (omega (arith, fits.1, l, length-set x a c))

  past_b : (x : Word) (c d : Bool) → length x ≡ n → bit_of (set (set x a c) b d) a ≡ c
  past_b x c d l = there (set x a c) b a d fits.2 ∙ in_a x c l

  exchange_pairs : (on : Word → Bool) → Marks mask n a on → Marks mask n b on → ArePairs n (bit_or mask p) (differs on a b) (upper a b) (goes_to (Swap a b))
  exchange_pairs on one two = record {
    sweeps = record {
      within = λ x l t. omega (arith, number_of-lt (set (set x a true) b false), ap (λ k. 2 ^ k) (length-set (set x a true) b false ∙ length-set x a true ∙ l));
      marked = λ x l t.
          mask_held n mask a p on one fits.0 e (set (set x a true) b false) (length-set (set x a true) b false ∙ length-set x a true ∙ l)
          ∙ ap₂ (λ c d. c && d) (two.free (set x a true) false ∙ one.free x true ∙ (and_parts (on x) _ t).0) (past_b x true false l);
    };
    len = λ x l. length-goes_to (Swap a b) x ∙ l;
    back = λ x l. goes_back (Swap a b) x (subst (OpFitsIn (Swap a b)) (sym l) fits);
    moved = λ x l.
        ap₂ (λ c d. c && d) (two.free (set x a (bit_of x b)) (bit_of x a) ∙ one.free x (bit_of x b))
        (ap₂ xor (past_b x (bit_of x b) (bit_of x a) l) (in_b x (bit_of x b) (bit_of x a) l) ∙ turn (bit_of x b) (bit_of x a));
    one_key = λ x l. ap number_of (over x (bit_of x b) (bit_of x a));
    either = λ x l t. go x (bit_of x a) (bit_of x b) refl refl (and_parts (on x) _ t).1;
  } where
    turn : (c d : Bool) → xor c d ≡ xor d c
    turn c d = grind arith

    over : (x : Word) (c d : Bool) → set (set (set (set x a c) b d) a true) b false ≡ set (set x a true) b false
    over x c d = let ne = fits.2 in grind (arith, set_comm, set-set)

    go : (x : Word) (c d : Bool) → bit_of x a ≡ c → bit_of x b ≡ d → xor c d ≡ true → (upper a b x ≡ number_of x) ⊎ (upper a b x ≡ number_of (set (set x a d) b c))
    go x true false h k t = inl (ap number_of (ap (λ y. set y b false) (same x a true h) ∙ same x b false k))
    go x false true h k t = inr refl
    go x true true h k t = absurd (false≢true t)
    go x false false h k t = absurd (false≢true t)

  module _ (place : ℕ) (after : List Cyclotomic) (at : Covers (bit_or mask p) place) (len : length after ≡ 2 ^ n) (lt : place < length after) where
    abbrev v : Word
    v = word_of n place

    lv : length v ≡ n
    lv = length-word_of n place

    ev : number_of v ≡ place
    ev = number_of-word_of_small n place (omega (arith, len, lt))

    on_a : bit_of v a ≡ true
    on_a = sym (line_held n a p fits.0 e v lv) ∙ ap (covers p) ev ∙ (and_parts _ _ (sym (covers_both mask p place) ∙ eq-eqb _ place at)).1

    on_b : bit_of v b ≡ covers q place
    on_b = sym (line_held n b q fits.1 g v lv) ∙ ap (covers q) ev

    other : bit_or place q ≢ place → number_of (goes_to (Swap a b) v) ≡ place - p + q
    other ne = omega (arith, exchanged_number n a b p q v fits e g lv on_a (on_b ∙ ne_eqb _ place ne), ev, at, le_or_r place (bit_or mask p), le_or_r mask p)

    pub swap_in : bit_or place q ≢ place → place - p + q < length after
    swap_in ne = omega (arith, other ne, number_of-lt (goes_to (Swap a b) v), ap (λ k. 2 ^ k) (length-goes_to (Swap a b) v ∙ lv), len)

    on_w : (on : Word → Bool) → Marks mask n a on → on v ≡ true
    on_w on one = (and_parts _ _ (sym (mask_held n mask a p on one fits.0 e v lv) ∙ ap (covers (bit_or mask p)) ev ∙ eq-eqb _ place at)).0

    pub exchanging_more : (now : List Cyclotomic) → bit_or place q ≢ place → now ≡ swap after (place - p + q) place → Exchanging n mask a b before after place
        → Exchanging n mask a b before now (bit_or (place + 1) (bit_or mask p))
    exchanging_more now ne es is on one two f ef =
        let off : bit_of v b ≡ false = on_b ∙ ne_eqb _ place ne in
        pair_swapped n (bit_or mask p) (differs on a b) (upper a b) (goes_to (Swap a b)) (exchange_pairs on one two) f place (place - p + q) after now at lt
        (record {
          moved = ap₂ (λ c d. c && d) (on_w on one) (ap₂ xor on_a off);
          now = ap number_of (ap (λ y. set y b false) (same v a true on_a) ∙ same v b false off) ∙ ev;
          other = other ne;
          differ = λ z. false≢true (sym off ∙ ap (λ y. bit_of y b) (sym (number_same (goes_to (Swap a b) v) v (length-goes_to (Swap a b) v) (other ne ∙ z ∙ sym ev))) ∙ in_b v (bit_of v b) (bit_of v a) lv ∙ on_a);
        }) es (is on one two f ef)

    pub exchanging_skip : bit_or place q ≡ place → Exchanging n mask a b before after place → Exchanging n mask a b before after (bit_or (place + 1) (bit_or mask p))
    exchanging_skip same_place is on one two f ef =
        let both : bit_of v b ≡ true = on_b ∙ eq-eqb _ place same_place in
        sweep_more n (bit_or mask p) (differs on a b) (upper a b) (exchange_pairs on one two).sweeps f (λ x. f (goes_to (Swap a b) x)) place after after at refl (is on one two f ef)
        (λ x l t k. absurd (
        let s : set (set x a true) b false ≡ v = number_same _ v (length-set (set x a true) b false ∙ length-set x a true ∙ l ∙ sym lv) (k ∙ sym ev) in
        false≢true (sym (in_b x true false l) ∙ ap (λ y. bit_of y b) s ∙ both))) (λ x l ne. refl)

  pub exchanging_start : Exchanging n mask a b before before (bit_or mask p)
  exchanging_start on one two f is = is ∙ sweep_start n (bit_or mask p) (differs on a b) (upper a b) (exchange_pairs on one two).sweeps f (λ x. f (goes_to (Swap a b) x))

  pub exchanging_end : (place : ℕ) (after : List Cyclotomic) → length after ≤ place → Exchanging n mask a b before after place
      → (on : Word → Bool) → Marks mask n a on → Marks mask n b on → (f : Word → Cyclotomic) → before ≡ map f (words n) → after ≡ map (λ x. f (cond (on x) (goes_to (Swap a b) x) x)) (words n)
  exchanging_end place after end is on one two f ef =
      sweep_end n (bit_or mask p) (differs on a b) (upper a b) (exchange_pairs on one two).sweeps f (λ x. f (goes_to (Swap a b) x)) place after end (is on one two f ef)
      ∙ same_map _ _ n (λ x l. go x (on x) (bit_of x a) (bit_of x b) refl refl) where
        go : (x : Word) (o c d : Bool) → bit_of x a ≡ c → bit_of x b ≡ d → cond (o && xor c d) (f (set (set x a d) b c)) (f x) ≡ f (cond o (set (set x a d) b c) x)
        go x true true false h k = refl
        go x true false true h k = refl
        go x true true true h k = ap f (sym (ap (λ y. set y b true) (same x a true h) ∙ same x b true k))
        go x true false false h k = ap f (sym (ap (λ y. set y b false) (same x a false h) ∙ same x b false k))
        go x false c d h k = refl
