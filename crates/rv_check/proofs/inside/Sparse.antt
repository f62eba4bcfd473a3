-- The vector that a list of members stands for: each word has the sum of the values of its members.
use Rattle.rv_gate.proofs.Words.{same_word-is}
use Rattle.std.proofs.Common.{◌≡◌, ℕ, zero, suc, ◌*◌, Bool, true, false, cond, not, List, [], ◌∷◌, ◌++◌, map, length, set, fold, filter, ℤ, ◌*ℤ◌, neg_ℤ, refl, sym, ap, ap₂, ◌∙◌, arith}
use Rattle.std.proofs.lemmas.Int.{ints}
use Rattle.std.proofs.lemmas.Bool.{and_parts}
use Rattle.std.proofs.lemmas.Bool.Decides.{Decides-int_eq}
use Rattle.std.specs.Ordering.{int_eq}
use Rattle.std.proofs.lemmas.List.Elements.{All-head, All-tail}
use borrow.Author.Differences.{up, down, neg_is}
use Rattle.std.specs.List.{list_all}
use Rattle.rv_gate.specs.Word.{bit_of}
use Rattle.rv_net.specs.Amplitude.{amplitude, same_word, sum_over_words}
use Rattle.rv_net.specs.Cyclotomic.{Cyclotomic, nought, unity, negated, plus, times, times_w, times_w_power, root2}
use Rattle.rv_net.specs.declared.op.Op.{Op}
use Rattle.rv_net.specs.declared.op.Op.TheVariants.{H}
use Rattle.rv_net.proofs.Cyclotomic.{same_cyclotomic, plus_assoc, plus_comm, plus_nought, nought_plus, plus_swap, nought_times, times-add_left, times-add_right, times_w_power-zero}
use Rattle.rv_net.proofs.Matrix.{same_sum, sum_over_words-zero, amplitude_product}
use Rattle.rv_check.specs.Check.{are_same}
use Rattle.rv_check.specs.Reduced.{is_multiple}
use Rattle.rv_check.specs.declared.member.Member.{Member}
use Rattle.rv_check.specs.inside.Kept.{added, divided, is_present, spread}
use Rattle.rv_check.specs.inside.Stands.{On, at_word, scaled, value_at}
use Rattle.rv_check.proofs.inside.Adding.{more}
use Rattle.rv_check.proofs.inside.Multiples.{root2_quotient}
use Rattle.rv_check.proofs.inside.Scaled.{scaled-plus, scaled-times}
use Rattle.std.proofs.lemmas.Grind.{common_steps}

abbrev pub Word : Type 0
Word = List Bool

-- the members' values, each times what a function gives to its word
unfoldable pub worth : List Member → (Word → Cyclotomic) → Cyclotomic
worth [] g = nought
worth (m ∷ ms) g = plus (times m.value (g m.word)) (worth ms g)

-- ---- sums over all words

sum-one : (x : Word) (c : Cyclotomic) (f : Word → Cyclotomic) → sum_over_words (length x) (λ y. times (at_word x y c) (f y)) ≡ times c (f x)
unfolding sum_over_words
sum-one [] c f = refl
sum-one (false ∷ x) c f =
    ap₂ plus (sum-one x c (λ y. f (false ∷ y))) (same_sum (length x) _ _ (λ y. nought_times (f (true ∷ y))) ∙ sum_over_words-zero (length x))
    ∙ plus_nought _
sum-one (true ∷ x) c f =
    ap₂ plus (same_sum (length x) _ _ (λ y. nought_times (f (false ∷ y))) ∙ sum_over_words-zero (length x)) (sum-one x c (λ y. f (true ∷ y)))
    ∙ nought_plus _

sum-add : (n : ℕ) (f g : Word → Cyclotomic) → sum_over_words n (λ y. plus (f y) (g y)) ≡ plus (sum_over_words n f) (sum_over_words n g)
unfolding sum_over_words
sum-add zero f g = refl
sum-add (suc n) f g = ap₂ plus (sum-add n (λ y. f (false ∷ y)) (λ y. g (false ∷ y))) (sum-add n (λ y. f (true ∷ y)) (λ y. g (true ∷ y))) ∙ plus_swap _ _ _ _

sum-scaled : (t n : ℕ) (f : Word → Cyclotomic) → sum_over_words n (λ y. scaled t (f y)) ≡ scaled t (sum_over_words n f)
unfolding sum_over_words
sum-scaled t zero f = refl
sum-scaled t (suc n) f = ap₂ plus (sum-scaled t n (λ y. f (false ∷ y))) (sum-scaled t n (λ y. f (true ∷ y))) ∙ sym (scaled-plus t _ _)

sum-sparse : (n : ℕ) (ms : List Member) (g : Word → Cyclotomic) → On n ms → sum_over_words n (λ y. times (value_at ms y) (g y)) ≡ worth ms g
unfolding value_at worth
sum-sparse n [] g h = same_sum n _ _ (λ y. nought_times (g y)) ∙ sum_over_words-zero n
sum-sparse n (m ∷ ms) g h =
    let first : length m.word ≡ n = All-head (λ m. length m.word ≡ n) m ms h in
    same_sum n _ _ (λ y. times-add_right (g y) (at_word m.word y m.value) (value_at ms y))
    ∙ sum-add n _ _
    ∙ ap₂ plus (ap (λ k. sum_over_words k (λ y. times (at_word m.word y m.value) (g y))) (sym first) ∙ sum-one m.word m.value g)
    (sum-sparse n ms g (All-tail (λ m. length m.word ≡ n) m ms h))

-- the law of one appended operation
pub appended : (ops : List Op) (op : Op) (x : Word) (t : ℕ) (ms : List Member) → On (length x) ms → ((y : Word) → amplitude ops x y ≡ scaled t (value_at ms y))
    → (z : Word) → amplitude (ops ++ op ∷ []) x z ≡ scaled t (worth ms (λ y. amplitude (op ∷ []) y z))
appended ops op x t ms on same z =
    amplitude_product ops (op ∷ []) x z
    ∙ same_sum (length x) _ _ (λ y. ap (λ u. times u (amplitude (op ∷ []) y z)) (same y) ∙ scaled-times t (value_at ms y) (amplitude (op ∷ []) y z))
    ∙ sum-scaled t (length x) (λ y. times (value_at ms y) (amplitude (op ∷ []) y z))
    ∙ ap (scaled t) (sum-sparse (length x) ms (λ y. amplitude (op ∷ []) y z) on)

-- ---- what an operation makes of the members

z_neg_right : (x y : ℤ) → x *ℤ neg_ℤ y ≡ neg_ℤ (x *ℤ y)
z_neg_right x y = omega (arith, ints, ap (λ n. up x * n) (neg_is y).0, ap (λ n. up x * n) (neg_is y).1, ap (λ n. down x * n) (neg_is y).0, ap (λ n. down x * n) (neg_is y).1)

times-times_w : (u v : Cyclotomic) → times u (times_w v) ≡ times_w (times u v)
unfolding times times_w
times-times_w u v = same_cyclotomic _ _ (simp z_neg_right (omega (arith, ints))) (simp z_neg_right (omega (arith, ints))) (simp z_neg_right (omega (arith, ints))) (simp z_neg_right (omega (arith, ints)))

times-turned : (p : ℕ) (u v : Cyclotomic) → times u (times_w_power p v) ≡ times_w_power p (times u v)
unfolding times_w_power
times-turned zero u v = refl
times-turned (suc p) u v = times-times_w u _ ∙ ap times_w (times-turned p u v)

times_unity : (u : Cyclotomic) → times u unity ≡ u
unfolding times unity
times_unity u = same_cyclotomic _ _ (omega (arith, ints)) (omega (arith, ints)) (omega (arith, ints)) (omega (arith, ints))

times_nought : (u : Cyclotomic) → times u nought ≡ nought
unfolding times nought
times_nought u = same_cyclotomic _ _ (omega (arith, ints)) (omega (arith, ints)) (omega (arith, ints)) (omega (arith, ints))

times_negated : (u v : Cyclotomic) → times u (negated v) ≡ negated (times u v)
unfolding times negated
times_negated u v = same_cyclotomic _ _ (simp z_neg_right (omega (arith, ints))) (simp z_neg_right (omega (arith, ints))) (simp z_neg_right (omega (arith, ints))) (simp z_neg_right (omega (arith, ints)))

negated-nought : negated nought ≡ nought
unfolding negated nought
negated-nought = refl

-- a value times a phase or a sign, at a word
pub turned_at : (p : ℕ) (v : Cyclotomic) (b : Bool) → times v (times_w_power p (cond b unity nought)) ≡ cond b (times_w_power p v) nought
turned_at p v true = times-turned p v unity ∙ ap (times_w_power p) (times_unity v)
turned_at p v false = ap (times v) (times_w_power-zero p) ∙ times_nought v

pub signed_at : (s b : Bool) (v : Cyclotomic) → times v (cond s (negated (cond b unity nought)) (cond b unity nought)) ≡ cond b (cond s (negated v) v) nought
signed_at s b v = grind (arith, times_negated, times_unity, negated-nought, times_nought)

pub value_at-added : (ms : List Member) (w : Word) (v : Cyclotomic) (z : Word) → value_at (added ms w v) z ≡ plus (value_at ms z) (at_word w z v)
unfolding value_at added
value_at-added [] w v z = plus_comm _ _
value_at-added (m ∷ ms) w v z = go (same_word m.word w) refl (value_at-added ms w v z) where
  at-plus : (b : Bool) (p q r : Cyclotomic) → plus (cond b (plus p q) nought) r ≡ plus (plus (cond b p nought) r) (cond b q nought)
  at-plus true p q r = plus_assoc p q r ∙ ap (plus p) (plus_comm q r) ∙ sym (plus_assoc p r q)
  at-plus false p q r = sym (plus_nought _)

  go : (b : Bool) → same_word m.word w ≡ b → value_at (added ms w v) z ≡ plus (value_at ms z) (at_word w z v)
      → value_at (cond b (more m v ∷ ms) (m ∷ added ms w v)) z ≡ plus (value_at (m ∷ ms) z) (at_word w z v)
  go true e rest = at-plus (same_word m.word z) m.value v (value_at ms z) ∙ ap (λ x. plus (value_at (m ∷ ms) z) (at_word x z v)) (same_word-is m.word w e)
  go false e rest = ap (plus (at_word m.word z m.value)) rest ∙ sym (plus_assoc _ _ _)

value_at-spread : (line : ℕ) (ms : List Member) (m : Member) (z : Word) → value_at (spread line ms m) z ≡ plus (value_at ms z) (times m.value (amplitude (H line ∷ []) m.word z))
unfolding spread amplitude times_w_power
value_at-spread line ms m z =
    let v = m.value in
    let zero_word = set m.word line false in
    let one_word = set m.word line true in
    let sign = bit_of m.word line in
    value_at-added (added ms zero_word v) one_word (cond sign (negated v) v) z
    ∙ ap (λ u. plus u (at_word one_word z (cond sign (negated v) v))) (value_at-added ms zero_word v z)
    ∙ plus_assoc _ _ _
    ∙ ap (plus (value_at ms z)) (sym
    (times-add_left v _ _
    ∙ ap₂ plus (turned_at 0 v (same_word zero_word z)) (signed_at sign (same_word one_word z) v)))

pub value_at-fold_spread : (line : ℕ) (acc ms : List Member) (z : Word) → value_at (fold (spread line) acc ms) z ≡ plus (value_at acc z) (worth ms (λ y. amplitude (H line ∷ []) y z))
unfolding worth
value_at-fold_spread line acc [] z = sym (plus_nought _)
value_at-fold_spread line acc (m ∷ ms) z =
    value_at-fold_spread line (spread line acc m) ms z
    ∙ ap (λ u. plus u (worth ms (λ y. amplitude (H line ∷ []) y z))) (value_at-spread line acc m z)
    ∙ plus_assoc _ _ _

pub same_from : (u v : Cyclotomic) → are_same u v ≡ true → u ≡ v
same_from u v e = grind (arith, and_parts, int_eq, same_cyclotomic, Decides-int_eq)

pub value_at-filter : (ms : List Member) (z : Word) → value_at (filter is_present ms) z ≡ value_at ms z
unfolding value_at
value_at-filter [] z = refl
value_at-filter (m ∷ ms) z = go (are_same m.value nought) refl (value_at-filter ms z) where
  none : (b : Bool) → cond b nought nought ≡ nought
  none true = refl
  none false = refl

  go : (b : Bool) → are_same m.value nought ≡ b → value_at (filter is_present ms) z ≡ value_at ms z
      → value_at (cond (not b) (m ∷ filter is_present ms) (filter is_present ms)) z ≡ value_at (m ∷ ms) z
  go true e rest = rest ∙ sym (nought_plus _) ∙ ap (λ u. plus u (value_at ms z)) (sym (none (same_word m.word z)) ∙ ap (at_word m.word z) (sym (same_from m.value nought e)))
  go false e rest = ap (plus (at_word m.word z m.value)) rest

-- the members' quotients, where all are multiples of the root of two
pub value_at-divided : (ms : List Member) (z : Word) → list_all (λ m. is_multiple m.value) ms ≡ true → value_at ms z ≡ times root2 (value_at (map divided ms) z)
unfolding value_at
value_at-divided [] z e = sym (times_nought root2)
value_at-divided (m ∷ ms) z e = let rest = value_at-divided ms z in grind (arith, common_steps, rest, and_parts, root2_quotient, times-add_left, times_nought)
