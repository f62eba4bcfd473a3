-- The values of all words, as the operations change them: those of the kept vector.
use Rattle.rv_gate.proofs.Lists.{map_map}
use Rattle.rv_gate.proofs.Words.{same_word-is, same_word-true, same_word-false}
use Rattle.std.proofs.Common.{◌≡◌, ℕ, zero, suc, ◌+◌, ◌<◌, Bool, true, false, cond, List, [], ◌∷◌, map, length, take, set, fold, refl, sym, ap, ap₂, ◌∙◌, arith}
use Rattle.std.proofs.lemmas.Int.{ints}
use Rattle.std.proofs.lemmas.List.Elements.{All-head, All-tail}
use Rattle.rv_gate.specs.Word.{bit_of}
use Rattle.rv_net.specs.Amplitude.{amplitude, same_word}
use Rattle.rv_net.specs.Cyclotomic.{Cyclotomic, negated, nought, plus, times, times_w_power}
use Rattle.rv_net.specs.Op.{goes_to, phase_of, OpFitsIn}
use Rattle.rv_net.specs.declared.op.Op.{Op}
use Rattle.rv_net.specs.declared.op.Op.TheVariants.{H}
use Rattle.rv_net.proofs.Cyclotomic.{nought_plus, plus_comm, plus_nought, plus_swap, same_cyclotomic, times-add_left, times_w_power-add, times_w_power-zero}
use Rattle.rv_check.specs.Reduced.{is_multiple, quotient, reduced, words}
use Rattle.rv_check.specs.declared.member.Member.{Member}
use Rattle.rv_check.specs.inside.Dense.{Shows, ShowsAt, ShowsOverAt, left, minus, mixed_at, moved_at, undivided_more}
use Rattle.rv_check.specs.inside.Kept.{Kept, divided, mixed, moved, reduced_kept, spread}
use Rattle.rv_check.specs.inside.Stands.{Apart, On, at_word, multiples, value_at}
use Rattle.rv_check.proofs.inside.Apart.{apart-divided}
use Rattle.rv_check.proofs.Back.{goes_back}
use Rattle.rv_check.proofs.inside.Multiples.{multiple-nought, quotient_root2}
use Rattle.rv_check.proofs.inside.Numbers.{same_map}
use Rattle.rv_check.proofs.inside.Sparse.{Word, signed_at, turned_at, value_at-divided, value_at-filter, value_at-fold_spread, worth}
use Rattle.rv_check.proofs.inside.Stands.{on_divided, over, over_reduced}
use Rattle.rv_check.proofs.inside.Vectors.{vector_all}
use Rattle.std.proofs.lemmas.Grind.{common_steps}

-- ---- an operation that is no H

moved_one : (op : Op) (w z : Word) (v : Cyclotomic) → OpFitsIn op (length w) → OpFitsIn op (length z)
    → at_word (goes_to op w) z (times_w_power (phase_of op w) v) ≡ times_w_power (phase_of op (goes_to op z)) (at_word w (goes_to op z) v)
moved_one op w z v g h = grind (arith, same_word-is, same_word-true, goes_back, same_word-false, times_w_power-zero)

pub value_at-moved : (op : Op) (n : ℕ) (ms : List Member) (z : Word) → OpFitsIn op n → On n ms → length z ≡ n → value_at (map (moved op) ms) z ≡ moved_at op (value_at ms) z
unfolding value_at
value_at-moved op n [] z fits on l = sym (times_w_power-zero (phase_of op (goes_to op z)))
value_at-moved op n (m ∷ ms) z fits on l =
    let first : length m.word ≡ n = All-head (λ m. length m.word ≡ n) m ms on in
    ap₂ plus (moved_one op m.word z m.value (rw first fits) (rw l fits)) (value_at-moved op n ms z fits (All-tail (λ m. length m.word ≡ n) m ms on) l)
    ∙ sym (times_w_power-add (phase_of op (goes_to op z)) (at_word m.word (goes_to op z) m.value) (value_at ms (goes_to op z)))

undivided_more-moved : (op : Op) (k : Kept) → ((q : ℕ) → op ≡ H q → ⊥) → undivided_more k op ≡ record k { members = map (moved op) k.members }
unfolding undivided_more
undivided_more-moved op k h = grind arith

pub shows_moved : (op : Op) (n : ℕ) (vs ws : List Cyclotomic) (exponent : ℕ) (k : Kept) → ((q : ℕ) → op ≡ H q → ⊥) → OpFitsIn op n → On n k.members
    → ((f : Word → Cyclotomic) → vs ≡ map f (words n) → ws ≡ map (moved_at op f) (words n)) → Shows n vs exponent k → Shows n ws exponent (undivided_more k op)
shows_moved op n vs ws exponent k other fits on done s = grind (arith, undivided_more-moved, same_map, value_at-moved)

-- ---- H

minus_is : (u v : Cyclotomic) → minus u v ≡ plus u (negated v)
unfolding minus plus negated
minus_is u v = same_cyclotomic _ _ (omega (arith, ints)) (omega (arith, ints)) (omega (arith, ints)) (omega (arith, ints))

minus_nought : (u : Cyclotomic) → minus u nought ≡ u
unfolding minus nought
minus_nought u = same_cyclotomic _ _ (omega (arith, ints)) (omega (arith, ints)) (omega (arith, ints)) (omega (arith, ints))

nought_minus : (u : Cyclotomic) → minus nought u ≡ negated u
nought_minus u = minus_is nought u ∙ nought_plus (negated u)

minus-plus : (p q r s : Cyclotomic) → minus (plus p q) (plus r s) ≡ plus (minus p r) (minus q s)
unfolding minus plus
minus-plus p q r s = same_cyclotomic _ _ (omega (arith, ints)) (omega (arith, ints)) (omega (arith, ints)) (omega (arith, ints))

mixed_at-plus : (q : ℕ) (f g : Word → Cyclotomic) (z : Word) → mixed_at q (λ y. plus (f y) (g y)) z ≡ plus (mixed_at q f z) (mixed_at q g z)
unfolding mixed_at
mixed_at-plus q f g z = grind (arith, bit_of, minus-plus, plus_swap)

mixed_at-nought : (q : ℕ) (z : Word) → mixed_at q (λ y. nought) z ≡ nought
unfolding mixed_at
mixed_at-nought q z = grind (arith, bit_of, minus_nought, plus_nought)

both_parts : (q : ℕ) (w z : Word) (v : Cyclotomic) → q < length w → length w ≡ length z
    → plus (at_word (set w q false) z v) (at_word (set w q true) z (cond (bit_of w q) (negated v) v)) ≡ mixed_at q (λ y. at_word w y v) z
unfolding mixed_at
both_parts q [] z v lt l = absurd (omega (arith, lt))
both_parts q (c ∷ w) [] v lt l = absurd (omega (arith, l))
both_parts zero (c ∷ w) (b ∷ z) v lt l = grind (arith, common_steps, nought_plus, nought_minus, plus_nought, minus_nought, plus_comm)
both_parts (suc q) (c ∷ w) (b ∷ z) v lt l = let rest = both_parts q w z v in grind (arith, common_steps, rest, plus_nought, minus_nought)

worth_one : (q : ℕ) (w z : Word) (v : Cyclotomic) → q < length w → length w ≡ length z → times v (amplitude (H q ∷ []) w z) ≡ mixed_at q (λ y. at_word w y v) z
unfolding amplitude times_w_power
worth_one q w z v lt l =
    times-add_left v _ _
    ∙ ap₂ plus (turned_at 0 v (same_word (set w q false) z)) (signed_at (bit_of w q) (same_word (set w q true) z) v)
    ∙ both_parts q w z v lt l

worth_mixed : (q n : ℕ) (ms : List Member) (z : Word) → q < n → On n ms → length z ≡ n → worth ms (λ y. amplitude (H q ∷ []) y z) ≡ mixed_at q (value_at ms) z
unfolding worth value_at
worth_mixed q n [] z lt on l = sym (mixed_at-nought q z)
worth_mixed q n (m ∷ ms) z lt on l =
    let first : length m.word ≡ n = All-head (λ m. length m.word ≡ n) m ms on in
    ap₂ plus (worth_one q m.word z m.value (rw first lt) (first ∙ sym l)) (worth_mixed q n ms z lt (All-tail (λ m. length m.word ≡ n) m ms on) l)
    ∙ sym (mixed_at-plus q (λ y. at_word m.word y m.value) (value_at ms) z)

pub value_at-mixed : (q n : ℕ) (ms : List Member) (z : Word) → q < n → On n ms → length z ≡ n → value_at (mixed q ms) z ≡ mixed_at q (value_at ms) z
unfolding mixed value_at
value_at-mixed q n ms z lt on l =
    value_at-filter (fold (spread q) [] ms) z ∙ value_at-fold_spread q [] ms z ∙ nought_plus (worth ms (λ y. amplitude (H q ∷ []) y z)) ∙ worth_mixed q n ms z lt on l

-- ---- division

quotients : (n : ℕ) (ms : List Member) → multiples ms ≡ true → map quotient (map (value_at ms) (words n)) ≡ map (value_at (map divided ms)) (words n)
quotients n ms all =
    map_map quotient (value_at ms) (words n)
    ∙ same_map _ _ n (λ z l. ap quotient (value_at-divided ms z all) ∙ quotient_root2 (value_at (map divided ms) z))

pub reduced_values : (n exponent : ℕ) (ms : List Member) → Apart ms → On n ms → reduced exponent (map (value_at ms) (words n)) ≡ map (value_at (reduced_kept exponent ms).members) (words n)
unfolding reduced reduced_kept
reduced_values n zero ms apart on = refl
reduced_values n (suc exponent) ms apart on =
    ap (λ b. cond b (reduced exponent (map quotient (map (value_at ms) (words n)))) (map (value_at ms) (words n))) (vector_all is_multiple multiple-nought n ms apart on)
    ∙ go (multiples ms) refl (λ all. ap (reduced exponent) (quotients n ms all) ∙ reduced_values n exponent (map divided ms) (apart-divided ms apart) (on_divided n ms on)) where
      go : (b : Bool) → multiples ms ≡ b → (multiples ms ≡ true → reduced exponent (map quotient (map (value_at ms) (words n))) ≡ map (value_at (reduced_kept exponent (map divided ms)).members) (words n))
          → cond b (reduced exponent (map quotient (map (value_at ms) (words n)))) (map (value_at ms) (words n))
          ≡ map (value_at (cond b (reduced_kept exponent (map divided ms)) (record { members = ms; exponent = suc exponent })).members) (words n)
      go true e more = more e
      go false e more = refl

pub left_values : (n exponent : ℕ) (ms : List Member) → Apart ms → On n ms → left exponent (map (value_at ms) (words n)) ≡ (reduced_kept exponent ms).exponent
unfolding left reduced_kept
left_values n zero ms apart on = refl
left_values n (suc exponent) ms apart on =
    ap (λ b. cond b (left exponent (map quotient (map (value_at ms) (words n)))) (suc exponent)) (vector_all is_multiple multiple-nought n ms apart on)
    ∙ go (multiples ms) refl (λ all. ap (left exponent) (quotients n ms all) ∙ left_values n exponent (map divided ms) (apart-divided ms apart) (on_divided n ms on)) where
      go : (b : Bool) → multiples ms ≡ b → (multiples ms ≡ true → left exponent (map quotient (map (value_at ms) (words n))) ≡ (reduced_kept exponent (map divided ms)).exponent)
          → cond b (left exponent (map quotient (map (value_at ms) (words n)))) (suc exponent)
          ≡ (cond b (reduced_kept exponent (map divided ms)) (record { members = ms; exponent = suc exponent })).exponent
      go true e more = more e
      go false e more = refl

pub shows_turned : (q n : ℕ) (vs us : List Cyclotomic) (exponent next : ℕ) (k : Kept) → q < n → On n k.members
    → ((f : Word → Cyclotomic) → vs ≡ map f (words n) → us ≡ map (mixed_at q f) (words n)) → next ≡ exponent + 1 → Shows n vs exponent k → Shows n us next (undivided_more k (H q))
unfolding undivided_more
shows_turned q n vs us exponent next k lt on done more s = record {
  values_are = done (value_at k.members) s.values_are ∙ same_map _ _ n (λ z l. sym (value_at-mixed q n k.members z lt on l));
  exponent_is = let e : next ≡ suc exponent = omega (arith, more) in e ∙ ap suc s.exponent_is;
}

shows_reduced : (n : ℕ) (vs ws : List Cyclotomic) (exponent next : ℕ) (k : Kept) → Apart k.members → On n k.members → ws ≡ reduced exponent vs → next ≡ left exponent vs
    → Shows n vs exponent k → Shows n ws next (reduced_kept k.exponent k.members)
shows_reduced n vs ws exponent next k apart on values_is next_is s = record {
  values_are = values_is ∙ ap₂ reduced s.exponent_is s.values_are ∙ reduced_values n k.exponent k.members apart on;
  exponent_is = next_is ∙ ap₂ left s.exponent_is s.values_are ∙ left_values n k.exponent k.members apart on;
}

-- the values of a place, and those divided as often as they can be
pub shows_over : (ops : List Op) (x : Word) (place exponent : ℕ) (vs : List Cyclotomic) → ShowsAt ops x place vs exponent → ShowsOverAt ops x place vs exponent
shows_over ops x place exponent vs s = record { kept = s.kept; stands = over (take place ops) x s.kept s.stands; shows = s.shows }

pub shows_least : (ops : List Op) (x : Word) (place exponent next : ℕ) (vs ws : List Cyclotomic) → ws ≡ reduced exponent vs → next ≡ left exponent vs → ShowsOverAt ops x place vs exponent → ShowsAt ops x place ws next
shows_least ops x place exponent next vs ws values_is next_is s = record {
  kept = reduced_kept s.kept.exponent s.kept.members;
  stands = over_reduced (take place ops) x s.kept s.stands;
  shows = shows_reduced (length x) vs ws exponent next s.kept s.stands.apart s.stands.on values_is next_is s.shows;
}
