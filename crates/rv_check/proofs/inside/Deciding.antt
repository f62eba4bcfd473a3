-- What the kept vector tells of the whole one.
use Rattle.rv_gate.proofs.Bits.{same_bool, or_true, and_false}
use Rattle.rv_gate.proofs.Words.{same_word-is, same_word-same, same_word-true}
use Rattle.std.proofs.Common.{◌≡◌, ℕ, zero, suc, ◌+◌, Bool, true, false, cond, not, ◌&&◌, ◌||◌, ◌==◌, List, map, length, refl, sym, ap, ap₂, ◌∙◌, arith, inl, inr, ◌⊎◌, ℤ}
use Rattle.std.proofs.lemmas.Bool.Decides.{Decides-int_eq}
use Rattle.std.specs.Ordering.{int_eq}
use Rattle.std.proofs.lemmas.Bool.{false≢true, false_from_ne_true, eq-eqb, eqb-true, and_parts}
use Rattle.std.specs.List.{list_all, list_any}
use Rattle.rv_net.specs.Amplitude.{amplitude, count_h, same_word}
use Rattle.rv_net.specs.Cyclotomic.{Cyclotomic, nought, unity, power, root2, times}
use Rattle.rv_net.specs.Denotes.{amplitude_of_map}
use Rattle.rv_net.specs.declared.op.Op.{Op}
use Rattle.rv_check.specs.Check.{agrees, are_same}
use Rattle.rv_check.specs.Reduced.{is_large, is_multiple, reduced, reduced_vector, words}
use Rattle.rv_check.specs.declared.member.Member.{Member}
use Rattle.rv_check.specs.inside.Followed.{is_image, is_only}
use Rattle.rv_check.specs.inside.Kept.{Kept, is_present}
use Rattle.rv_check.specs.inside.Stands.{Apart, On, Stands, at_word, multiples, scaled, value_at}
use Rattle.rv_check.proofs.inside.Apart.{members_pass, values_pass}
use Rattle.rv_check.proofs.inside.Multiples.{multiple-nought, multiple-root2}
use Rattle.rv_check.proofs.inside.Scaled.{scaled-nought, scaled-unity, scaled_cancel}
use Rattle.rv_check.proofs.inside.Sparse.{Word, same_from}
use Rattle.rv_check.proofs.inside.Vectors.{all_words, any_is, each_word, reduced_is, vector_all, vector_large}

-- ---- the reduced vector

greatest_vector : (n : ℕ) (k : Kept) → Apart k.members → On n k.members → (k.exponent ≡ 0) ⊎ (multiples k.members ≡ false)
    → (k.exponent ≡ 0) ⊎ (list_all is_multiple (map (value_at k.members) (words n)) ≡ false)
greatest_vector n k apart on (inl e) = inl e
greatest_vector n k apart on (inr e) = inr (vector_all is_multiple multiple-nought n k.members apart on ∙ e)

pub reduced_vector_is : (ops : List Op) (x : Word) (k : Kept) → Stands ops x k → reduced_vector ops x ≡ map (value_at k.members) (words (length x))
reduced_vector_is ops x k s =
    (let total = sym s.total in λ i. reduced (total i) (map (λ z. s.amplitudes z i) (words (length x))))
    ∙ reduced_is (words (length x)) s.divisions k.exponent (value_at k.members) (greatest_vector (length x) k s.apart s.on s.greatest)

pub large_is : (ops : List Op) (x : Word) (k : Kept) → Stands ops x k → list_any is_large (reduced_vector ops x) ≡ list_any (λ m. is_large m.value) k.members
large_is ops x k s = ap (list_any is_large) (reduced_vector_is ops x k s) ∙ vector_large (length x) k.members s.apart s.on

-- ---- agreement with a map

equal_same : (x : ℤ) → int_eq x x ≡ true
equal_same x = (Decides-int_eq x x).1 refl

pub are_same-same : (u v : Cyclotomic) → u ≡ v → are_same u v ≡ true
are_same-same u v e = ap (are_same u) (sym e) ∙ (ap₂ (λ a b. a && b) (equal_same u.a) (ap₂ (λ a b. a && b) (equal_same u.b) (ap₂ (λ a b. a && b) (equal_same u.c) (equal_same u.d))))

scaled-add : (t exponent : ℕ) (u : Cyclotomic) → scaled (t + exponent) u ≡ scaled t (scaled exponent u)
unfolding scaled
scaled-add zero exponent u = let e : 0 + exponent ≡ exponent = omega arith in ap (λ n. scaled n u) e
scaled-add (suc t) exponent u =
    let e : suc t + exponent ≡ suc (t + exponent) = omega arith in
    ap (λ n. scaled n u) e ∙ ap (times root2) (scaled-add t exponent u)

map_scaled : (h : ℕ) (b : Bool) → cond b (power root2 h) nought ≡ scaled h (cond b unity nought)
map_scaled h true = sym (scaled-unity h)
map_scaled h false = sym (scaled-nought h)

whole : (d : ℕ) (u : Cyclotomic) → is_multiple (scaled (suc d) u) ≡ true
unfolding scaled
whole d u = multiple-root2 (scaled d u)

-- the kept vector is that of the map
abbrev IsMap : ℕ → List Member → Word → Type 0
IsMap n ms image = (z : Word) → length z ≡ n → value_at ms z ≡ at_word image z unity

-- ---- the test of the members

neither_one : are_same nought unity ≡ false
unfolding nought unity
neither_one = refl

-- 0, or the image with the value 1
fitting : Word → Word → Cyclotomic → Bool
fitting image w v = not (not (are_same v nought)) || (same_word w image && are_same v unity)

-- not the image with the value 1
other : Word → Word → Cyclotomic → Bool
other image w v = not (same_word w image && are_same v unity)

fitting_nought : (image z : Word) → fitting image z nought ≡ true
unfolding fitting
fitting_nought image z = ap (λ b. not (not b) || (same_word z image && are_same nought unity)) (are_same-same nought nought refl)

other_nought : (image z : Word) → other image z nought ≡ true
unfolding other
other_nought image z = ap (λ b. not (same_word z image && b)) neither_one ∙ ap not (and_false (same_word z image))

fitting_one : (image : Word) → fitting image image unity ≡ true
unfolding fitting
fitting_one image = ap₂ (λ a b. not (not (are_same unity nought)) || (a && b)) (same_word-same image) (are_same-same unity unity refl) ∙ or_true _

other_one : (image : Word) → other image image unity ≡ false
unfolding other
other_one image = ap₂ (λ a b. not (a && b)) (same_word-same image) (are_same-same unity unity refl)

image_value : (n : ℕ) (ms : List Member) (image : Word) → IsMap n ms image → length image ≡ n → value_at ms image ≡ unity
image_value n ms image is l = is image l ∙ ap (λ b. cond b unity nought) (same_word-same image)

only_from_map : (n : ℕ) (ms : List Member) (image : Word) → Apart ms → On n ms → length image ≡ n → IsMap n ms image → is_only image ms ≡ true
unfolding is_only fitting other
only_from_map n ms image apart on l is =
    ap₂ (λ a b. a && b)
    (members_pass (fitting image) (fitting_nought image) n ms apart on (λ z e. go z (same_word image z) refl (is z e)))
    (any_is (is_image image) ms ∙ ap not (false_from_ne_true (list_all (λ m. other image m.word m.value) ms) (λ all.
    false≢true (sym (other_one image) ∙ ap (other image image) (sym (image_value n ms image is l)) ∙ values_pass (other image) (other_nought image) ms apart all image)))) where
      go : (z : Word) (b : Bool) → same_word image z ≡ b → value_at ms z ≡ at_word image z unity → fitting image z (value_at ms z) ≡ true
      go z true e v =
          let same = same_word-is image z e in
          ap (fitting image z) (v ∙ ap (λ b. cond b unity nought) e) ∙ ap (λ w. fitting image w unity) (sym same) ∙ fitting_one image
      go z false e v = ap (fitting image z) (v ∙ ap (λ b. cond b unity nought) e) ∙ fitting_nought image z

-- what the test of a value tells
fitting_cases : (image z : Word) (v : Cyclotomic) → fitting image z v ≡ true → (v ≡ nought) ⊎ ((z ≡ image) × (v ≡ unity))
unfolding fitting
fitting_cases image z v e = go (are_same v nought) refl (same_word z image) refl (are_same v unity) refl e where
  go : (a : Bool) → are_same v nought ≡ a → (b : Bool) → same_word z image ≡ b → (c : Bool) → are_same v unity ≡ c → (not (not a) || (b && c)) ≡ true → (v ≡ nought) ⊎ ((z ≡ image) × (v ≡ unity))
  go true p b q c r e = inl (same_from v nought p)
  go false p true q true r e = inr (same_word-is z image q, same_from v unity r)
  go false p true q false r e = absurd (false≢true e)
  go false p false q c r e = absurd (false≢true e)

one_at_image : (n : ℕ) (ms : List Member) (image : Word) → Apart ms → On n ms → list_any (is_image image) ms ≡ true → value_at ms image ≡ unity
unfolding other
one_at_image n ms image apart on any = go (are_same (value_at ms image) unity) refl where
  rest : are_same (value_at ms image) unity ≡ false → (z : Word) → (b : Bool) → same_word z image ≡ b → other image z (value_at ms z) ≡ true
  rest e z true q = ap (λ w. other image z (value_at ms w)) (same_word-is z image q) ∙ ap (λ b. not (same_word z image && b)) e ∙ ap not (and_false (same_word z image))
  rest e z false q = ap (λ b. not (b && are_same (value_at ms z) unity)) q

  go : (b : Bool) → are_same (value_at ms image) unity ≡ b → value_at ms image ≡ unity
  go true e = same_from (value_at ms image) unity e
  go false e =
      absurd (false≢true (sym (ap not (members_pass (other image) (other_nought image) n ms apart on (λ z l. rest e z (same_word z image) refl))) ∙ sym (any_is (is_image image) ms) ∙ any))

map_from_only : (n : ℕ) (ms : List Member) (image : Word) → Apart ms → On n ms → is_only image ms ≡ true → IsMap n ms image
unfolding is_only fitting
map_from_only n ms image apart on e z l =
    let b = and_parts (list_all (λ m. not (is_present m) || is_image image m) ms) (list_any (is_image image) ms) e in
    go (same_word image z) refl (one_at_image n ms image apart on b.1) (fitting_cases image z (value_at ms z) (values_pass (fitting image) (fitting_nought image) ms apart b.0 z)) where
      go : (c : Bool) → same_word image z ≡ c → value_at ms image ≡ unity → (value_at ms z ≡ nought) ⊎ ((z ≡ image) × (value_at ms z ≡ unity)) → value_at ms z ≡ cond c unity nought
      go true q one cases = ap (value_at ms) (sym (same_word-is image z q)) ∙ one
      go false q one (inl v) = v
      go false q one (inr (same, v)) = absurd (false≢true (sym q ∙ same_word-true image z (sym same)))

module _ (ops : List Op) (x : Word) (k : Kept) (s : Stands ops x k) (image : Word) (lines : length image ≡ length x) where
  -- what agreement says of the kept vector
  kept_value : agrees ops x image ≡ true → (z : Word) → length z ≡ length x → value_at k.members z ≡ scaled k.exponent (at_word image z unity)
  unfolding agrees
  kept_value e z l =
      scaled_cancel s.divisions _ _
      (sym (s.amplitudes z)
      ∙ same_from (amplitude ops x z) (amplitude_of_map ops image z) (each_word (λ y. are_same (amplitude ops x y) (amplitude_of_map ops image y)) (length x) e z l)
      ∙ map_scaled (count_h ops) (same_word image z)
      ∙ ap (λ h. scaled h (at_word image z unity)) (sym s.total)
      ∙ scaled-add s.divisions k.exponent (at_word image z unity))

  exponent_zero : agrees ops x image ≡ true → k.exponent ≡ 0
  exponent_zero e = go k.exponent refl s.greatest where
    go : (exponent : ℕ) → k.exponent ≡ exponent → (k.exponent ≡ 0) ⊎ (multiples k.members ≡ false) → k.exponent ≡ 0
    go exponent is (inl z) = z
    go zero is (inr f) = is
    go (suc exponent) is (inr f) =
        absurd (false≢true (sym f ∙ members_pass (λ w v. is_multiple v) (λ z. multiple-nought) (length x) k.members s.apart s.on
        (λ z l. ap is_multiple (kept_value e z l ∙ ap (λ d. scaled d (at_word image z unity)) is) ∙ whole exponent (at_word image z unity))))

  map_from_agrees : agrees ops x image ≡ true → IsMap (length x) k.members image
  unfolding scaled
  map_from_agrees e z l = kept_value e z l ∙ ap (λ d. scaled d (at_word image z unity)) (exponent_zero e)

  agrees_from_map : k.exponent ≡ 0 → IsMap (length x) k.members image → agrees ops x image ≡ true
  unfolding agrees
  agrees_from_map none is =
      all_words (λ y. are_same (amplitude ops x y) (amplitude_of_map ops image y)) (length x)
      (λ z l. are_same-same (amplitude ops x z) (amplitude_of_map ops image z)
      (s.amplitudes z ∙ ap (scaled s.divisions) (is z l)
      ∙ ap (λ h. scaled h (at_word image z unity)) (let e : s.divisions ≡ count_h ops = omega (arith, s.total, none) in e)
      ∙ sym (map_scaled (count_h ops) (same_word image z))))

  -- the code's test
  pub agrees_is : agrees ops x image ≡ ((k.exponent == 0) && is_only image k.members)
  agrees_is =
      same_bool _ _
      (λ e. ap₂ (λ a b. a && b) (eq-eqb k.exponent 0 (exponent_zero e)) (only_from_map (length x) k.members image s.apart s.on lines (map_from_agrees e)))
      (λ e.
      let b = and_parts (k.exponent == 0) (is_only image k.members) e in
      agrees_from_map (eqb-true k.exponent 0 b.0) (map_from_only (length x) k.members image s.apart s.on b.1))
