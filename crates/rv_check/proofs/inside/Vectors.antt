-- Vectors over all words, and their reduction.
use Rattle.rv_gate.proofs.Bits.{same_bool}
use Rattle.std.proofs.Common.{◌≡◌, ℕ, zero, suc, ◌+◌, Bool, true, false, cond, not, ◌&&◌, List, [], ◌∷◌, map, length, refl, sym, ap, ap₂, ◌∙◌, arith, ◌⊎◌}
use Rattle.std.proofs.lemmas.Bool.{and_parts}
use Rattle.std.proofs.lemmas.List.Folds.{list_all-append, list_all-map}
use Rattle.std.specs.List.{list_all, list_any}
use Rattle.rv_net.specs.Cyclotomic.{Cyclotomic, nought, root2, times}
use Rattle.rv_check.specs.Reduced.{is_large, is_multiple, quotient, reduced, words}
use Rattle.rv_check.specs.declared.member.Member.{Member}
use Rattle.rv_check.specs.inside.Stands.{Apart, On, scaled, value_at}
use Rattle.rv_check.proofs.inside.Apart.{members_pass, values_pass}
use Rattle.rv_check.proofs.inside.Multiples.{multiple-root2, quotient_root2, large-nought}
use Rattle.rv_check.proofs.inside.Sparse.{Word}
use Rattle.std.proofs.lemmas.Grind.{common_steps}

-- ---- tests of all words

pub all_words : (f : Word → Bool) (n : ℕ) → ((z : Word) → length z ≡ n → f z ≡ true) → list_all f (words n) ≡ true
unfolding words
all_words f zero h = ap (λ b. b && true) (h [] refl)
all_words f (suc n) h =
    list_all-append f (map (λ v. false ∷ v) (words n)) (map (λ v. true ∷ v) (words n))
    ∙ ap₂ (λ a b. a && b)
    (list_all-map f (λ v. false ∷ v) (words n) ∙ all_words (λ v. f (false ∷ v)) n (λ z e. h (false ∷ z) (ap suc e)))
    (list_all-map f (λ v. true ∷ v) (words n) ∙ all_words (λ v. f (true ∷ v)) n (λ z e. h (true ∷ z) (ap suc e)))

pub each_word : (f : Word → Bool) (n : ℕ) → list_all f (words n) ≡ true → (z : Word) → length z ≡ n → f z ≡ true
unfolding words
each_word f zero e [] l = (and_parts (f []) true e).0
each_word f (suc n) e (false ∷ z) l =
    let b = and_parts (list_all f (map (λ v. false ∷ v) (words n))) (list_all f (map (λ v. true ∷ v) (words n)))
    (sym (list_all-append f (map (λ v. false ∷ v) (words n)) (map (λ v. true ∷ v) (words n))) ∙ e) in
    each_word (λ v. f (false ∷ v)) n (sym (list_all-map f (λ v. false ∷ v) (words n)) ∙ b.0) z (omega (arith, l))
each_word f (suc n) e (true ∷ z) l =
    let b = and_parts (list_all f (map (λ v. false ∷ v) (words n))) (list_all f (map (λ v. true ∷ v) (words n)))
    (sym (list_all-append f (map (λ v. false ∷ v) (words n)) (map (λ v. true ∷ v) (words n))) ∙ e) in
    each_word (λ v. f (true ∷ v)) n (sym (list_all-map f (λ v. true ∷ v) (words n)) ∙ b.1) z (omega (arith, l))
each_word f o e v l = absurd (omega (arith, l))

pub any_is : {X : Type 0} (p : X → Bool) (xs : List X) → list_any p xs ≡ not (list_all (λ x. not (p x)) xs)
any_is p [] = refl
any_is p (x ∷ xs) = let rest = any_is p xs in grind (arith, common_steps, rest)

-- ---- the vector of members

pub vector_all : (f : Cyclotomic → Bool) → f nought ≡ true → (n : ℕ) (ms : List Member) → Apart ms → On n ms → list_all f (map (value_at ms) (words n)) ≡ list_all (λ m. f m.value) ms
vector_all f none n ms apart on =
    list_all-map f (value_at ms) (words n)
    ∙ same_bool _ _
    (λ e. members_pass (λ w v. f v) (λ z. none) n ms apart on (each_word (λ z. f (value_at ms z)) n e))
    (λ e. all_words (λ z. f (value_at ms z)) n (λ z l. values_pass (λ w v. f v) (λ z. none) ms apart e z))

pub vector_large : (n : ℕ) (ms : List Member) → Apart ms → On n ms → list_any is_large (map (value_at ms) (words n)) ≡ list_any (λ m. is_large m.value) ms
vector_large n ms apart on = grind (arith, any_is, is_large, value_at, vector_all, large-nought)

-- ---- reduction

all_multiples : (g : Word → Cyclotomic) (ws : List Word) → list_all is_multiple (map (λ z. times root2 (g z)) ws) ≡ true
all_multiples g [] = refl
all_multiples g (w ∷ ws) = ap₂ (λ a b. a && b) (multiple-root2 (g w)) (all_multiples g ws)

all_quotients : (g : Word → Cyclotomic) (ws : List Word) → map quotient (map (λ z. times root2 (g z)) ws) ≡ map g ws
all_quotients g [] = refl
all_quotients g (w ∷ ws) = ap₂ (λ u l. u ∷ l) (quotient_root2 (g w)) (all_quotients g ws)

reduced_stays : (exponent : ℕ) (vector : List Cyclotomic) → (exponent ≡ 0) ⊎ (list_all is_multiple vector ≡ false) → reduced exponent vector ≡ vector
unfolding reduced
reduced_stays exponent vector h = grind (arith, map)

-- the vector of which another is the multiple by the root of two, as often as that can be
pub reduced_is : (ws : List Word) (t exponent : ℕ) (v : Word → Cyclotomic) → (exponent ≡ 0) ⊎ (list_all is_multiple (map v ws) ≡ false)
    → reduced (t + exponent) (map (λ z. scaled t (v z)) ws) ≡ map v ws
unfolding reduced scaled
reduced_is ws zero exponent v h =
    let e : 0 + exponent ≡ exponent = omega arith in
    ap (λ k. reduced k (map v ws)) e ∙ reduced_stays exponent (map v ws) h
reduced_is ws (suc t) exponent v h =
    let e : suc t + exponent ≡ suc (t + exponent) = omega arith in
    ap (λ k. reduced k (map (λ z. times root2 (scaled t (v z))) ws)) e
    ∙ ap (λ b. cond b (reduced (t + exponent) (map quotient (map (λ z. times root2 (scaled t (v z))) ws))) (map (λ z. times root2 (scaled t (v z))) ws)) (all_multiples (λ z. scaled t (v z)) ws)
    ∙ ap (reduced (t + exponent)) (all_quotients (λ z. scaled t (v z)) ws)
    ∙ reduced_is ws t exponent v h
