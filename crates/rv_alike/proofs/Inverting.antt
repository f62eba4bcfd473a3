-- Operations and what takes them back.
use Rattle.std.proofs.Common.{◌≡◌, ℕ, suc, ◌+◌, ◌-◌, ◌<◌, drop, get_or, subst, List, [], ◌∷◌, ◌++◌, All, length, map, reverse, refl, sym, ap, ap₂, ◌∙◌, inl, arith}
use Rattle.std.proofs.lemmas.List.{append_assoc, drop_more, length-map, length-reverse, map-append, reverse-append}
use Rattle.std.proofs.lemmas.List.Elements.{All-append, All-cons, All-head, All-nil, All-tail}
use Rattle.rv_net.specs.declared.op.Op.{Op}
use Rattle.rv_net.specs.declared.op.Op.TheVariants.{X, Y, Z, H, S, Sdg, T, Tdg, Cx, Cz, Ccx, Swap, Cswap}
use Rattle.rv_net.specs.Amplitude.{amplitude, count_h}
use Rattle.rv_net.specs.Cyclotomic.{doubled, times}
use Rattle.rv_net.specs.Op.{OpFitsIn}
use Rattle.rv_net.proofs.Cyclotomic.{doubled-more}
use Rattle.rv_net.proofs.Matrix.{amplitude_product}
use Rattle.rv_net.proofs.Step.{Word}
use Rattle.rv_net.proofs.inside.Network.{count_h-append}
use Rattle.rv_pairs.specs.Cancelled.{inverse}
use Rattle.rv_pairs.proofs.Undoing.{inverse_fits}
use Rattle.rv_pairs.proofs.inside.Rounds.{table}
use Rattle.rv_alike.specs.inside.Inverted.{inverted}
use Rattle.rv_alike.proofs.Roots.{times_doubled}
use Rattle.rv_alike.proofs.Sums.{sum_doubled, sum_same}

-- ---- the inverse of an operation

inverse_twice : (op : Op) → inverse (inverse op) ≡ op
inverse_twice (X q) = refl
inverse_twice (Y q) = refl
inverse_twice (Z q) = refl
inverse_twice (H q) = refl
inverse_twice (S q) = refl
inverse_twice (Sdg q) = refl
inverse_twice (T q) = refl
inverse_twice (Tdg q) = refl
inverse_twice (Cx a b) = refl
inverse_twice (Cz a b) = refl
inverse_twice (Ccx a b c) = refl
inverse_twice (Swap a b) = refl
inverse_twice (Cswap c a b) = refl

inverse_count_h : (op : Op) → count_h (inverse op ∷ []) ≡ count_h (op ∷ [])
unfolding count_h
inverse_count_h (X q) = refl
inverse_count_h (Y q) = refl
inverse_count_h (Z q) = refl
inverse_count_h (H q) = refl
inverse_count_h (S q) = refl
inverse_count_h (Sdg q) = refl
inverse_count_h (T q) = refl
inverse_count_h (Tdg q) = refl
inverse_count_h (Cx a b) = refl
inverse_count_h (Cz a b) = refl
inverse_count_h (Ccx a b c) = refl
inverse_count_h (Swap a b) = refl
inverse_count_h (Cswap c a b) = refl

-- ---- of a list

inverted-append : (a b : List Op) → inverted (a ++ b) ≡ inverted b ++ inverted a
unfolding inverted
inverted-append a b = ap (map inverse) (reverse-append a b) ∙ map-append inverse (reverse b) (reverse a)

inverted-more : (op : Op) (rest : List Op) → inverted (op ∷ rest) ≡ inverted rest ++ inverse op ∷ []
unfolding inverted
inverted-more op rest = inverted-append (op ∷ []) rest

pub inverted-none : inverted [] ≡ []
unfolding inverted
inverted-none = refl

inverted-one : (op : Op) → inverted (inverse op ∷ []) ≡ op ∷ []
unfolding inverted
inverted-one op = ap (λ o. o ∷ []) (inverse_twice op)

inverted_twice : (ops : List Op) → inverted (inverted ops) ≡ ops
inverted_twice [] = ap inverted inverted-none ∙ inverted-none
inverted_twice (op ∷ rest) =
    ap inverted (inverted-more op rest) ∙ inverted-append (inverted rest) (inverse op ∷ [])
    ∙ ap₂ (λ a b. a ++ b) (inverted-one op) (inverted_twice rest)

pub inverted_count_h : (ops : List Op) → count_h (inverted ops) ≡ count_h ops
inverted_count_h [] = ap count_h inverted-none
inverted_count_h (op ∷ rest) =
    ap count_h (inverted-more op rest) ∙ count_h-append (inverted rest) (inverse op ∷ [])
    ∙ ap₂ (λ a b. a + b) (inverted_count_h rest) (inverse_count_h op)
    ∙ (let e : count_h rest + count_h (op ∷ []) ≡ count_h (op ∷ []) + count_h rest = omega arith in e)
    ∙ sym (count_h-append (op ∷ []) rest)

abbrev Fit : ℕ → List Op → Type 0
Fit n ops = All (λ op. OpFitsIn op n) ops

pub inverted_fits : (n : ℕ) (ops : List Op) → Fit n ops → Fit n (inverted ops)
inverted_fits n [] fits = subst (Fit n) (sym inverted-none) fits
inverted_fits n (op ∷ rest) fits =
    let Fits : Op → Type 0 = λ o. OpFitsIn o n in
    subst (Fit n) (sym (inverted-more op rest))
    (All-append Fits (inverted rest) (inverse op ∷ []) (inverted_fits n rest (All-tail Fits op rest fits))
    (All-cons Fits (inverse op) [] (inverse_fits op n (All-head Fits op rest fits)) (All-nil Fits)))

pub inverted_length : (ops : List Op) → length (inverted ops) ≡ length ops
unfolding inverted
inverted_length ops = length-map (reverse ops) inverse ∙ length-reverse ops

-- an operation more from the end
pub inverted-next : (ops : List Op) (done : ℕ) (d : Op) → done < length ops
    → inverted (drop (length ops - done) ops) ++ inverse (get_or ops (length ops - 1 - done) d) ∷ [] ≡ inverted (drop (length ops - suc done) ops)
inverted-next ops done d within =
    let place : ℕ = length ops - 1 - done in
    ap (λ k. inverted (drop k ops) ++ inverse (get_or ops place d) ∷ []) (let e : length ops - done ≡ place + 1 = omega (arith, within) in e)
    ∙ sym (inverted-more (get_or ops place d) (drop (place + 1) ops))
    ∙ ap inverted (sym (drop_more ops place d (omega (arith, within))))
    ∙ ap (λ k. inverted (drop k ops)) (let e : place ≡ length ops - suc done = omega (arith, within) in e)

-- ---- one after the other only doubles

pub taken_back : (n : ℕ) (ops : List Op) → Fit n ops → (y z : Word) → length y ≡ n
    → amplitude (inverted ops ++ ops) y z ≡ doubled (count_h ops) (amplitude [] y z)
unfolding count_h doubled
taken_back n [] fits y z e = ap (λ l. amplitude (l ++ []) y z) inverted-none ∙ doubled-once
  where
    doubled-once : amplitude [] y z ≡ doubled (count_h []) (amplitude [] y z)
    doubled-once = refl
taken_back n (op ∷ rest) fits y z e =
    let k : ℕ = count_h (op ∷ []) in
    let Fits : Op → Type 0 = λ o. OpFitsIn o n in
    ap (λ l. amplitude (l ++ op ∷ rest) y z) (inverted-more op rest)
    ∙ ap (λ l. amplitude l y z) (append_assoc (inverted rest) (inverse op ∷ []) (op ∷ rest))
    ∙ amplitude_product (inverted rest) (inverse op ∷ op ∷ rest) y z
    ∙ sum_same (length y) _ _
    (λ v l. ap (times (amplitude (inverted rest) y v)) ((table n).undoing (inverse op) op rest v z (inl refl) (All-head Fits op rest fits) (l ∙ e)) ∙ times_doubled k _ _)
    ∙ sum_doubled (length y) k (λ v. times (amplitude (inverted rest) y v) (amplitude rest v z))
    ∙ ap (doubled k) (sym (amplitude_product (inverted rest) rest y z) ∙ taken_back n rest (All-tail Fits op rest fits) y z e)
    ∙ doubled-more k (count_h rest) (amplitude [] y z)
    ∙ ap (λ m. doubled m (amplitude [] y z)) (sym (count_h-append (op ∷ []) rest))

pub done_again : (n : ℕ) (ops : List Op) → Fit n ops → (y z : Word) → length y ≡ n
    → amplitude (ops ++ inverted ops) y z ≡ doubled (count_h ops) (amplitude [] y z)
done_again n ops fits y z e =
    ap (λ l. amplitude (l ++ inverted ops) y z) (sym (inverted_twice ops))
    ∙ taken_back n (inverted ops) (inverted_fits n ops fits) y z e
    ∙ ap (λ m. doubled m (amplitude [] y z)) (inverted_count_h ops)
