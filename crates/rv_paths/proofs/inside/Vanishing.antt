-- Phases that add up to a multiple of eight at all values, by sums of weights.
use Rattle.std.proofs.Common.{◌≡◌, ℕ, zero, suc, ◌+◌, ◌*◌, ◌%◌, ◌<◌, ◌≤◌, ◌&&◌, Bool, true, false, cond, List, [], ◌∷◌, length, take, drop, get_or, ◌++◌, append-nil, inl, inr, subst, refl, sym, ap, ap₂, ◌∙◌, arith}
use Rattle.std.proofs.lemmas.Bool.{cases_eq}
use Rattle.std.proofs.lemmas.List.{take_more}
use Rattle.rv_gate.specs.Gate.{xor}
use Rattle.rv_gate.proofs.Bits.{false_xor}
use Rattle.rv_net.proofs.Step.{Word, bit}
use Rattle.rv_paths.specs.declared.terms.Term.{Term}
use Rattle.rv_paths.specs.inside.Parity.{parity, value_from, weights, chosen, first_before, held, picked, Evens, Fours, Eights}
use Rattle.rv_paths.proofs.inside.Parities.{parity-drop, parity-end}

-- at no values nothing is added
pub value-end : (i : ℕ) (terms : List Term) → value_from i terms [] ≡ 0
value-end i [] = refl
value-end i (t ∷ rest) = ap₂ (λ b (n : ℕ). cond b t.weight 0 + n) (parity-end (drop i t.mask.items)) (value-end i rest)

one_false : (b p : Bool) (w : ℕ) → cond (xor (b && false) p) w 0 ≡ cond p w 0
one_false true p w = ap (λ c. cond c w 0) (false_xor p)
one_false false p w = ap (λ c. cond c w 0) (false_xor p)

pub value-false : (i : ℕ) (terms : List Term) (v : Word) → value_from i terms (false ∷ v) ≡ value_from (suc i) terms v
value-false i [] v = refl
value-false i (t ∷ rest) v =
    ap₂ (λ (m n : ℕ). m + n)
    (ap (λ c. cond c t.weight 0) (parity-drop i t.mask.items false v) ∙ one_false (bit t.mask.items i) (parity (drop (suc i) t.mask.items) v) t.weight)
    (value-false i rest v)

one_true : (t : Term) (i : ℕ) (rest : List Term) (v : Word) (b p : Bool) (all more each : ℕ) → parity (drop (suc i) t.mask.items) v ≡ p
    → all + 2 * value_from (suc i) (chosen i rest) v ≡ more + weights (chosen i rest)
    → cond (xor (b && true) p) t.weight 0 + all + 2 * value_from (suc i) (cond b (t ∷ chosen i rest) (chosen i rest)) v
    ≡ cond p t.weight 0 + more + weights (cond b (t ∷ chosen i rest) (chosen i rest))
one_true t i rest v true true all more each is h = rw is (omega (arith, h))
one_true t i rest v true false all more each is h = rw is (omega (arith, h))
one_true t i rest v false true all more each is h = omega (arith, h)
one_true t i rest v false false all more each is h = omega (arith, h)

pub value-true : (i : ℕ) (terms : List Term) (v : Word)
    → value_from i terms (true ∷ v) + 2 * value_from (suc i) (chosen i terms) v ≡ value_from (suc i) terms v + weights (chosen i terms)
value-true i [] v = refl
value-true i (t ∷ rest) v =
    ap (λ c. cond c t.weight 0 + value_from i rest (true ∷ v) + 2 * value_from (suc i) (chosen i (t ∷ rest)) v) (parity-drop i t.mask.items true v)
    ∙ one_true t i rest v (bit t.mask.items i) (parity (drop (suc i) t.mask.items) v) (value_from i rest (true ∷ v)) (value_from (suc i) rest v) 0 refl (value-true i rest v)

pub evens : (i n : ℕ) (terms : List Term) → Evens i n terms → (v : Word) → i + length v ≤ n → value_from i terms v % 2 ≡ 0
evens i n terms h [] e = ap (λ n. n % 2) (value-end i terms)
evens i n terms h (false ∷ v) e = ap (λ n. n % 2) (value-false i terms v) ∙ evens (suc i) n terms (λ k l. h k (omega arith)) v (omega arith)
evens i n terms h (true ∷ v) e =
    let rest = evens (suc i) n terms (λ k l. h k (omega arith)) v (omega arith) in
    let here = h i (omega arith) (omega arith) in
    let sum = value-true i terms v in
    omega (arith, rest, here, sum)

pub fours : (i n : ℕ) (terms : List Term) → Fours i n terms → (v : Word) → i + length v ≤ n → value_from i terms v % 4 ≡ 0
fours i n terms h [] e = ap (λ n. n % 4) (value-end i terms)
fours i n terms h (false ∷ v) e = ap (λ n. n % 4) (value-false i terms v) ∙ fours (suc i) n terms (λ k l. h k (omega arith)) v (omega arith)
fours i n terms h (true ∷ v) e =
    let rest = fours (suc i) n terms (λ k l. h k (omega arith)) v (omega arith) in
    let here = h i (omega arith) (omega arith) in
    let first = here.0 in
    let second = evens (suc i) n (chosen i terms) here.1 v (omega arith) in
    let sum = value-true i terms v in
    omega (arith, rest, first, second, sum)

pub eights : (i n : ℕ) (terms : List Term) → Eights i n terms → (v : Word) → i + length v ≤ n → value_from i terms v % 8 ≡ 0
eights i n terms h [] e = ap (λ n. n % 8) (value-end i terms)
eights i n terms h (false ∷ v) e = ap (λ n. n % 8) (value-false i terms v) ∙ eights (suc i) n terms (λ k l. h k (omega arith)) v (omega arith)
eights i n terms h (true ∷ v) e =
    let rest = eights (suc i) n terms (λ k l. h k (omega arith)) v (omega arith) in
    let here = h i (omega arith) (omega arith) in
    let first = here.0 in
    let second = fours (suc i) n (chosen i terms) here.1 v (omega arith) in
    let sum = value-true i terms v in
    omega (arith, rest, first, second, sum)

-- ---- terms at places

weights-before : (k : ℕ) (terms rest : List Term) → weights (chosen k (first_before terms rest)) ≡ weights (chosen k (first_before terms [])) + weights (chosen k rest)
weights-before k [] rest = omega arith
weights-before k (t ∷ others) rest = by (bit t.mask.items k)
  where
    by : (b : Bool) → weights (cond b (t ∷ chosen k rest) (chosen k rest)) ≡ weights (cond b (t ∷ []) []) + weights (chosen k rest)
    by true = omega arith
    by false = omega arith

pub weights-picked : (k : ℕ) (terms : List Term) (places others : List ℕ)
    → weights (chosen k (picked terms (places ++ others))) ≡ weights (chosen k (picked terms places)) + weights (chosen k (picked terms others))
weights-picked k terms [] others = omega arith
weights-picked k terms (p ∷ places) others =
    let ih = weights-picked k terms places others in
    let one = weights-before k (drop p terms) (picked terms (places ++ others)) in
    let two = weights-before k (drop p terms) (picked terms places) in
    omega (arith, ih, one, two)

pub picked-append : (terms : List Term) (places others : List ℕ) → picked terms (places ++ others) ≡ picked terms places ++ picked terms others
picked-append terms [] others = refl
picked-append terms (p ∷ places) others = ap (first_before (drop p terms)) (picked-append terms places others) ∙ before (drop p terms)
  where
    before : (l : List Term) → first_before l (picked terms places ++ picked terms others) ≡ first_before l (picked terms places) ++ picked terms others
    before [] = refl
    before (t ∷ l) = refl

pub chosen-append : (k : ℕ) (a b : List Term) → chosen k (a ++ b) ≡ chosen k a ++ chosen k b
chosen-append k [] b = refl
chosen-append k (t ∷ a) b = ap (λ l. cond (bit t.mask.items k) (t ∷ l) l) (chosen-append k a b) ∙ by (bit t.mask.items k)
  where
    by : (c : Bool) → cond c (t ∷ (chosen k a ++ chosen k b)) (chosen k a ++ chosen k b) ≡ cond c (t ∷ chosen k a) (chosen k a) ++ chosen k b
    by true = refl
    by false = refl

-- ---- loops

chosen-one : (k p : ℕ) (terms : List Term) → held (drop p terms) k ≡ true → chosen k (picked terms (p ∷ [])) ≡ picked terms (p ∷ [])
chosen-one k p terms h = by (drop p terms) h
  where
    by : (l : List Term) → held l k ≡ true → chosen k (first_before l []) ≡ first_before l []
    by [] e = refl
    by (t ∷ l) e = ap (λ c. cond c (t ∷ []) []) e

chosen-none : (k p : ℕ) (terms : List Term) → held (drop p terms) k ≡ false → chosen k (picked terms (p ∷ [])) ≡ []
chosen-none k p terms h = by (drop p terms) h
  where
    by : (l : List Term) → held l k ≡ false → chosen k (first_before l []) ≡ []
    by [] e = refl
    by (t ∷ l) e = ap (λ c. cond c (t ∷ []) []) e

chosen-next : (k i : ℕ) (terms : List Term) (places : List ℕ) (d : ℕ) → i < length places
    → chosen k (picked terms (take (i + 1) places)) ≡ chosen k (picked terms (take i places)) ++ chosen k (picked terms (get_or places i d ∷ []))
chosen-next k i terms places d h =
    ap (λ l. chosen k (picked terms l)) (take_more places i d h)
    ∙ ap (chosen k) (picked-append terms (take i places) (get_or places i d ∷ []))
    ∙ chosen-append k (picked terms (take i places)) (picked terms (get_or places i d ∷ []))

pub chosen-taken : (k i p : ℕ) (terms : List Term) (places list new : List ℕ) (d : ℕ) → i < length places → p ≡ get_or places i d
    → held (drop p terms) k ≡ true → new ≡ list ++ p ∷ [] → picked terms list ≡ chosen k (picked terms (take i places))
    → picked terms new ≡ chosen k (picked terms (take (i + 1) places))
chosen-taken k i p terms places list new d h is on pushed before =
    ap (picked terms) pushed ∙ picked-append terms list (p ∷ []) ∙ ap₂ (λ a b. a ++ b) before (sym (chosen-one k p terms on) ∙ ap (λ q. chosen k (picked terms (q ∷ []))) is)
    ∙ sym (chosen-next k i terms places d h)

pub chosen-left : (k i p : ℕ) (terms : List Term) (places list : List ℕ) (d : ℕ) → i < length places → p ≡ get_or places i d
    → held (drop p terms) k ≡ false → picked terms list ≡ chosen k (picked terms (take i places))
    → picked terms list ≡ chosen k (picked terms (take (i + 1) places))
chosen-left k i p terms places list d h is off before =
    before ∙ sym (append-nil (chosen k (picked terms (take i places))))
    ∙ ap (λ b. chosen k (picked terms (take i places)) ++ b) (sym (chosen-none k p terms off) ∙ ap (λ q. chosen k (picked terms (q ∷ []))) is)
    ∙ sym (chosen-next k i terms places d h)

pub weight-more : (k i p : ℕ) (terms : List Term) (places : List ℕ) (d sum one new : ℕ) → i < length places → p ≡ get_or places i d
    → one ≡ weights (chosen k (first_before (drop p terms) [])) → new ≡ (sum + one) % 8
    → sum ≡ weights (chosen k (picked terms (take i places))) % 8 → new ≡ weights (chosen k (picked terms (take (i + 1) places))) % 8
weight-more k i p terms places d sum one new h is here made before =
    let all = ap (λ l. weights (chosen k (picked terms l))) (take_more places i d h) ∙ weights-picked k terms (take i places) (get_or places i d ∷ []) in
    let at = here ∙ ap (λ q. weights (chosen k (picked terms (q ∷ [])))) is in
    omega (arith, all, at, made, before)

take-first : (terms : List Term) (i : ℕ) → take i terms ++ first_before (drop i terms) [] ≡ take (suc i) terms
take-first [] zero = refl
take-first [] (suc i) = refl
take-first (t ∷ terms) zero = refl
take-first (t ∷ terms) (suc i) = ap (λ l. t ∷ l) (take-first terms i)

-- the terms that have a weight

value-both : (i : ℕ) (a b : List Term) (v : Word) → value_from i (a ++ b) v ≡ value_from i a v + value_from i b v
value-both i [] b v = omega arith
value-both i (t ∷ a) b v = let ih = value-both i a b v in omega (arith, ih)

value-next : (terms : List Term) (i from : ℕ) (v : Word)
    → value_from from (take (i + 1) terms) v ≡ value_from from (take i terms) v + value_from from (first_before (drop i terms) []) v
value-next terms i from v =
    ap (λ m. value_from from (take m terms) v) (let e : i + 1 ≡ suc i = omega arith in e)
    ∙ ap (λ (l : List Term). value_from from l v) (sym (take-first terms i)) ∙ value-both from (take i terms) (first_before (drop i terms) []) v

pub value-taken : (terms : List Term) (list new : List ℕ) (i from : ℕ) (v : Word) → new ≡ list ++ i ∷ []
    → value_from from (picked terms list) v ≡ value_from from (take i terms) v → value_from from (picked terms new) v ≡ value_from from (take (i + 1) terms) v
value-taken terms list new i from v pushed before =
    ap (λ (l : List ℕ). value_from from (picked terms l) v) pushed ∙ ap (λ (l : List Term). value_from from l v) (picked-append terms list (i ∷ []))
    ∙ value-both from (picked terms list) (first_before (drop i terms) []) v
    ∙ ap (λ (n : ℕ). n + value_from from (first_before (drop i terms) []) v) before ∙ sym (value-next terms i from v)

value-none : (terms : List Term) (i from : ℕ) (v : Word) (d : Term) → i < length terms → (get_or terms i d).weight ≡ 0 → value_from from (first_before (drop i terms) []) v ≡ 0
value-none [] i from v d h e = absurd (omega arith)
value-none (t ∷ terms) zero from v d h e = ap (λ n. cond (parity (drop from t.mask.items) v) n 0 + 0) e ∙ by (parity (drop from t.mask.items) v)
  where
    by : (b : Bool) → cond b 0 0 + 0 ≡ 0
    by true = refl
    by false = refl
value-none (t ∷ terms) (suc i) from v d h e = value-none terms i from v d (omega arith) e

pub value-left : (terms : List Term) (list : List ℕ) (i from : ℕ) (v : Word) (d : Term) → i < length terms → (get_or terms i d).weight ≡ 0
    → value_from from (picked terms list) v ≡ value_from from (take i terms) v → value_from from (picked terms list) v ≡ value_from from (take (i + 1) terms) v
value-left terms list i from v d h e before =
    let none = value-none terms i from v d h e in
    let next = value-next terms i from v in
    omega (arith, before, none, next)

pub fours-none : (i n : ℕ) → Fours i n []
fours-none i n = λ k l h. (refl, λ j l' h'. refl)

pub evens-none : (i n : ℕ) → Evens i n []
evens-none i n = λ k l h. refl

pub held-at : (terms : List Term) (p k : ℕ) (d : Term) → p < length terms → held (drop p terms) k ≡ bit (get_or terms p d).mask.items k
held-at [] p k d h = absurd (omega arith)
held-at (t ∷ terms) zero k d h = refl
held-at (t ∷ terms) (suc p) k d h = held-at terms p k d (omega arith)

pub held-past : (terms : List Term) (p k : ℕ) → length terms ≤ p → held (drop p terms) k ≡ false
held-past [] zero k h = refl
held-past [] (suc p) k h = refl
held-past (t ∷ terms) zero k h = absurd (omega arith)
held-past (t ∷ terms) (suc p) k h = held-past terms p k (omega arith)

pub weight-off : (terms : List Term) (p k : ℕ) → held (drop p terms) k ≡ false → 0 ≡ weights (chosen k (first_before (drop p terms) []))
weight-off terms p k h = ap weights (sym (chosen-none k p terms h))

pub weight-on : (terms : List Term) (p k : ℕ) (d : Term) → p < length terms → held (drop p terms) k ≡ true
    → (get_or terms p d).weight ≡ weights (chosen k (first_before (drop p terms) []))
weight-on [] p k d h on = absurd (omega arith)
weight-on (t ∷ terms) zero k d h on =
    let same : weights (cond (bit t.mask.items k) (t ∷ []) []) ≡ t.weight + 0 = ap (λ c. weights (cond c (t ∷ []) [])) on in omega (arith, same)
weight-on (t ∷ terms) (suc p) k d h on = weight-on terms p k d (omega arith) on

-- one more variable
pub one_more : (P : ℕ → Type 0) (from n : ℕ) → ((k : ℕ) → from ≤ k → k < n → P k) → P n → (k : ℕ) → from ≤ k → k < n + 1 → P k
one_more P from n before here k l h =
    elim (cases_eq k n) [
      | inl e ↦ subst P (sym e) here
      | inr d ↦ before k l (omega arith)
    ]
