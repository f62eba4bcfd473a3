-- Words in the order of their numbers.
use Rattle.rv_gate.proofs.Lists.{map_map}
use Rattle.std.proofs.Common.{◌≡◌, ℕ, zero, suc, ◌+◌, ◌^◌, ◌<◌, true, false, List, [], ◌∷◌, ◌++◌, map, length, get_or, All, refl, sym, ap, ap₂, ◌∙◌, arith, subst, ext_get_or, length-append}
use Rattle.std.proofs.Math.Nat.{pow-suc}
use Rattle.rv_gate.specs.Word.{number_of, word_of}
use Rattle.rv_gate.specs.inside.laws.WordLaws.{number_of-lt, word_of-number_of}
use Rattle.rv_net.specs.Cyclotomic.{Cyclotomic}
use Rattle.rv_check.specs.Reduced.{words}
use Rattle.rv_check.specs.inside.Dense.{members_from}
use Rattle.rv_check.proofs.inside.Sparse.{Word}

map-append2 : {A B : Type 0} (f : A → B) (xs ys : List A) → map f (xs ++ ys) ≡ map f xs ++ map f ys
map-append2 f [] ys = refl
map-append2 f (x ∷ xs) ys = ap (λ l. f x ∷ l) (map-append2 f xs ys)

length-mapped : {A B : Type 0} (f : A → B) (xs : List A) → length (map f xs) ≡ length xs
length-mapped f [] = refl
length-mapped f (x ∷ xs) = ap suc (length-mapped f xs)

-- both halves
pub map_words : {A : Type 0} (f : Word → A) (n : ℕ) → map f (words (suc n)) ≡ map (λ x. f (false ∷ x)) (words n) ++ map (λ x. f (true ∷ x)) (words n)
unfolding words
map_words f n = grind (arith, map-append2, map_map)

pub length-words : (n : ℕ) → length (words n) ≡ 2 ^ n
unfolding words
length-words zero = refl
length-words (suc n) =
    omega (arith, length-append (map (λ x. false ∷ x) (words n)) (map (λ x. true ∷ x) (words n)), length-mapped (λ (x : Word). false ∷ x) (words n), length-mapped (λ (x : Word). true ∷ x) (words n), length-words n, pow-suc 2 n)

pub length-map_words : {A : Type 0} (f : Word → A) (n : ℕ) → length (map f (words n)) ≡ 2 ^ n
length-map_words f n = length-mapped f (words n) ∙ length-words n

pub same_map : {A : Type 0} (f g : Word → A) (n : ℕ) → ((x : Word) → length x ≡ n → f x ≡ g x) → map f (words n) ≡ map g (words n)
unfolding words
same_map f g zero h = ap (λ a. a ∷ []) (h [] refl)
same_map f g (suc n) h =
    map_words f n
    ∙ ap₂ (λ xs ys. xs ++ ys) (same_map _ _ n (λ x e. h (false ∷ x) (ap suc e))) (same_map _ _ n (λ x e. h (true ∷ x) (ap suc e)))
    ∙ sym (map_words g n)

-- the words have their numbers, from one on
abbrev pub Numbered : ℕ → ℕ → List Word → Type 0
Numbered n i [] = Unit {0}
Numbered n i (x ∷ xs) = (length x ≡ n) × (number_of x ≡ i) × Numbered n (suc i) xs

numbered-append : (n i : ℕ) (xs ys : List Word) → Numbered n i xs → Numbered n (i + length xs) ys → Numbered n i (xs ++ ys)
numbered-append n i [] ys h g = let e : i + 0 ≡ i = omega arith in subst (λ k. Numbered n k ys) e g
numbered-append n i (x ∷ xs) ys h g = let i0 = numbered-append n (suc i) xs ys h.2 in grind (arith, i0)

numbered-low : (n i : ℕ) (xs : List Word) → Numbered n i xs → Numbered (suc n) i (map (λ x. false ∷ x) xs)
unfolding number_of
numbered-low n i [] h = tt
numbered-low n i (x ∷ xs) h = (ap suc h.0, omega (arith, h.1), numbered-low n (suc i) xs h.2)

numbered-high : (n i : ℕ) (xs : List Word) → Numbered n i xs → Numbered (suc n) (2 ^ n + i) (map (λ x. true ∷ x) xs)
unfolding number_of
numbered-high n i [] h = tt
numbered-high n i (x ∷ xs) h = let i0 = numbered-high n (suc i) xs h.2 in grind (arith, i0, ap₂)

pub numbered_words : (n : ℕ) → Numbered n 0 (words n)
unfolding words number_of
numbered_words zero = (refl, refl, tt)
numbered_words (suc n) =
    let e : 2 ^ n + 0 ≡ 0 + length (map (λ x. false ∷ x) (words n)) = omega (arith, length-mapped (λ (x : Word). false ∷ x) (words n), length-words n) in
    numbered-append (suc n) 0 (map (λ x. false ∷ x) (words n)) (map (λ x. true ∷ x) (words n)) (numbered-low n 0 (words n) (numbered_words n))
    (subst (λ k. Numbered (suc n) k (map (λ x. true ∷ x) (words n))) e (numbered-high n 0 (words n) (numbered_words n)))

numbered_at : {A : Type 0} (f : Word → A) (n i k : ℕ) (xs : List Word) (d : A) → Numbered n i xs → k < length xs → (x : Word) × (length x ≡ n) × (number_of x ≡ i + k) × (get_or (map f xs) k d ≡ f x)
numbered_at f n i k [] d h lt = absurd (omega (arith, lt))
numbered_at f n i zero (x ∷ xs) d h lt = (x, h.0, omega (arith, h.1), refl)
numbered_at f n i (suc k) (x ∷ xs) d h lt = let i0 = numbered_at f n (suc i) k xs d h.2 in grind (arith, i0)

-- the word at a place
pub word_at : {A : Type 0} (f : Word → A) (n k : ℕ) (d : A) → k < 2 ^ n → (x : Word) × (length x ≡ n) × (number_of x ≡ k) × (get_or (map f (words n)) k d ≡ f x)
word_at f n k d lt =
    let r = numbered_at f n 0 k (words n) d (numbered_words n) (omega (arith, lt, length-words n)) in
    (r.0, r.1, omega (arith, r.2), r.3)

pub number_same : (x y : Word) → length x ≡ length y → number_of x ≡ number_of y → x ≡ y
number_same x y l e = sym (word_of-number_of x) ∙ ap₂ word_of l e ∙ word_of-number_of y

pub at_number : {A : Type 0} (f : Word → A) (n : ℕ) (x : Word) (d : A) → length x ≡ n → get_or (map f (words n)) (number_of x) d ≡ f x
at_number f n x d l =
    let lt : number_of x < 2 ^ n = omega (arith, number_of-lt x, ap (λ k. 2 ^ k) l) in
    let r = word_at f n (number_of x) d lt in
    r.3 ∙ ap f (number_same r.0 x (r.1 ∙ sym l) r.2)

-- values for all words, each at its number
pub from_numbers : {A : Type 0} (f : Word → A) (n : ℕ) (vs : List A) (d : A) → length vs ≡ 2 ^ n → ((x : Word) → length x ≡ n → get_or vs (number_of x) d ≡ f x) → vs ≡ map f (words n)
from_numbers f n vs d len h =
    ext_get_or d vs (map f (words n)) (len ∙ sym (length-map_words f n))
    (λ k lt.
    let r = word_at f n k d (omega (arith, lt, len)) in
    sym (ap (λ j. get_or vs j d) r.2) ∙ h r.0 r.1 ∙ sym r.3)

pub as_map : {A : Type 0} (n : ℕ) (vs : List A) (d : A) → length vs ≡ 2 ^ n → vs ≡ map (λ x. get_or vs (number_of x) d) (words n)
as_map n vs d len = from_numbers (λ x. get_or vs (number_of x) d) n vs d len (λ x l. refl)

pub all_map : {A : Type 0} (P : A → Type 0) (f : Word → A) (n : ℕ) → ((x : Word) → length x ≡ n → P (f x)) → All P (map f (words n))
all_map P f n h k d lt =
    let r = word_at f n k d (omega (arith, lt, length-map_words f n)) in
    subst P (sym r.3) (h r.0 r.1)

pub each_map : {A : Type 0} (P : A → Type 0) (f : Word → A) (n : ℕ) → All P (map f (words n)) → (x : Word) → length x ≡ n → P (f x)
each_map P f n all x l =
    let lt : number_of x < length (map f (words n)) = omega (arith, number_of-lt x, ap (λ k. 2 ^ k) l, length-map_words f n) in
    subst P (at_number f n x (f x) l) (all (number_of x) (f x) lt)

-- the members that the code makes of values
from_numbered : (g : Word → Cyclotomic) (n i : ℕ) (xs : List Word) → Numbered n i xs → members_from n i (map g xs) ≡ map (λ x. record { word = x; value = g x }) xs
unfolding members_from
from_numbered g n i [] h = refl
from_numbered g n i (x ∷ xs) h =
    let e : word_of n i ≡ x = ap₂ word_of (sym h.0) (sym h.1) ∙ word_of-number_of x in
    (λ j. record { word = e j; value = g x } ∷ from_numbered g n (suc i) xs h.2 j)

pub members_from_words : (g : Word → Cyclotomic) (n : ℕ) → members_from n 0 (map g (words n)) ≡ map (λ x. record { word = x; value = g x }) (words n)
members_from_words g n = from_numbered g n 0 (words n) (numbered_words n)
