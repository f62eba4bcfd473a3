-- The sizes of classes, the largest one, and the ranks.
use Rattle.std.proofs.Common.{◌≡◌, ◌≢◌, ℕ, zero, suc, ◌+◌, ◌-◌, ◌<◌, ◌≤◌, max, Bool, cond, eqb, List, [], ◌∷◌, ◌++◌, length, map, take, get_or, set, refl, sym, ◌∙◌, ap, subst, inl, inr, arith, eq-eqb, ne_eqb, zero-add, length-set, get_or-set_same, get_or-set_other}
use Rattle.std.specs.Prelude.{◌⊎◌}
use Rattle.std.specs.List.{count_by, range_with_len}
use Rattle.std.proofs.lemmas.Bool.{cases_eq, cases_lt}
use Rattle.std.proofs.lemmas.List.{take_all, length-take-le}
use Rattle.std.proofs.lemmas.List.Sums.{count_by_more_yes, count_by_more_no, count_by-le-length, sum_by-append}
use Rattle.std.proofs.lemmas.List.FromFn.{map-range_with_len_more}
use Rattle.rv_gate.specs.Greatest.{greatest}
use Rattle.rv_gate.proofs.Greatest.{greatest_at}
use Rattle.rv_embed.specs.Classes.{class_size, largest_class, rank}
use Rattle.rv_embed.specs.inside.Ranks.{ranks_of}

-- ---- one more input word

class_size_more : (outputs : List ℕ) (x : ℕ) → x < length outputs → class_size (take (x + 1) outputs) (get_or outputs x 0) ≡ rank outputs x + 1
unfolding rank
class_size_more outputs x h = count_by_more_yes (λ v. eqb v (get_or outputs x 0)) outputs x 0 h (eq-eqb _ _ refl)

class_size_other : (outputs : List ℕ) (x y : ℕ) → x < length outputs → get_or outputs x 0 ≢ y → class_size (take (x + 1) outputs) y ≡ class_size (take x outputs) y
class_size_other outputs x y h ne = count_by_more_no (λ v. eqb v y) outputs x 0 h (ne_eqb _ _ ne)

-- a class grows
class_size_grows : (outputs : List ℕ) (x y : ℕ) → x < length outputs → class_size (take x outputs) y ≤ class_size (take (x + 1) outputs) y
unfolding rank
class_size_grows outputs x y h =
    elim (cases_eq (get_or outputs x 0) y) [
      | inl same ↦ (let e = count_by_more_yes (λ v. eqb v y) outputs x 0 h (eq-eqb _ _ same) in omega arith)
      | inr other ↦ (let e = class_size_other outputs x y h other in omega arith)
    ]

class_size_later : (outputs : List ℕ) (x m y : ℕ) → x + m ≤ length outputs → class_size (take x outputs) y ≤ class_size (take (x + m) outputs) y
class_size_later outputs x zero y h = let e : x + 0 ≡ x = omega arith in rw e (omega arith)
class_size_later outputs x (suc m) y h =
    let e : x + suc m ≡ (x + m) + 1 = omega arith in
    let first = class_size_later outputs x m y (omega arith) in
    let next = class_size_grows outputs (x + m) y (omega arith) in
    rw e (omega arith)

-- ---- the largest class

-- m is the size of a class, and none is larger
pub record IsLargest (outputs : List ℕ) (m : ℕ) : Type 0 where
  pub bound : (y : ℕ) → class_size outputs y ≤ m
  pub met : (y : ℕ) × (class_size outputs y ≡ m)

largest_one : (outputs : List ℕ) (m n : ℕ) → IsLargest outputs m → IsLargest outputs n → m ≡ n
largest_one outputs m n a b =
    let below = b.bound a.met.0 in
    let above = a.bound b.met.0 in
    let em = a.met.1 in
    let en = b.met.1 in
    omega arith

-- the greatest value on a list that isn't empty is one of them
greatest_met : (f : ℕ → ℕ) (xs : List ℕ) → (greatest f xs ≡ 0) ⊎ ((y : ℕ) × (f y ≡ greatest f xs))
unfolding greatest
greatest_met f [] = inl refl
greatest_met f (x ∷ xs) =
    elim (cases_lt (f x) (greatest f xs)) [
      | inl below ↦
          elim (greatest_met f xs) [
            | inl none ↦ absurd (omega arith)
            | inr there ↦ inr (there.0, let e = there.1 in omega arith)
          ]
      | inr above ↦ inr (x, omega arith)
    ]

pub count_by-cons : {X : Type 0} (p : X → Bool) (x : X) (xs : List X) → count_by p (x ∷ xs) ≡ cond (p x) 1 0 + count_by p xs
count_by-cons p x xs = sum_by-append (λ v. cond (p v) 1 0) (x ∷ []) xs ∙ ap (λ n. n + count_by p xs) (zero-add (cond (p x) 1 0))

stands : (xs : List ℕ) (y : ℕ) → (class_size xs y ≡ 0) ⊎ ((k : ℕ) × (k < length xs) × (get_or xs k 0 ≡ y))
stands [] y = inl refl
stands (x ∷ xs) y =
    elim (cases_eq x y) [
      | inl same ↦ inr (0, omega arith, same)
      | inr other ↦
          elim (stands xs y) [
            | inl none ↦ inl (count_by-cons (λ v. eqb v y) x xs ∙ ap (λ (b : Bool). cond b 1 0 + class_size xs y) (ne_eqb x y other) ∙ zero-add (class_size xs y) ∙ none)
            | inr there ↦ inr (suc there.0, (let l = there.1 in omega arith), there.2)
          ]
    ]

pub largest_class-is : (outputs : List ℕ) → IsLargest outputs (largest_class outputs)
unfolding largest_class
largest_class-is outputs = record {
  bound = bound;
  met = elim (greatest_met (class_size outputs) outputs) [
    | inl none ↦ (0, let b = bound 0 in omega arith)
    | inr there ↦ there
  ];
}
  where
    bound : (y : ℕ) → class_size outputs y ≤ greatest (class_size outputs) outputs
    bound y =
        elim (stands outputs y) [
          | inl none ↦ omega arith
          | inr there ↦ (let l = greatest_at (class_size outputs) outputs there.0 0 there.1 in rw there.2 at l)
        ]

pub largest_class-le : (outputs : List ℕ) → largest_class outputs ≤ length outputs
largest_class-le outputs =
    let met = (largest_class-is outputs).met in
    omega (arith, count_by-le-length (λ v. eqb v met.0) outputs, met.1)

-- the largest class after one more input word
largest_more : (outputs : List ℕ) (x m : ℕ) → x < length outputs → IsLargest (take x outputs) m → IsLargest (take (x + 1) outputs) (max m (rank outputs x + 1))
unfolding rank
largest_more outputs x m h a =
    let v : ℕ = get_or outputs x 0 in
    let here : class_size (take (x + 1) outputs) v ≡ rank outputs x + 1 = class_size_more outputs x h in
    record {
      bound = λ y. elim (cases_eq v y) [
        | inl same ↦ (let e : class_size (take (x + 1) outputs) y ≡ rank outputs x + 1 = ap (class_size (take (x + 1) outputs)) (sym same) ∙ here in omega arith)
        | inr other ↦ (let e = class_size_other outputs x y h other in let b = a.bound y in omega arith)
      ];
      met = elim (cases_lt (rank outputs x) m) [
        | inl below ↦
            elim (cases_eq v a.met.0) [
              | inl same ↦ absurd (let e : rank outputs x ≡ m = ap (class_size (take x outputs)) same ∙ a.met.1 in omega arith)
              | inr other ↦ (a.met.0, let e = class_size_other outputs x a.met.0 h other in let w = a.met.1 in omega arith)
            ]
        | inr above ↦ (v, omega arith)
      ];
    }

-- ---- the ranks

-- an input word has fewer before it in its class than the class has
pub rank-lt : (outputs : List ℕ) (x : ℕ) → x < length outputs → rank outputs x < largest_class outputs
rank-lt outputs x h =
    let v : ℕ = get_or outputs x 0 in
    let here = class_size_more outputs x h in
    let m : ℕ = length outputs - (x + 1) in
    let e : (x + 1) + m ≡ length outputs = omega arith in
    let later : class_size (take (x + 1) outputs) v ≤ class_size (take ((x + 1) + m) outputs) v = class_size_later outputs (x + 1) m v (omega arith) in
    let all : class_size (take ((x + 1) + m) outputs) v ≡ class_size outputs v = ap (λ n. class_size (take n outputs) v) e ∙ ap (λ l. class_size l v) (take_all (length outputs) outputs (omega arith)) in
    let b = (largest_class-is outputs).bound v in
    omega arith

-- of two input words of a class the later one has the greater rank
pub rank-increases : (outputs : List ℕ) (x y : ℕ) → x < y → y < length outputs → get_or outputs x 0 ≡ get_or outputs y 0 → rank outputs x < rank outputs y
unfolding rank
rank-increases outputs x y l h same =
    let v : ℕ = get_or outputs x 0 in
    let here = class_size_more outputs x (omega arith) in
    let m : ℕ = y - (x + 1) in
    let e : (x + 1) + m ≡ y = omega arith in
    let later : class_size (take (x + 1) outputs) v ≤ class_size (take ((x + 1) + m) outputs) v = class_size_later outputs (x + 1) m v (omega arith) in
    let at : class_size (take ((x + 1) + m) outputs) v ≡ class_size (take y outputs) (get_or outputs y 0) = ap (λ n. class_size (take n outputs) v) e ∙ ap (class_size (take y outputs)) same in
    omega arith

-- ---- the loop that counts

-- after the first n input words
pub record Counted (outputs sizes ranks : List ℕ) (words most n : ℕ) : Type 0 where
  pub len : length sizes ≡ words
  pub counts : (y : ℕ) → y < words → get_or sizes y 0 ≡ class_size (take n outputs) y
  pub ranked : ranks ≡ map (rank outputs) (range_with_len 0 n)
  pub greatest : IsLargest (take n outputs) most

-- a size that is read is the rank
pub Counted-rank : (outputs sizes ranks : List ℕ) (words most n : ℕ) → Counted outputs sizes ranks words most n → get_or outputs n 0 < words → get_or sizes (get_or outputs n 0) 0 ≡ rank outputs n
unfolding rank
Counted-rank outputs sizes ranks words most n c h = c.counts (get_or outputs n 0) h

pub rank_le : (outputs : List ℕ) (n : ℕ) → n ≤ length outputs → rank outputs n ≤ n
unfolding rank
rank_le outputs n h = omega (arith, count_by-le-length (λ v. eqb v (get_or outputs n 0)) (take n outputs), length-take-le n outputs h)

pub Counted-more : (outputs sizes ranks : List ℕ) (words most n r : ℕ) → Counted outputs sizes ranks words most n → n < length outputs → get_or outputs n 0 < words → r ≡ rank outputs n
    → Counted outputs (set sizes (get_or outputs n 0) (r + 1)) (ranks ++ r ∷ []) words (max most (r + 1)) (n + 1)
Counted-more outputs sizes ranks words most n r c h small e =
    let v : ℕ = get_or outputs n 0 in
    record {
      len = length-set sizes v (r + 1) ∙ c.len;
      counts = λ y in_y. elim (cases_eq v y) [
        | inl same ↦
            get_or-at_same sizes v y (r + 1) same (omega (arith, c.len))
            ∙ (let here = class_size_more outputs n h in let at : class_size (take (n + 1) outputs) v ≡ class_size (take (n + 1) outputs) y = ap (class_size (take (n + 1) outputs)) same in omega arith)
        | inr other ↦
            get_or-set_other sizes v y (r + 1) 0 (λ s. other (sym s))
            ∙ c.counts y in_y
            ∙ sym (class_size_other outputs n y h other)
      ];
      ranked = ap (λ l. l ++ r ∷ []) c.ranked ∙ ap (λ k. map (rank outputs) (range_with_len 0 n) ++ k ∷ []) e ∙ sym (map-range_with_len_more (rank outputs) 0 n n (omega arith));
      greatest = rw e (largest_more outputs n most h c.greatest);
    }
  where
    get_or-at_same : (xs : List ℕ) (i j x : ℕ) → i ≡ j → i < length xs → get_or (set xs i x) j 0 ≡ x
    get_or-at_same xs i j x same l = rw (← same) (get_or-set_same xs i x 0 l)

pub Counted-all : (outputs sizes ranks : List ℕ) (words most : ℕ) → Counted outputs sizes ranks words most (length outputs) → (ranks ≡ ranks_of outputs) × (most ≡ largest_class outputs)
Counted-all outputs sizes ranks words most c =
    let all : take (length outputs) outputs ≡ outputs = take_all (length outputs) outputs (omega arith) in
    let P : List ℕ → Type 0 = λ l. IsLargest l most in
    (c.ranked, largest_one outputs most (largest_class outputs) (subst P all c.greatest) (largest_class-is outputs))
