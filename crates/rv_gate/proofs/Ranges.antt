-- Ranges with one number more at the end.
use Rattle.std.proofs.Common.{◌≡◌, ℕ, zero, suc, ◌+◌, Bool, cond, List, [], ◌∷◌, ◌++◌, ap, ◌∙◌, arith, map, sym}
use Rattle.std.specs.List.{count_by, filter, range_with_len}
use Rattle.std.proofs.lemmas.List.FromFn.{map-range_with_len_more}
use Rattle.std.proofs.lemmas.List.Elements.{filter-append}
use Rattle.std.proofs.lemmas.List.Sums.{sum_by-append}

pub range-suc : (a n : ℕ) → range_with_len a (suc n) ≡ range_with_len a n ++ (a + n) ∷ []
range-suc a zero = let e : a ≡ a + 0 = omega arith in ap (λ k. k ∷ []) e
range-suc a (suc n) = let e : a + 1 + n ≡ a + suc n = omega arith in ap (λ l. a ∷ l) (range-suc (a + 1) n ∙ ap (λ k. range_with_len (a + 1) n ++ k ∷ []) e)

below-suc : (n : ℕ) → range_with_len 0 (suc n) ≡ range_with_len 0 n ++ n ∷ []
below-suc n = range-suc 0 n ∙ (let e : 0 + n ≡ n = omega arith in ap (λ k. range_with_len 0 n ++ k ∷ []) e)

-- the numbers below a count that pass
pub filter-suc : (p : ℕ → Bool) (n : ℕ) → filter p (range_with_len 0 (suc n)) ≡ filter p (range_with_len 0 n) ++ cond (p n) (n ∷ []) []
filter-suc p n = ap (filter p) (below-suc n) ∙ filter-append p (range_with_len 0 n) (n ∷ [])

pub count_by-suc : (p : ℕ → Bool) (n : ℕ) → count_by p (range_with_len 0 (suc n)) ≡ count_by p (range_with_len 0 n) + cond (p n) 1 0
count_by-suc p n =
    ap (count_by p) (below-suc n) ∙ sum_by-append (λ k. cond (p k) 1 0) (range_with_len 0 n) (n ∷ [])
    ∙ (let e : 0 + cond (p n) 1 0 ≡ cond (p n) 1 0 = omega arith in ap (λ k. count_by p (range_with_len 0 n) + k) e)

-- a table with one entry more
pub pushed_more : (f : ℕ → ℕ) (n r : ℕ) (old new : List ℕ) → new ≡ old ++ r ∷ [] → old ≡ map f (range_with_len 0 n) → r ≡ f n
    → new ≡ map f (range_with_len 0 (n + 1))
pushed_more f n r old new pushed so_far is =
    pushed
    ∙ ap (λ l. l ++ r ∷ []) so_far
    ∙ ap (λ k. map f (range_with_len 0 n) ++ k ∷ []) is
    ∙ sym (map-range_with_len_more f 0 n n (omega arith))
