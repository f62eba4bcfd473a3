-- What stands before the first element that passes, and what after it, element by element.
use Rattle.std.proofs.Common.{◌≡◌, ◌+◌, suc, Bool, true, false, not, cond, List, [], ◌∷◌, take, drop, refl, ap, arith}
use Rattle.std.specs.List.{before_first, after_first, position_or_len}

pub before_first-cons : {X : Type 0} (p : X → Bool) → (x : X) (xs : List X) → before_first p (x ∷ xs) ≡ cond (p x) [] (x ∷ before_first p xs)
before_first-cons p x xs =
    let more : 1 + position_or_len p xs ≡ suc (position_or_len p xs) = omega arith in
    elim (p x) as (λ t. take (cond (not t) (1 + position_or_len p xs) 0) (x ∷ xs) ≡ cond t [] (x ∷ before_first p xs)) [
      | true ↦ refl
      | false ↦ ap (λ n. take n (x ∷ xs)) more
    ]

pub after_first-cons : {X : Type 0} (p : X → Bool) → (x : X) (xs : List X) → after_first p (x ∷ xs) ≡ cond (p x) xs (after_first p xs)
after_first-cons p x xs =
    let more : 1 + position_or_len p xs + 1 ≡ suc (position_or_len p xs + 1) = omega arith in
    elim (p x) as (λ t. drop (cond (not t) (1 + position_or_len p xs) 0 + 1) (x ∷ xs) ≡ cond t xs (after_first p xs)) [
      | true ↦ refl
      | false ↦ ap (λ n. drop n (x ∷ xs)) more
    ]
