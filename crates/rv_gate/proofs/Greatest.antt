-- The greatest value on a list with one element more, and at one place.
use Rattle.std.proofs.Common.{◌≡◌, ℕ, zero, suc, ◌+◌, ◌<◌, ◌≤◌, List, [], ◌∷◌, ◌++◌, length, take, get_or, max, refl, sym, ◌∙◌, ap, arith}
use Rattle.std.proofs.lemmas.List.{take_more}
use Rattle.std.proofs.Math.Nat.{le-max_left, le-max_right}
use Rattle.rv_gate.specs.Greatest.{greatest}

module _ {X : Type 0} (f : X → ℕ) where
  pub greatest_none : greatest f [] ≡ 0
  unfolding greatest
  greatest_none = refl

  pub greatest_more : (xs : List X) (x : X) → greatest f (xs ++ x ∷ []) ≡ max (greatest f xs) (f x)
  unfolding greatest
  greatest_more [] x = omega arith
  greatest_more (y ∷ rest) x = ap (λ k. max (f y) k) (greatest_more rest x) ∙ omega arith

  pub greatest_next : (xs : List X) (k : ℕ) (x : X) → k < length xs → x ≡ get_or xs k x → greatest f (take (k + 1) xs) ≡ max (greatest f (take k xs)) (f x)
  greatest_next xs k x h at = ap (greatest f) (take_more xs k x h) ∙ greatest_more (take k xs) (get_or xs k x) ∙ ap (λ y. max (greatest f (take k xs)) (f y)) (sym at)

  pub greatest_at : (xs : List X) (k : ℕ) (d : X) → k < length xs → f (get_or xs k d) ≤ greatest f xs
  unfolding greatest
  greatest_at [] k d h = absurd (omega arith)
  greatest_at (x ∷ xs) zero d h = le-max_left (f x) (greatest f xs)
  greatest_at (x ∷ xs) (suc k) d h =
      let l = le-max_right (f x) (greatest f xs) in
      let r : f (get_or xs k d) ≤ greatest f xs = greatest_at xs k d (omega arith) in
      omega arith
