-- The first element that passes a test, from a place on.
use Rattle.std.proofs.Common.{◌≡◌, ℕ, ◌+◌, ◌≤◌, ◌<◌, Bool, true, false, cond, List, None, Some, find, length, drop, get_or, ap, ◌∙◌}
use Rattle.std.proofs.lemmas.List.{drop_all, drop_more}

pub find_skip : {X : Type 0} (p : X → Bool) (xs : List X) (i : ℕ) (d : X) → i < length xs → p (get_or xs i d) ≡ false → find p (drop i xs) ≡ find p (drop (i + 1) xs)
find_skip p xs i d h e = ap (find p) (drop_more xs i d h) ∙ ap (λ b. cond b (Some (get_or xs i d)) (find p (drop (i + 1) xs))) e

pub find_hit : {X : Type 0} (p : X → Bool) (xs : List X) (i : ℕ) (d : X) → i < length xs → p (get_or xs i d) ≡ true → find p (drop i xs) ≡ Some (get_or xs i d)
find_hit p xs i d h e = ap (find p) (drop_more xs i d h) ∙ ap (λ b. cond b (Some (get_or xs i d)) (find p (drop (i + 1) xs))) e

pub find_end : {X : Type 0} (p : X → Bool) (xs : List X) (i : ℕ) → length xs ≤ i → find p (drop i xs) ≡ None
find_end p xs i h = ap (find p) (drop_all i xs h)
