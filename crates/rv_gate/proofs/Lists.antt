-- Laws of lists.
use Rattle.std.proofs.Common.{◌≡◌, ℕ, zero, suc, ◌+◌, ◌-◌, ◌<◌, true, eqb, List, [], ◌∷◌, ◌++◌, length, map, take, drop, get_or, reverse, refl, sym, ◌∙◌, ap, inl, inr, arith}
use Rattle.std.specs.List.{list_any}
use Rattle.std.proofs.lemmas.Bool.{eqb-true, false≢true, or_cases}
use Rattle.std.proofs.lemmas.List.{length-drop, reverse-append, take_all, take_more}
use Rattle.std.proofs.Math.Seq.{take-length}

-- the last of a list is the first of the list turned around
pub last_first : {A : Type 0} → (xs : List A) (k : ℕ) (d : A) → suc k ≡ length xs → reverse xs ≡ get_or xs k d ∷ reverse (take k xs)
last_first xs k d e = ap reverse (sym whole) ∙ reverse-append (take k xs) (get_or xs k d ∷ [])
  where
    whole : take k xs ++ get_or xs k d ∷ [] ≡ xs
    whole = sym (take_more xs k d (omega arith)) ∙ (let f : k + 1 ≡ length xs = omega arith in ap (λ n. take n xs) f) ∙ take-length xs

pub take_same : {A : Type 0} → (k : ℕ) (xs : List A) → take k (take k xs) ≡ take k xs
take_same zero xs = refl
take_same (suc k) [] = refl
take_same (suc k) (x ∷ xs) = ap (λ l. x ∷ l) (take_same k xs)

-- all that is left
pub take_rest : {A : Type 0} → (xs : List A) (at : ℕ) → take (length xs - at) (drop at xs) ≡ drop at xs
take_rest xs at = take_all (length xs - at) (drop at xs) (omega (arith, length-drop at xs))

pub map_map : {A B C : Type 0} (f : B → C) (g : A → B) (xs : List A) → map f (map g xs) ≡ map (λ x. f (g x)) xs
map_map f g [] = refl
map_map f g (x ∷ xs) = ap (λ rest. f (g x) ∷ rest) (map_map f g xs)

-- what is in a list of small numbers is small
pub any_below : (xs : List ℕ) (n : ℕ) → ((x : ℕ) → x < length xs → get_or xs x 0 < n) → (q : ℕ) → list_any (eqb q) xs ≡ true → q < n
any_below [] n h q on = absurd (false≢true on)
any_below (x ∷ xs) n h q on =
    elim (or_cases (eqb q x) (list_any (eqb q) xs) on) [
      | inl here ↦ (let e : q ≡ x = eqb-true q x here in let b : x < n = h 0 (omega arith) in omega arith)
      | inr later ↦ any_below xs n (λ i l. h (suc i) (omega arith)) q later
    ]
