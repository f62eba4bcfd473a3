-- What holds of each element of a list holds of each of its parts.
use Rattle.std.proofs.Common.{◌≡◌, ℕ, zero, suc, List, [], ◌∷◌, ◌++◌, drop, reverse}
use Rattle.std.proofs.lemmas.List.{reverse-append}
use Rattle.rv_gate.specs.Every.{Every}

pub every_append : {A : Type 0} → (P : A → Type 0) (xs ys : List A) → Every P xs → Every P ys → Every P (xs ++ ys)
every_append P [] ys ex ey = ey
every_append P (x ∷ xs) ys ex ey = (ex.0, every_append P xs ys ex.1 ey)

pub every_first : {A : Type 0} → (P : A → Type 0) (xs ys : List A) → Every P (xs ++ ys) → Every P xs
every_first P [] ys e = tt
every_first P (x ∷ xs) ys e = (e.0, every_first P xs ys e.1)

pub every_last : {A : Type 0} → (P : A → Type 0) (xs ys : List A) → Every P (xs ++ ys) → Every P ys
every_last P [] ys e = e
every_last P (x ∷ xs) ys e = every_last P xs ys e.1

pub every_drop : {A : Type 0} → (P : A → Type 0) (k : ℕ) (xs : List A) → Every P xs → Every P (drop k xs)
every_drop P zero xs e = e
every_drop P (suc k) [] e = tt
every_drop P (suc k) (x ∷ xs) e = every_drop P k xs e.1

pub reverse-cons : {A : Type 0} → (x : A) (xs : List A) → reverse (x ∷ xs) ≡ reverse xs ++ (x ∷ [])
reverse-cons x xs = reverse-append (x ∷ []) xs

pub every_reverse : {A : Type 0} → (P : A → Type 0) (xs : List A) → Every P xs → Every P (reverse xs)
every_reverse P [] e = e
every_reverse P (x ∷ xs) e = rw (reverse-cons x xs) (every_append P (reverse xs) (x ∷ []) (every_reverse P xs e.1) (e.0, tt))
