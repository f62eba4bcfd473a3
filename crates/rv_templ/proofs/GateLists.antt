-- Parts of lists of gates.
use Rattle.std.proofs.Common.{ℕ, List, [], ◌∷◌, ◌++◌, reverse, sym, subst}
use Rattle.std.proofs.lemmas.List.{reverse-append}
use Rattle.rv_gate.specs.declared.gate.Shape.{Shape}
use Rattle.rv_templ.specs.Gates.{AreGates}

pub AreGates-first : (n : ℕ) (xs ys : List Shape) → AreGates n (xs ++ ys) → AreGates n xs
AreGates-first n [] ys g = tt
AreGates-first n (x ∷ xs) ys g = (g.0, g.1, AreGates-first n xs ys g.2)

pub AreGates-last : (n : ℕ) (xs ys : List Shape) → AreGates n (xs ++ ys) → AreGates n ys
AreGates-last n [] ys g = g
AreGates-last n (x ∷ xs) ys g = AreGates-last n xs ys g.2

pub AreGates-append : (n : ℕ) (xs ys : List Shape) → AreGates n xs → AreGates n ys → AreGates n (xs ++ ys)
AreGates-append n [] ys g h = h
AreGates-append n (x ∷ xs) ys g h = (g.0, g.1, AreGates-append n xs ys g.2 h)

pub AreGates-reverse : (n : ℕ) (xs : List Shape) → AreGates n xs → AreGates n (reverse xs)
AreGates-reverse n [] g = tt
AreGates-reverse n (x ∷ xs) g =
    subst (λ (l : List Shape). AreGates n l) (sym (reverse-append (x ∷ []) xs)) (AreGates-append n (reverse xs) (x ∷ []) (AreGates-reverse n xs g.2) (g.0, g.1, tt))
