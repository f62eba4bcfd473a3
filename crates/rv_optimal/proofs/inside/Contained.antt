-- What a list contains.
use Rattle.std.proofs.Common.{zero, suc, ◌<◌, List, [], ◌∷◌, Contains, length, map, refl, ◌∙◌, ap, sym, subst, arith, flat_map}
use Rattle.std.proofs.lemmas.List.{length-map, get_or-map}
use Rattle.std.proofs.lemmas.List.Elements.{Contains-append_left, Contains-append_right}

pub Contains-head : {X : Type 0} (x : X) (xs : List X) → Contains (x ∷ xs) x
Contains-head x xs = (zero, omega arith, refl)

pub Contains-tail : {X : Type 0} (x : X) (xs : List X) (y : X) → Contains xs y → Contains (x ∷ xs) y
Contains-tail x xs y c = Contains-append_right (x ∷ []) xs y c

pub Contains-map : {X Y : Type 0} (f : X → Y) (xs : List X) (x : X) → Contains xs x → Contains (map f xs) (f x)
Contains-map f xs x c =
    let within : c.0 < length (map f xs) = omega (arith, c.1, length-map xs f) in
    (c.0, within, get_or-map f xs c.0 x (f x) c.1 ∙ ap f c.2)

pub Contains-flat_map : {X Y : Type 0} (f : X → List Y) (xs : List X) (x : X) (y : Y) → Contains xs x → Contains (f x) y → Contains (flat_map f xs) y
Contains-flat_map f [] x y c d = absurd (omega (arith, c.1))
Contains-flat_map f (z ∷ xs) x y (zero, l, e) d =
    Contains-append_left (f z) (flat_map f xs) y (subst (λ v. Contains (f v) y) (sym e) d)
Contains-flat_map f (z ∷ xs) x y (suc k, l, e) d =
    let l' : k < length xs = omega (arith, l) in
    Contains-append_right (f z) (flat_map f xs) y (Contains-flat_map f xs x y (k, l', e) d)
