-- Angles that are read token by token.
use Rattle.std.proofs.Common.{◌≡◌, ℕ, ◌+◌, ◌<◌, true, false, cond, List, [], ◌∷◌, length, drop, codes, bytes_eq, None, refl, sym, ap, ◌∙◌, ◌-◌, arith, take, length-drop}
use Rattle.std.proofs.lemmas.List.{drop-map, drop_more, take_all}
use Rattle.std.specs.Global.{Vec}
use Rattle.rv_import.specs.Angles.{AnglesSoFar, angles_step, next_angle, right_angles}
use Rattle.rv_import.specs.Statement.{angles_and, angles_from, bytes_of, token_at}

pub angles-none : (a : AnglesSoFar) → angles_from a [] ≡ None
unfolding angles_from
angles-none a = refl

angles-cons : (a : AnglesSoFar) (token : List ℕ) (tokens : List (List ℕ))
    → angles_from a (token ∷ tokens) ≡ cond (bytes_eq token (codes ")")) (angles_and tokens (right_angles (next_angle a))) (angles_from (angles_step a token) tokens)
unfolding angles_from
angles-cons a token tokens = refl

pub angles-on : (a : AnglesSoFar) (xs : List (List ℕ)) (i : ℕ) → i < length xs → bytes_eq (token_at xs i) (codes ")") ≡ false
    → angles_from a (drop i xs) ≡ angles_from (angles_step a (token_at xs i)) (drop (i + 1) xs)
angles-on a xs i h e =
    ap (angles_from a) (drop_more xs i [] h) ∙ angles-cons a (token_at xs i) (drop (i + 1) xs)
    ∙ ap (λ b. cond b (angles_and (drop (i + 1) xs) (right_angles (next_angle a))) (angles_from (angles_step a (token_at xs i)) (drop (i + 1) xs))) e

pub angles-closed : (a : AnglesSoFar) (xs : List (List ℕ)) (i : ℕ) → i < length xs → bytes_eq (token_at xs i) (codes ")") ≡ true
    → angles_from a (drop i xs) ≡ angles_and (drop (i + 1) xs) (right_angles (next_angle a))
angles-closed a xs i h e =
    ap (angles_from a) (drop_more xs i [] h) ∙ angles-cons a (token_at xs i) (drop (i + 1) xs)
    ∙ ap (λ b. cond b (angles_and (drop (i + 1) xs) (right_angles (next_angle a))) (angles_from (angles_step a (token_at xs i)) (drop (i + 1) xs))) e

pub bytes_after : (tokens : List (Vec ℕ)) (n : ℕ) → bytes_of (drop n tokens) ≡ drop n (bytes_of tokens)
bytes_after tokens n = sym (drop-map (λ (token : Vec ℕ). token.items) n tokens)

pub bytes_from : (tokens : List (Vec ℕ)) (n : ℕ) → bytes_of (take (length tokens - n) (drop n tokens)) ≡ drop n (bytes_of tokens)
bytes_from tokens n = ap bytes_of (take_all (length tokens - n) (drop n tokens) (omega (arith, length-drop n tokens))) ∙ bytes_after tokens n
