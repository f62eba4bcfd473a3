-- Values of all words, divided by the root of two.
use Rattle.std.proofs.Common.{◌≡◌, ℕ, zero, suc, ◌≤◌, true, false, cond, ◌&&◌, List, [], ◌∷◌, map, refl, sym, ap, ap₂, ◌∙◌, arith}
use Rattle.std.proofs.lemmas.Bool.{and_parts}
use Rattle.std.specs.List.{list_all}
use Rattle.rv_net.specs.Cyclotomic.{Cyclotomic, root2, times}
use Rattle.rv_check.specs.Reduced.{is_multiple, quotient, reduced}
use Rattle.rv_check.specs.inside.Dense.{halved, is_double, left}
use Rattle.rv_check.proofs.inside.Multiples.{double_is, multiple-root2, quotient_root2}
use Rattle.std.proofs.lemmas.Grind.{common_steps}

pub reduced_more : (exponent k : ℕ) (vs : List Cyclotomic) → exponent ≡ suc k → list_all is_multiple vs ≡ true → reduced exponent vs ≡ reduced k (map quotient vs)
unfolding reduced
reduced_more exponent k vs e all = ap (λ n. reduced n vs) e ∙ ap (λ b. cond b (reduced k (map quotient vs)) vs) all

pub reduced_stop : (exponent : ℕ) (vs : List Cyclotomic) → list_all is_multiple vs ≡ false → reduced exponent vs ≡ vs
unfolding reduced
reduced_stop zero vs e = refl
reduced_stop (suc k) vs e = ap (λ b. cond b (reduced k (map quotient vs)) vs) e

pub reduced_end : (exponent : ℕ) (vs : List Cyclotomic) → exponent ≡ 0 → reduced exponent vs ≡ vs
unfolding reduced
reduced_end exponent vs h = grind arith

pub left_more : (exponent k : ℕ) (vs : List Cyclotomic) → exponent ≡ suc k → list_all is_multiple vs ≡ true → left exponent vs ≡ left k (map quotient vs)
unfolding left
left_more exponent k vs e all = ap (λ n. left n vs) e ∙ ap (λ b. cond b (left k (map quotient vs)) (suc k)) all

pub left_stop : (exponent : ℕ) (vs : List Cyclotomic) → list_all is_multiple vs ≡ false → left exponent vs ≡ exponent
unfolding left
left_stop zero vs e = refl
left_stop (suc k) vs e = ap (λ b. cond b (left k (map quotient vs)) (suc k)) e

pub left_end : (exponent : ℕ) (vs : List Cyclotomic) → exponent ≡ 0 → left exponent vs ≡ exponent
unfolding left
left_end exponent vs h = grind arith

-- ---- by two

Doubles : List Cyclotomic → Type 0
Doubles vs = (list_all is_multiple vs ≡ true) × (list_all is_multiple (map quotient vs) ≡ true) × (map quotient (map quotient vs) ≡ map halved vs)

double_one : (u : Cyclotomic) → is_double u ≡ true → (is_multiple u ≡ true) × (is_multiple (quotient u) ≡ true) × (quotient (quotient u) ≡ halved u)
double_one u e =
    let is = sym (double_is u e) in
    let once : quotient u ≡ times root2 (halved u) = ap quotient is ∙ quotient_root2 _ in
    (ap is_multiple is ∙ multiple-root2 _, ap is_multiple once ∙ multiple-root2 _, ap quotient once ∙ quotient_root2 _)

doubles : (vs : List Cyclotomic) → list_all is_double vs ≡ true → Doubles vs
unfolding Doubles
doubles [] e = (refl, refl, refl)
doubles (u ∷ vs) e =
    let p = and_parts (is_double u) (list_all is_double vs) e in
    let one = double_one u p.0 in
    let more = doubles vs p.1 in
    (ap₂ (λ a b. a && b) one.0 more.0, ap₂ (λ a b. a && b) one.1 more.1, ap₂ (λ w ws. w ∷ ws) one.2 more.2)

pub reduced_twice : (exponent k : ℕ) (vs : List Cyclotomic) → exponent ≡ suc (suc k) → list_all is_double vs ≡ true → reduced k (map halved vs) ≡ reduced exponent vs
unfolding Doubles
reduced_twice exponent k vs e all =
    let d = doubles vs all in
    sym (reduced_more exponent (suc k) vs e d.0 ∙ reduced_more (suc k) k (map quotient vs) refl d.1 ∙ ap (reduced k) d.2)

pub left_twice : (exponent k : ℕ) (vs : List Cyclotomic) → exponent ≡ suc (suc k) → list_all is_double vs ≡ true → left k (map halved vs) ≡ left exponent vs
unfolding Doubles
left_twice exponent k vs e all =
    let d = doubles vs all in
    sym (left_more exponent (suc k) vs e d.0 ∙ left_more (suc k) k (map quotient vs) refl d.1 ∙ ap (left k) d.2)

pub left-le : (exponent : ℕ) (vs : List Cyclotomic) → left exponent vs ≤ exponent
unfolding left
left-le zero vs = omega arith
left-le (suc exponent) vs = let rest = left-le exponent in grind (arith, common_steps, rest)
