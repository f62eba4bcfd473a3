-- How many lines gates touch, in sum.
use Rattle.std.proofs.Common.{◌≡◌, ℕ, zero, suc, ◌+◌, ◌*◌, ◌/◌, ◌^◌, ◌≤◌, Bool, true, cond, ◌||◌, List, [], ◌∷◌, ◌++◌, length, reverse, refl, sym, ◌∙◌, ap, inl, inr, arith, pow_pos}
use Rattle.std.specs.Prelude.{◌≢◌, count_ones, Option, Some, None}
use Rattle.std.proofs.lemmas.Bool.{cases_eq}
use Rattle.std.proofs.lemmas.List.{reverse-append}
use Rattle.std.proofs.lemmas.Nat.{ones_cat, ones_le_self, zero_from_ones}
use Rattle.rv_gate.specs.Word.{has}
use Rattle.rv_gate.specs.declared.gate.Shape.{Shape}
use Rattle.rv_links.specs.Nodes.{incidence, incidences}
use Rattle.rv_templ.specs.inside.Sums.{sum_below}
use Rattle.rv_templ.specs.Gates.{gate_in}
use Rattle.rv_templ.specs.Pairs.{lone}
use Rattle.rv_templ.proofs.JoinLaws.{lone_is}
use Rattle.rv_gate.proofs.CountOnes.{ones_halves, has_half, low_bit}
use Rattle.rv_gate.proofs.LineSets.{has-none}

pub incidences-cons : (g : Shape) (rest : List Shape) → incidences (g ∷ rest) ≡ incidence g + incidences rest
unfolding incidences
incidences-cons g rest = refl

pub incidences-nil : incidences [] ≡ 0
unfolding incidences
incidences-nil = refl

pub incidences-append : (xs ys : List Shape) → incidences (xs ++ ys) ≡ incidences xs + incidences ys
incidences-append [] ys = let z = incidences-nil in omega arith
incidences-append (x ∷ xs) ys = let i0 = incidences-append xs ys in grind (arith, i0, incidences-cons)

pub incidences-reverse : (xs : List Shape) → incidences (reverse xs) ≡ incidences xs
incidences-reverse [] = refl
incidences-reverse (x ∷ xs) =
    let z = incidences-nil in
    let one = incidences-cons x [] in
    let r = incidences-reverse xs in
    let e = ap incidences (reverse-append (x ∷ []) xs) in
    omega (arith, e, incidences-append (reverse xs) (x ∷ []), one, z, r, incidences-cons x xs)

pub sum_shift : (f : ℕ → ℕ) (n : ℕ) → sum_below f (suc n) ≡ f 0 + sum_below (λ i. f (suc i)) n
unfolding sum_below
sum_shift f zero = omega arith
sum_shift f (suc n) = let r = sum_shift f n in omega arith

-- the same sum, place by place
abbrev pub size_at : List Shape → ℕ → ℕ
size_at gates j = incidence (gate_in gates j)

pub incidences-sum : (gates : List Shape) → incidences gates ≡ sum_below (size_at gates) (length gates)
unfolding sum_below incidences
incidences-sum [] = refl
incidences-sum (g ∷ rest) = ap (λ s. incidence g + s) (incidences-sum rest) ∙ sym (sum_shift (size_at (g ∷ rest)) (length rest))

-- ---- sets line by line

-- how often a set has a line
abbrev pub times : ℕ → ℕ → ℕ
times set line = cond (has set line) 1 0

-- two sets that have no line more often than two others have no more lines in sum
pub ones_law : (k p q a b : ℕ) → p ≤ k → q ≤ k → ((i : ℕ) → times p i + times q i ≤ times a i + times b i) → count_ones p + count_ones q ≤ count_ones a + count_ones b
ones_law zero p q a b lp lq h = omega (arith, ones_le_self p, ones_le_self q)
ones_law (suc k) p q a b lp lq h =
    let rest = ones_law k (p / 2) (q / 2) (a / 2) (b / 2) (omega arith) (omega arith) (λ i. rw (has_half p i, has_half q i, has_half a i, has_half b i) (h (suc i))) in
    omega (arith, h 0, rest, low_bit (has p 0) p refl, low_bit (has q 0) q refl, low_bit (has a 0) a refl, low_bit (has b 0) b refl, ones_halves p, ones_halves q, ones_halves a, ones_halves b)

-- a set within two others
pub count_ones-within : (p q r : ℕ) → ((i : ℕ) → has p i ≡ true → (has q i || has r i) ≡ true) → count_ones p ≤ count_ones q + count_ones r
count_ones-within p q r h = let le = ones_law p p 0 q r (omega arith) (omega arith) (λ i. rw has-none (once (has p i) (has q i) (has r i) (h i))) in omega arith
  where
    once : (x y z : Bool) → (x ≡ true → (y || z) ≡ true) → cond x 1 0 + 0 ≤ cond y 1 0 + cond z 1 0
    once x y z h = grind arith

-- one line
pub one_line : (n : ℕ) → count_ones (2 ^ n) ≡ 1
one_line n =
    let e : 1 * 2 ^ n + 0 ≡ 2 ^ n = omega arith in
    let s : count_ones (2 ^ n) ≡ count_ones 1 + count_ones 0 = ap count_ones (sym e) ∙ ones_cat n 1 0 (pow_pos n) in
    elim (cases_eq (count_ones 1) 0) [
      | inl none ↦ let z = zero_from_ones 1 none in absurd (omega arith)
      | inr ne ↦ omega (arith, s, ones_le_self 1, ones_le_self 0)
    ]

-- a set that has not one line has no only one
pub lone_none : (set n : ℕ) → count_ones set ≢ 1 → None ≡ lone set n
lone_none set n ne = none_from (lone set n) (λ line e. ne (ap count_ones (lone_is set n line e) ∙ one_line line))
  where
    none_from : (o : Option ℕ) → ((line : ℕ) → o ≡ Some line → ⊥) → None ≡ o
    none_from None h = refl
    none_from (Some line) h = absurd (h line refl)
