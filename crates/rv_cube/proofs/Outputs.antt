-- How many outputs cubes carry.
use Rattle.std.proofs.Common.{◌≡◌, ℕ, zero, suc, ◌+◌, ◌^◌, ◌<◌, ◌≤◌, Bool, true, cond, List, [], ◌∷◌, length, get_or, ◌∙◌, ap, inl, inr, arith}
use Rattle.std.specs.Prelude.{bit_xor}
use Rattle.std.specs.List.{count_by, range_with_len, sum_by}
use Rattle.std.specs.Int.{bit_at}
use Rattle.std.proofs.lemmas.Bool.{cases_eq, eqb-true}
use Rattle.std.proofs.lemmas.List.FromFn.{length-range_with_len, get_or-range_with_len}
use Rattle.std.proofs.lemmas.List.Sums.{sum_by-cons}
use Rattle.std.proofs.lemmas.Nat.Bits.{bit_at-lt, bit_at_xor, bit_at-pow_same, bit_at-pow_other}
use Rattle.rv_gate.specs.Word.{has}
use Rattle.rv_pla.specs.declared.cube.Cube.{Cube}
use Rattle.rv_cube.specs.ReductionFor.{carried_count, output_dropped}

-- the sum of the outputs of all cubes
abbrev pub carried_by : ℕ → List Cube → ℕ
carried_by outputs cubes = sum_by (carried_count outputs) cubes

pub count-same : (outputs : ℕ) (x y : Cube) → x.outs ≡ y.outs → carried_count outputs x ≡ carried_count outputs y
count-same outputs x y e = ap (λ set. count_by (has set) (range_with_len 0 outputs)) e

-- ---- numbers that pass a test

abbrev one_if : Bool → ℕ
one_if t = cond t 1 0

count-le : (p q r : ℕ → Bool) (xs : List ℕ) → ((x : ℕ) → one_if (p x) ≤ one_if (q x) + one_if (r x)) → count_by p xs ≤ count_by q xs + count_by r xs
count-le p q r [] h = omega arith
count-le p q r (x ∷ xs) h =
    let a = sum_by-cons (λ x. one_if (p x)) x xs in
    let b = sum_by-cons (λ x. one_if (q x)) x xs in
    let c = sum_by-cons (λ x. one_if (r x)) x xs in
    let d = h x in
    let e = count-le p q r xs h in
    omega arith

count-rises : (p q : ℕ → Bool) (xs : List ℕ) → ((x : ℕ) → one_if (p x) ≤ one_if (q x)) → count_by p xs ≤ count_by q xs
count-rises p q [] h = omega arith
count-rises p q (x ∷ xs) h =
    let a = sum_by-cons (λ x. one_if (p x)) x xs in
    let b = sum_by-cons (λ x. one_if (q x)) x xs in
    let d = h x in
    let e = count-rises p q xs h in
    omega arith

-- one more passes
count-lt : (p q : ℕ → Bool) (xs : List ℕ) (i : ℕ) → ((x : ℕ) → one_if (p x) ≤ one_if (q x)) → i < length xs → one_if (p (get_or xs i 0)) < one_if (q (get_or xs i 0)) → count_by p xs < count_by q xs
count-lt p q [] i h l d = absurd (omega arith)
count-lt p q (x ∷ xs) zero h l d =
    let a = sum_by-cons (λ x. one_if (p x)) x xs in
    let b = sum_by-cons (λ x. one_if (q x)) x xs in
    let e = count-rises p q xs h in
    omega arith
count-lt p q (x ∷ xs) (suc i) h l d =
    let a = sum_by-cons (λ x. one_if (p x)) x xs in
    let b = sum_by-cons (λ x. one_if (q x)) x xs in
    let c = h x in
    let e = count-lt p q xs i h (omega arith) d in
    omega arith

-- ---- bits

one_bit : (a j : ℕ) → one_if (has a j) ≡ bit_at a j
one_bit a j = grind arith

pub count-xor : (outputs a b : ℕ) → count_by (has (bit_xor a b)) (range_with_len 0 outputs) ≤ count_by (has a) (range_with_len 0 outputs) + count_by (has b) (range_with_len 0 outputs)
count-xor outputs a b = grind (arith, count-le, bit_xor, range_with_len, one_bit, bit_at_xor, bit_at-lt)

-- a cube that loses an output
pub count-output_dropped : (outputs : ℕ) (cube : Cube) (output : ℕ) → output < outputs → has cube.outs output ≡ true → carried_count outputs (output_dropped cube output) < carried_count outputs cube
count-output_dropped outputs cube output l on =
    let a : ℕ = cube.outs in
    let here : bit_at a output ≡ 1 = eqb-true _ _ on in
    count-lt (has (bit_xor a (2 ^ output))) (has a) (range_with_len 0 outputs) output
    (λ j.
    let x = one_bit (bit_xor a (2 ^ output)) j in
    let y = one_bit a j in
    let s = bit_at_xor a (2 ^ output) j in
    let la = bit_at-lt a j in
    elim (cases_eq j output) [
      | inl same ↦ (let p = bit_at-pow_same output in let e : bit_at (2 ^ output) j ≡ bit_at (2 ^ output) output = ap (bit_at (2 ^ output)) same in let f : bit_at a j ≡ bit_at a output = ap (bit_at a) same in omega arith)
      | inr other ↦ (let p = bit_at-pow_other output j other in omega arith)
    ])
    (omega (arith, length-range_with_len 0 outputs))
    (let at : get_or (range_with_len 0 outputs) output 0 ≡ output = get_or-range_with_len 0 outputs output 0 l ∙ omega arith in
    let x = one_bit (bit_xor a (2 ^ output)) output in
    let y = one_bit a output in
    let s = bit_at_xor a (2 ^ output) output in
    let p = bit_at-pow_same output in
    rw at (omega arith))
