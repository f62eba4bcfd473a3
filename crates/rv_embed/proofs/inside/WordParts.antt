-- Words that are put together, and the parts that marks pick.
use Rattle.std.proofs.Common.{◌≡◌, ℕ, zero, suc, ◌+◌, ◌*◌, ◌^◌, ◌<◌, Bool, true, false, List, [], ◌∷◌, ◌++◌, length, replicate, refl, sym, ◌∙◌, ap, arith, append-nil}
use Rattle.std.proofs.lemmas.List.{length-append, length-replicate}
use Rattle.std.proofs.lemmas.Nat.{pow-add}
use Rattle.rv_gate.specs.declared.circuit.Mark.TheVariants.{Input, Zero}
use Rattle.rv_gate.specs.Marks.{with_constants, without_garbage}
use Rattle.rv_gate.specs.Word.{number_of, word_of}
use Rattle.rv_gate.specs.inside.laws.WordLaws.{length-word_of, number_of-word_of_small, word_of-number_of}
use Rattle.rv_gate.proofs.Marks.{input_count-inputs, with_constants-append, with_constants-inputs, with_constants-zeros, without_garbage-append, without_garbage-all, without_garbage-outputs}

-- ---- two words, one after another

pub number_of-append : (u v : List Bool) → number_of (u ++ v) ≡ number_of u * 2 ^ length v + number_of v
unfolding number_of
number_of-append [] v = omega arith
number_of-append (false ∷ u) v = omega (arith, number_of-append u v)
number_of-append (true ∷ u) v = let i0 = number_of-append u v in grind (arith, i0, length-append, pow-add)

pub number_of-zeros : (m : ℕ) → number_of (replicate m false) ≡ 0
unfolding number_of
number_of-zeros zero = refl
number_of-zeros (suc m) = omega (arith, number_of-zeros m)

-- the word of a number that is put together
pub word_of-parts : (o m n a b : ℕ) → o + m ≡ n → a < 2 ^ o → b < 2 ^ m → word_of n (a * 2 ^ m + b) ≡ word_of o a ++ word_of m b
word_of-parts o m n a b e ha hb =
    let whole : List Bool = word_of o a ++ word_of m b in
    let len : length whole ≡ n = length-append (word_of o a) (word_of m b) ∙ ap (λ k. k + length (word_of m b)) (length-word_of o a) ∙ ap (λ k. o + k) (length-word_of m b) ∙ e in
    let number : number_of whole ≡ a * 2 ^ m + b =
    number_of-append (word_of o a) (word_of m b)
    ∙ ap (λ k. k * 2 ^ length (word_of m b) + number_of (word_of m b)) (number_of-word_of_small o a ha)
    ∙ ap (λ k. a * 2 ^ k + number_of (word_of m b)) (length-word_of m b)
    ∙ ap (λ k. a * 2 ^ m + k) (number_of-word_of_small m b hb) in
    ap (word_of n) (sym number) ∙ ap (λ k. word_of k (number_of whole)) (sym len) ∙ word_of-number_of whole

-- ---- inputs and outputs on the first lines

pub with_constants-first : (x : List Bool) (m : ℕ) → with_constants (replicate (length x) Input ++ replicate m Zero) x ≡ x ++ replicate m false
with_constants-first x m =
    ap (with_constants (replicate (length x) Input ++ replicate m Zero)) (sym (append-nil x))
    ∙ with_constants-append (replicate (length x) Input) (replicate m Zero) x [] (sym (input_count-inputs (length x)))
    ∙ ap (λ w. w ++ with_constants (replicate m Zero) []) (with_constants-inputs x)
    ∙ ap (λ w. x ++ w) (with_constants-zeros m [])

pub without_garbage-first : (u v : List Bool) (m : ℕ) → without_garbage (replicate (length u) false ++ replicate m true) (u ++ v) ≡ u
without_garbage-first u v m = grind (arith, without_garbage-append, length-replicate, without_garbage-outputs, without_garbage-all, append-nil)
