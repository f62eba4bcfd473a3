-- The texts of qubits.
use Rattle.std.proofs.Common.{◌≡◌, ◌∙◌, ℕ, ◌+◌, ◌/◌, ◌%◌, ◌<◌, ◌≤◌, List, ◌∷◌, ◌++◌, IfSome, Some, ap, append_assoc, codes, get_or-set_other, get_or-set_same, inl, inr, length, length-set, set, slice_get, sym, arith}
use Rattle.std.proofs.lemmas.Bool.{cases_eq}
use Rattle.std.proofs.lemmas.Fmt.{decimal_digit, decimal_step}
use Rattle.std.proofs.lemmas.Option.{slice_get-get_or}
use Rattle.rv_qasm.specs.Text.{qubit}

pub one_digit : (n : ℕ) → n < 10 → codes "q[" ++ ((48 + n) ∷ codes "]") ≡ qubit n
one_digit n small = ap (λ (digits : List ℕ). codes "q[" ++ (digits ++ codes "]")) (sym (decimal_digit n small))

pub two_digits : (n : ℕ) → 10 ≤ n → n < 100 → codes "q[" ++ ((48 + n / 10) ∷ (48 + n % 10) ∷ codes "]") ≡ qubit n
two_digits n large small = grind (arith, decimal_digit, decimal_step)

-- the texts of a gate's qubits, one after another
pub in_one : (gate space a end : List ℕ) → (gate ++ space) ++ (a ++ end) ≡ (gate ++ (space ++ a)) ++ end
in_one gate space a end = simp append_assoc

pub in_two : (gate space a comma b end : List ℕ)
    → ((gate ++ space) ++ (a ++ comma)) ++ (b ++ end) ≡ (gate ++ (space ++ (a ++ (comma ++ b)))) ++ end
in_two gate space a comma b end = simp append_assoc

pub in_three : (gate space a comma b c end : List ℕ)
    → ((gate ++ space) ++ (a ++ comma)) ++ ((b ++ comma) ++ (c ++ end)) ≡ (gate ++ (space ++ (a ++ (comma ++ (b ++ (comma ++ c)))))) ++ end
in_three gate space a comma b c end = simp append_assoc

-- what holds of each element before a place, one element more
pub one_more : {X : Type 0} (P : ℕ → X → Type 0) (xs : List X) (i : ℕ) (x : X) → i < length xs
    → ((k : ℕ) → k < i → IfSome (slice_get xs k) (P k)) → P i x → (k : ℕ) → k < i + 1 → IfSome (slice_get (set xs i x) k) (P k)
one_more P xs i x inside before here k below =
    let within : i < length (set xs i x) = omega (arith, inside, length-set xs i x) in
    elim (cases_eq k i) [
      | inl same ↦ rw (same, slice_get-get_or (set xs i x) i x within, get_or-set_same xs i x x inside) here
      | inr other ↦
          let earlier : k < i = omega (arith, below, other) in
          let kept : slice_get (set xs i x) k ≡ slice_get xs k =
          slice_get-get_or (set xs i x) k x (omega (arith, earlier, within))
          ∙ ap Some (get_or-set_other xs i k x x other) ∙ sym (slice_get-get_or xs k x (omega (arith, earlier, inside))) in
          rw kept (before k earlier)
    ]
