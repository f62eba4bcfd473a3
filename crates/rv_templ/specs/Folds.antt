-- Unions and tests over numbers, and the least list that passes a test.
use Rattle.std.specs.Prelude.{ℕ, zero, suc, Bool, if◌then◌else◌, List, [], ◌∷◌, ◌++◌, bit_or, Option, Some, None}
use Rattle.rv_gate.specs.FirstAnswer.{first}
use Rattle.rv_gate.specs.declared.word.TheConstants.{MOST_LINES}

-- the union of the sets f 0, f 1, .. below n
unfoldable pub union_below : (ℕ → ℕ) → ℕ → ℕ
union_below f zero = 0
union_below f (suc i) = bit_or (union_below f i) (f i)

-- the least list that goes on by n further numbers below MOST_LINES and passes, in the order of a dictionary
unfoldable pub least : (List ℕ → Bool) → ℕ → List ℕ → Option (List ℕ)
least ok zero begun = if ok begun then Some begun else None
least ok (suc n) begun = first (λ v. least ok n (begun ++ (v ∷ []))) 0 MOST_LINES
