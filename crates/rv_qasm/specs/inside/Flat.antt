-- Lists of bytes that are kept one after another.
use Rattle.std.specs.Prelude.{ℕ, ◌-◌, ◌≤◌, List, [], ◌∷◌, ◌++◌, take, drop}

-- the lists that begin at these places of the bytes, each of which ends where the next one begins
unfoldable pub cut_at : List ℕ → List ℕ → List (List ℕ)
cut_at [] bytes = []
cut_at (start ∷ []) bytes = drop start bytes ∷ []
cut_at (start ∷ next ∷ starts) bytes = take (next - start) (drop start bytes) ∷ cut_at (next ∷ starts) bytes

-- these places ascend, and none is greater than the limit
unfoldable pub Ascend : ℕ → List ℕ → Type 0
Ascend limit [] = Unit {0}
Ascend limit (start ∷ []) = start ≤ limit
Ascend limit (start ∷ next ∷ starts) = (start ≤ next) × Ascend limit (next ∷ starts)

-- one byte more in the last list
abbrev pub with_byte : List (List ℕ) → ℕ → List (List ℕ)
with_byte [] c = []
with_byte (bytes ∷ []) c = (bytes ++ c ∷ []) ∷ []
with_byte (bytes ∷ next ∷ lists) c = bytes ∷ with_byte (next ∷ lists) c
