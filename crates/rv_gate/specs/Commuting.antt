-- Gates that commute.
use Rattle.std.specs.Prelude.{◌≡◌, ◌≢◌, ℕ, Bool, not, ◌&&◌, ◌||◌, List, [], ◌∷◌, length, ◌==◌, if◌then◌else◌, bit_and, bit_xor}
use Rattle.rv_gate.specs.Gate.{run, controls, wanted, targets, touched, is_flip, FitsIn}
use Rattle.rv_gate.specs.declared.gate.Shape.{Shape}

-- both orders make the same of each word that both gates fit
abbrev pub Commutes : Shape → Shape → Type 0
Commutes g h =
    (word : List Bool) → FitsIn g (length word) → FitsIn h (length word) → run (g ∷ h ∷ []) word ≡ run (h ∷ g ∷ []) word

-- of some word of n bits the two orders make different ones
abbrev pub DifferOn : ℕ → Shape → Shape → Type 0
DifferOn n g h = (word : List Bool) × (length word ≡ n) × (run (g ∷ h ∷ []) word ≢ run (h ∷ g ∷ []) word)

-- a line is in both sets
abbrev pub meet : ℕ → ℕ → Bool
meet x y = not (bit_and x y == 0)

-- a line is a control of both gates, with opposite wanted values
abbrev pub opposed : Shape → Shape → Bool
opposed g h = meet (bit_and (controls g) (controls h)) (bit_xor (wanted g) (wanted h))

-- no target of the one is a control of the other; and neither is it a target of the other, where one is no flip
unfoldable pub rule : Shape → Shape → Bool
rule g h =
    opposed g h
    || (if is_flip g && is_flip h
    then not (meet (targets g) (controls h)) && not (meet (targets h) (controls g))
    else not (meet (targets g) (touched h)) && not (meet (targets h) (touched g)))
