-- What a renaming that was begun can still come to.
use Rattle.std.specs.Prelude.{◌≡◌, ◌≢◌, ℕ, ◌<◌, ◌^◌, Bool, true, false, ◌&&◌, ◌==◌, bit_or, bit_xor, List, ◌++◌, length}
use Rattle.rv_gate.specs.Word.{has}
use Rattle.rv_gate.specs.Gate.{same, controls, wanted}
use Rattle.rv_gate.specs.declared.gate.Shape.{Shape}
use Rattle.rv_templ.specs.Folds.{union_below}
use Rattle.rv_templ.specs.Gates.{gate_in}
use Rattle.rv_templ.specs.Images.{target_of, span, new_line, allowed}

-- no renaming that begins so gives an allowed window
abbrev pub Dropped : List Shape → List Shape → List ℕ → Type 0
Dropped window template begun = (rest : List ℕ) → allowed window template (begun ++ rest) ≡ false

-- a line is to one gate what another line is to another: a control with the same wanted value, the target, or neither
abbrev pub same_role : Shape → ℕ → Shape → ℕ → Bool
same_role g v h i =
    same (has (controls g) v) (has (controls h) i) && same (has (wanted g) v) (has (wanted h) i)
    && same (v == target_of g) (i == target_of h)

-- the line v is to each gate of the window what the line i is to the template's gate, and stands for no line before i;
-- for a line that the template does not touch it is 0
pub record Suits (window template : List Shape) (to : List ℕ) (i v : ℕ) : Type 0 where
  pub roles : has (span template) i ≡ true → (j : ℕ) → j < length window
      → same_role (gate_in window j) v (gate_in template j) i ≡ true
  pub unused : has (span template) i ≡ true → (j : ℕ) → j < i → has (span template) j ≡ true → new_line to j ≢ v
  pub zero_elsewhere : has (span template) i ≡ false → v ≡ 0

-- two gates have one target exactly where two others have
abbrev pub alike : Shape → Shape → Shape → Shape → Bool
alike g first h own = same (target_of g == target_of first) (target_of h == target_of own)

-- the lines on which a gate has its target, or not the control that the first gate has
abbrev pub varied_at : Shape → Shape → ℕ
varied_at g first =
    bit_or (bit_or (bit_xor (controls g) (controls first)) (bit_xor (wanted g) (wanted first))) (2 ^ target_of g)

-- those of the first n gates
abbrev pub varied : List Shape → ℕ → ℕ
varied gates n = union_below (λ j. varied_at (gate_in gates j) (gate_in gates 0)) n
