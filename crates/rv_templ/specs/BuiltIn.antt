-- The built-in templates.
use Rattle.std.specs.Prelude.{ℕ, ◌+◌, ◌^◌, List, [], ◌∷◌, bit_or}
use Rattle.rv_gate.specs.declared.gate.Shape.{Shape}
use Rattle.rv_gate.specs.Gate.{flip_under}

-- flip s under the first control set, flip t under the second control set and s, both again, flip t under both sets;
-- t stands after s
abbrev pub crossed : ℕ → ℕ → ℕ → List Shape
crossed first second s =
    let a : Shape = flip_under first s in
    let b : Shape = flip_under (bit_or second (2 ^ s)) (s + 1) in
    let c : Shape = flip_under (bit_or first second) (s + 1) in
    a ∷ b ∷ a ∷ b ∷ c ∷ []

-- flip 1 under 0, flip 0 under 1, three times over
abbrev pub exchanges : List Shape
exchanges =
    let a : Shape = flip_under 1 1 in
    let b : Shape = flip_under 2 0 in
    a ∷ b ∷ a ∷ b ∷ a ∷ b ∷ []

-- the first and the second control set have 0 and 0, 0 and 1, 0 and 2, 1 and 0, 1 and 1, 2 and 0 lines: those of the
-- first come first, then those of the second
abbrev pub built_in : List (List Shape)
built_in =
    crossed 0 0 0 ∷ crossed 0 1 1 ∷ crossed 0 3 2 ∷ crossed 1 0 1 ∷ crossed 1 2 2 ∷ crossed 3 0 2 ∷ exchanges ∷ []
