-- The text of a PLA of type esop: lines of words.
use Rattle.std.specs.Prelude.{◌≡◌, ℕ, List, [], ◌∷◌, ◌++◌, length, map, codes, decimal}
use Rattle.std.specs.List.{range_with_len}
use Rattle.rv_text.specs.Bytes.{bit_byte}
use Rattle.rv_text.specs.Spelled.{spelled}
use Rattle.rv_gate.specs.Word.{has}
use Rattle.rv_pla.specs.declared.cube.Cube.{Cube}
use Rattle.rv_pla.specs.Cube.{Symbol, One, Zero, Dash, symbol}
use Rattle.rv_pla.specs.declared.kind.Kind.TheVariants.{Esop}
use Rattle.rv_pla.specs.Pla.{TwoLevel}

-- what a cube says of an input
abbrev pub input_character : Symbol → ℕ
input_character One = 49
input_character Zero = 48
input_character Dash = 45

-- a character for each input
abbrev pub input_part : ℕ → Cube → List ℕ
input_part inputs cube = map (λ input. input_character (symbol cube input)) (range_with_len 0 inputs)

-- a character for each output: whether the cube carries it
abbrev pub output_part : ℕ → Cube → List ℕ
output_part outputs cube = map (λ output. bit_byte (has cube.outs output)) (range_with_len 0 outputs)

abbrev pub cube_words : ℕ → ℕ → Cube → List (List ℕ)
cube_words inputs outputs cube = input_part inputs cube ∷ output_part outputs cube ∷ []

-- the sizes, the type and the number of terms
abbrev pub head_lines : ℕ → ℕ → ℕ → List (List (List ℕ))
head_lines inputs outputs count =
    (codes ".i" ∷ decimal inputs ∷ [])
    ∷ (codes ".o" ∷ decimal outputs ∷ [])
    ∷ (codes ".type" ∷ codes "esop" ∷ [])
    ∷ (codes ".p" ∷ decimal count ∷ [])
    ∷ []

-- the one text of a list of cubes
unfoldable pub esop_text : ℕ → ℕ → List Cube → List ℕ
esop_text inputs outputs cubes =
    spelled
    (head_lines inputs outputs (length cubes) ++ (map (cube_words inputs outputs) cubes ++ (codes ".e" ∷ []) ∷ []))

-- a PLA of type esop whose terms have these cubes
pub record IsEsopOf (inputs outputs : ℕ) (cubes : List Cube) (pla : TwoLevel) : Type 0 where
  pub same_inputs : pla.inputs ≡ inputs
  pub same_outputs : pla.outputs ≡ outputs
  pub esop : pla.kind ≡ Esop
  pub same_cubes : map (λ term. term.cube) pla.terms ≡ cubes
