-- The parts of a text, as they are sent.
use Rattle.std.proofs.Common.{arith}
use Rattle.std.proofs.lemmas.Grind.{common_steps}
use Rattle.std.proofs.Common.{◌≡◌, ℕ, List, [], ◌∷◌, ◌++◌, length, map, codes, append_assoc}
use Rattle.std.proofs.lemmas.List.{append-nil}
use Rattle.rv_text.specs.Spelled.{spelled}
use Rattle.rv_text.proofs.Pieces.{spelled-append}
use Rattle.rv_pla.specs.declared.cube.Cube.{Cube}
use Rattle.rv_pla.specs.Text.{cube_words, esop_text, head_lines}

pub head_spelled : (i o count : List ℕ)
    → codes ".i " ++ (i ++ (codes "\n.o " ++ (o ++ (codes "\n.type esop\n.p " ++ (count ++ codes "\n")))))
    ≡ spelled ((codes ".i" ∷ i ∷ []) ∷ (codes ".o" ∷ o ∷ []) ∷ (codes ".type" ∷ codes "esop" ∷ []) ∷ (codes ".p" ∷ count ∷ []) ∷ [])
head_spelled i o count = simp append-nil

pub cube_spelled : (ins outs : List ℕ) → ins ++ (32 ∷ [] ++ (outs ++ 10 ∷ [])) ≡ spelled ((ins ∷ outs ∷ []) ∷ [])
cube_spelled ins outs = simp (append-nil, append_assoc)

pub text_parts : (inputs outputs : ℕ) (cubes : List Cube)
    → spelled (head_lines inputs outputs (length cubes)) ++ (spelled (map (cube_words inputs outputs) cubes) ++ codes ".e\n") ≡ esop_text inputs outputs cubes
unfolding esop_text
text_parts inputs outputs cubes = grind (arith, common_steps, spelled-append, head_lines, cube_words)
