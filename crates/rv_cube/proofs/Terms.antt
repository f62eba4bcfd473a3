-- What is kept of the terms of a list.
use Rattle.std.proofs.Common.{◌≡◌, ℕ, Bool, not, cond, eqb, List, [], ◌∷◌, refl, arith}
use Rattle.std.specs.Prelude.{All, bit_xor}
use Rattle.std.proofs.lemmas.Bool.{eqb-false, eqb-true}
use Rattle.std.proofs.lemmas.List.Elements.{All-nil, All-head, All-tail}
use Rattle.rv_pla.specs.Cube.{IsCube}
use Rattle.rv_pla.specs.declared.cube.Cube.{Cube}
use Rattle.rv_cube.specs.Esop.{share, esop_value, IsTerm, terms_of}

one_more : (n outputs : ℕ) (cube : Cube) (rest : List Cube) (t : Bool) → eqb cube.outs 0 ≡ t → IsCube n outputs cube
    → All (IsTerm n outputs) rest → All (IsTerm n outputs) (cond (not t) (cube ∷ rest) rest)
one_more n outputs cube rest t h h2 h3 = grind (arith, eqb-false)

pub terms_valid : (n outputs : ℕ) (cubes : List Cube) → All (IsCube n outputs) cubes → All (IsTerm n outputs) (terms_of cubes)
terms_valid n outputs [] all = All-nil (IsTerm n outputs)
terms_valid n outputs (cube ∷ rest) all =
    one_more n outputs cube (terms_of rest) (eqb cube.outs 0) refl (All-head (IsCube n outputs) cube rest all)
    (terms_valid n outputs rest (All-tail (IsCube n outputs) cube rest all))

-- ---- a cube that carries nothing counts for nothing

pub share-none : (m : Bool) (outs : ℕ) → outs ≡ 0 → cond m outs 0 ≡ 0
share-none m outs h = grind arith

without : (cube : Cube) (rest : List Cube) (word : List Bool) (v : ℕ) (t : Bool) → eqb cube.outs 0 ≡ t → esop_value rest word ≡ v
    → esop_value (cond (not t) (cube ∷ rest) rest) word ≡ bit_xor (share cube word) v
unfolding esop_value
without cube rest word v t h h2 = grind (arith, share-none, eqb-true)

pub value-terms_of : (cubes : List Cube) (word : List Bool) → esop_value (terms_of cubes) word ≡ esop_value cubes word
unfolding esop_value
value-terms_of [] word = refl
value-terms_of (cube ∷ rest) word = without cube (terms_of rest) word (esop_value rest word) (eqb cube.outs 0) refl (value-terms_of rest word)
