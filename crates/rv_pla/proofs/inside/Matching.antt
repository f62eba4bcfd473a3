-- The words that a cube matches, by masks.
use Rattle.std.proofs.Common.{arith}
use Rattle.std.proofs.Common.{◌≡◌, ℕ, Bool, true, cond, List, length}
use Rattle.rv_gate.specs.Word.{has, bit_of, word_of}
use Rattle.rv_gate.specs.Gate.{same, holds}
use Rattle.rv_gate.proofs.AllBelow.{all_below-same}
use Rattle.rv_gate.proofs.inside.Mirrors.{IsMirror, holds-mirrored}
use Rattle.rv_pla.specs.declared.cube.Cube.{Cube}
use Rattle.rv_pla.specs.Cube.{matches, agrees, symbol_of}
use Rattle.rv_pla.specs.inside.Table.{agrees_by}

one_input : (cares wants bit : Bool) → agrees (symbol_of cares wants) bit ≡ cond cares (same bit wants) true
one_input cares wants bit = grind arith

pub matches-holds : (cube : Cube) (word : List Bool) → matches cube word ≡ holds cube.care cube.want word
unfolding matches holds
matches-holds cube word =
    all_below-same _ _ (length word) (λ i l. one_input (has cube.care i) (has cube.want i) (bit_of word i))

-- a word by its number, and the cube by its mirrored sets
pub matches-mirrored : (n x : ℕ) (cube : Cube) (care want : ℕ) → IsMirror n cube.care care → IsMirror n cube.want want
    → agrees_by x care want ≡ matches cube (word_of n x)
matches-mirrored n x cube care want mirrors_care mirrors_want = grind (arith, holds-mirrored, matches-holds, word_of)
