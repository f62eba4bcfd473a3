-- Syntheses computed from their definition.
use Rattle.std.proofs.Common.{◌≡◌, [], ◌∷◌, refl}
use Rattle.rv_gate.specs.FirstAnswer.{first}
use Rattle.rv_gate.specs.Gate.{flip_under}
use Rattle.rv_gate.specs.Word.{word_of, ones_of}
use Rattle.rv_perm.specs.Perm.{preimage_of}
use Rattle.rv_cube.specs.Distance.{differing, with_third}
use Rattle.rv_cube.specs.ReedMuller.{is_within}
use Rattle.rv_cube.specs.Reduction.{merged, found_step, repeated}
use Rattle.rv_dbs.specs.Walk.{next, least_from, side}
use Rattle.rv_dbs.specs.Singles.{single, between, singles_from, singles}

-- an exchange of two lines takes three flips, each line the target in turn
two_exchanged : singles 2 (0 ∷ 2 ∷ 1 ∷ 3 ∷ []) ≡ flip_under 2 0 ∷ flip_under 1 1 ∷ flip_under 2 0 ∷ []
unfolding ones_of word_of preimage_of next least_from side single between singles_from is_within differing with_third first merged found_step repeated
two_exchanged = refl

-- where the last line alone changes, its gate is all
last_changed : singles 2 (0 ∷ 1 ∷ 3 ∷ 2 ∷ []) ≡ flip_under 1 1 ∷ []
unfolding ones_of word_of preimage_of next least_from side single between singles_from is_within differing with_third first merged found_step repeated
last_changed = refl

-- on one line its control function is 1 everywhere
one_inverted : singles 1 (1 ∷ 0 ∷ []) ≡ flip_under 0 0 ∷ []
unfolding ones_of word_of preimage_of next least_from side single between singles_from is_within differing with_third first merged found_step repeated
one_inverted = refl

-- the identity has many walks, each of which begins with 0 and gives no gate
nothing_changed : singles 2 (0 ∷ 1 ∷ 2 ∷ 3 ∷ []) ≡ []
unfolding ones_of word_of preimage_of next least_from side single between singles_from is_within differing with_third first merged found_step repeated
nothing_changed = refl
