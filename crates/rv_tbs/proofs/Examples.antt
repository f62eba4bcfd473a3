-- Circuits that the synthesis finds, computed from its definition.
use Rattle.std.proofs.Common.{◌≡◌, [], ◌∷◌, refl}
use lib.Count
use Rattle.rv_gate.specs.Word.{number_of, word_of, ones_of}
use Rattle.rv_gate.specs.Gate.{holds}
use Rattle.rv_gate.specs.declared.gate.Shape.TheVariants.{Flip}
use Rattle.rv_tbs.specs.Synthesis.{due_flips, set_flips, clear_flips, turning, applied_in, step, after, both_gates, out_gates}
use Rattle.rv_perm.specs.Perm.{preimage_of, reindexed}

-- the example of Miller, Maslov and Dueck (2003)
published : out_gates 3 (1 ∷ 0 ∷ 3 ∷ 2 ∷ 5 ∷ 7 ∷ 4 ∷ 6 ∷ []) ≡ Flip 3 3 2 ∷ Flip 5 5 1 ∷ Flip 3 3 2 ∷ Flip 0 0 2 ∷ []
unfolding ones_of due_flips set_flips clear_flips turning step after out_gates number_of word_of holds
published = refl

-- every bit is inverted
inverted : out_gates 2 (3 ∷ 2 ∷ 1 ∷ 0 ∷ []) ≡ Flip 0 0 1 ∷ Flip 0 0 0 ∷ []
unfolding ones_of due_flips set_flips clear_flips turning step after out_gates number_of word_of holds
inverted = refl

-- the cycle that takes each number to the one before it: six gates by outputs alone, three on both sides
cycle_out : out_gates 3 (7 ∷ 0 ∷ 1 ∷ 2 ∷ 3 ∷ 4 ∷ 5 ∷ 6 ∷ []) ≡ Flip 2 2 0 ∷ Flip 4 4 1 ∷ Flip 6 6 0 ∷ Flip 0 0 2 ∷ Flip 0 0 1 ∷ Flip 0 0 0 ∷ []
unfolding ones_of due_flips set_flips clear_flips turning step after out_gates number_of word_of holds
cycle_out = refl

cycle_both : both_gates 3 (7 ∷ 0 ∷ 1 ∷ 2 ∷ 3 ∷ 4 ∷ 5 ∷ 6 ∷ []) ≡ Flip 0 0 2 ∷ Flip 4 4 1 ∷ Flip 6 6 0 ∷ []
unfolding ones_of due_flips set_flips clear_flips turning applied_in step after both_gates preimage_of reindexed number_of word_of holds Count.ones
cycle_both = refl
