-- Checks computed from their definition.
use Rattle.std.proofs.Common.{◌≡◌, [], ◌∷◌, refl}
use Rattle.std.specs.Prelude.{Ok}
use Rattle.rv_gate.specs.Circuit.{Cascade, fresh}
use Rattle.rv_gate.specs.FirstAnswer.{first}
use Rattle.rv_gate.specs.Gate.{holds, flip_under}
use Rattle.rv_gate.specs.Word.{word_of}
use Rattle.rv_net.specs.Amplitude.{amplitude, count_h}
use Rattle.rv_net.specs.Cyclotomic.{negated, nought, plus, power, root2, times, times_w, times_w_power, unity}
use Rattle.rv_net.specs.declared.op.Op.TheVariants.{X, Z, H, Cx}
use Rattle.rv_check.specs.declared.checking.Verdict.TheVariants.{Same, Differs}
use Rattle.rv_check.specs.Check.{agrees, check_of, first_difference, first_large}
use Rattle.rv_check.specs.Reduced.{first_large_place, quotient, reduced, words}

-- a circuit without gates on a line
abbrev none : Cascade
none = fresh ((97 ∷ []) ∷ [])

-- target and control exchanged: from the word 01 the amplitudes are others
target_and_control_exchanged : check_of (record (fresh ((97 ∷ []) ∷ (98 ∷ []) ∷ [])) { gates = flip_under 1 1 ∷ [] }) (record { lines = 2; ops = Cx 1 0 ∷ [] }) ≡ Ok (Differs 1)
unfolding check_of first_large first_large_place first_difference first agrees reduced quotient words word_of holds amplitude count_h times_w_power times_w times power root2 plus negated unity nought
target_and_control_exchanged = refl

-- H twice is nothing
h_twice : check_of none (record { lines = 1; ops = H 0 ∷ H 0 ∷ [] }) ≡ Ok Same
unfolding check_of first_large first_large_place first_difference first agrees reduced quotient words word_of holds amplitude count_h times_w_power times_w times power root2 plus negated unity nought
h_twice = refl

-- a phase of one word is not free, nor one of all words
no_phase_is_free :
    (check_of none (record { lines = 1; ops = Z 0 ∷ [] }) ≡ Ok (Differs 1))
    × (check_of none (record { lines = 1; ops = X 0 ∷ Z 0 ∷ X 0 ∷ Z 0 ∷ [] }) ≡ Ok (Differs 0))
unfolding check_of first_large first_large_place first_difference first agrees reduced quotient words word_of holds amplitude count_h times_w_power times_w times power root2 plus negated unity nought
no_phase_is_free = (refl, refl)
