-- Folding computed from its definition.
use Rattle.std.proofs.Common.{◌≡◌, true, false, [], ◌∷◌, refl}
use Rattle.rv_net.specs.declared.op.Op.TheVariants.{X, H, S, T, Tdg, Cx}
use Rattle.rv_net.specs.Amplitude.{amplitude}
use Rattle.rv_net.specs.Cyclotomic.{times_w, times_w_power, unity}
use Rattle.rv_fold.specs.Parities.{closure_step, closure_steps}
use Rattle.rv_fold.specs.Folded.{parities_at, restarted_at, is_kept, sum_below, is_first, class_exponent, parts, folded}

-- phases of the same parity are joined, and one of the complemented parity is not
complemented_parity_stays : folded 1 (T 0 ∷ X 0 ∷ T 0 ∷ X 0 ∷ T 0 ∷ []) ≡ S 0 ∷ X 0 ∷ T 0 ∷ X 0 ∷ []
unfolding folded parts is_first class_exponent sum_below is_kept restarted_at parities_at closure_step closure_steps
complemented_parity_stays = refl

-- across an H on another line, and no further than one on a line of the parity
across_h : folded 2 (Cx 0 1 ∷ T 1 ∷ Cx 0 1 ∷ H 1 ∷ T 0 ∷ Cx 0 1 ∷ T 1 ∷ Tdg 0 ∷ []) ≡ Cx 0 1 ∷ T 1 ∷ Cx 0 1 ∷ H 1 ∷ Cx 0 1 ∷ T 1 ∷ []
unfolding folded parts is_first class_exponent sum_below is_kept restarted_at parities_at closure_step closure_steps
across_h = refl

-- a parity and its complement together are a phase of the whole, which is not free
phase_gate_the_whole : (amplitude (T 0 ∷ X 0 ∷ T 0 ∷ X 0 ∷ []) (false ∷ []) (false ∷ []) ≡ times_w_power 1 unity)
    × (amplitude (T 0 ∷ X 0 ∷ T 0 ∷ X 0 ∷ []) (true ∷ []) (true ∷ []) ≡ times_w_power 1 unity)
    × (amplitude (S 0 ∷ X 0 ∷ X 0 ∷ []) (false ∷ []) (false ∷ []) ≡ unity)
unfolding amplitude times_w_power times_w unity
phase_gate_the_whole = (refl, refl, refl)
