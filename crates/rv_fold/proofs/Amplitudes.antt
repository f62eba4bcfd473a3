-- Folding keeps every amplitude.
use Rattle.std.proofs.Common.{◌≡◌, ℕ, ◌+◌, ◌%◌, Bool, true, false, cond, Some, List, [], ◌∷◌, length, refl, sym, ap, ap₂, ◌∙◌, arith, inl, inr}
use Rattle.std.proofs.lemmas.Bool.{cases_Bool, and_parts}
use Rattle.rv_net.specs.declared.op.Op.{Op}
use Rattle.rv_net.specs.Op.{OpFitsIn}
use Rattle.rv_net.specs.Cyclotomic.{Cyclotomic, times_w_power}
use Rattle.rv_net.specs.Amplitude.{amplitude}
use Rattle.rv_net.proofs.Step.{Word, bit, step, amp, delta, same_amp}
use Rattle.rv_net.proofs.Frame.{through, through-append}
use Rattle.rv_fold.specs.Parities.{Parities, alone, parities_after, Parity}
use Rattle.rv_fold.specs.Folded.{phase_gate, phase_ops, exponent_of, PhaseGate}
use Rattle.rv_fold.proofs.Values.{Holds, value, holds-next, holds-start, length-next, value-held}
use Rattle.rv_fold.proofs.Restarts.{restarts_least}
use Rattle.rv_fold.proofs.Turning.{step-next, step-turn, turns_add, turns_mod, no_turn, below_eight, phases-step}
use Rattle.rv_fold.proofs.Walking.{Seen, not_seen, only, none, joined, survivors, restarts, owed, walked, exponents, total, owed-none, owed-some, owed-joined, owed-same, owed-worthless, owed-nothing, walked-none, walked-seen, walked-new, same_parity-eq, each_gate, phase_fits}
use Rattle.rv_gate.proofs.Options.{option_cases}

pub phase-step : (o : Op) (p : PhaseGate) → phase_gate o ≡ Some p → (k : Word → Cyclotomic) (x : Word) → step o k x ≡ times_w_power (cond (bit x p.line) p.exponent 0) (k x)
phase-step o p e k x =
    each_gate (λ a g. step a k x ≡ times_w_power (cond (bit x g.line) g.exponent 0) (k x)) (λ q. refl) (λ q. refl) (λ q. refl) (λ q. refl) (λ q. refl) o p e

-- what a phase of a parity is worth at these values
abbrev pub turn : ℕ → (ℕ → Bool) → Parity → Op → ℕ
turn n v f o = cond (value n v f) (exponents f o) 0

module _ (n : ℕ) where
  -- all phases of one parity turn by its value
  owed-turn : (v : ℕ → Bool) (f : Parity) (parities : Parities) (rest : List Op) → owed (turn n v) n (only f) parities rest ≡ cond (value n v f) (total n f parities rest) 0
  owed-turn v f parities rest =
      owed-same (turn n v) (λ g o. cond (value n v f) (exponents g o) 0) n (only f) parities rest (λ g o e. ap (λ h. cond (value n v h) (exponents g o) 0) (sym (same_parity-eq f g e)))
      ∙ go (value n v f)
    where
      go : (b : Bool) → owed (λ g o. cond b (exponents g o) 0) n (only f) parities rest ≡ cond b (total n f parities rest) 0
      go true = refl
      go false = owed-worthless n (only f) parities rest

  abbrev pub AllFit : List Op → Type 0
  AllFit [] = Unit {0}
  AllFit (o ∷ rest) = OpFitsIn o n × AllFit rest

  mod_turn : (b : Bool) (s : ℕ) (u : Cyclotomic) → times_w_power (cond b (s % 8) 0) u ≡ times_w_power (cond b s 0) u
  mod_turn true s u = turns_mod s u
  mod_turn false s u = refl

  split_turn : (b : Bool) (e t w : ℕ) (u : Cyclotomic) → times_w_power (cond b e 0) (times_w_power (cond b t 0 + w) u) ≡ times_w_power w (times_w_power (cond b (e + t) 0) u)
  split_turn true e t w u = turns_add e (t + w) u ∙ ap (λ m. times_w_power m u) (let q : e + (t + w) ≡ w + (e + t) = omega arith in q) ∙ sym (turns_add w (e + t) u)
  split_turn false e t w u = no_turn _ ∙ ap (λ m. times_w_power m u) (let q : 0 + w ≡ w + 0 = omega arith in q) ∙ sym (turns_add w 0 u)

  pub walked-law : (rest : List Op) (seen : Seen) (parities : Parities) (k : Word → Cyclotomic) (v : ℕ → Bool) (x : Word) → AllFit rest → length x ≡ n → Holds n parities v x →
      through rest k x ≡ times_w_power (owed (turn n v) n seen parities rest) (through (walked n seen parities rest) k x)
  unfolding owed walked through
  walked-law [] seen parities k v x w e hold = sym (no_turn (k x))
  walked-law (o ∷ rest) seen parities k v x w e hold =
      elim (option_cases (phase_gate o)) [
        | inl other ↦
            (let r = restarts n o parities in
            let s : Seen = survivors r seen in
            step-next o _ _ x (λ y next.
            let held = holds-next n o parities v x y e w.0 (restarts_least n parities _).itself hold next in
            walked-law rest s (parities_after n o parities) k held.0 y w.1 (length-next o x y next ∙ e) held.1
            ∙ ap (λ m. times_w_power m (through (walked n s (parities_after n o parities) rest) k y)) (owed-same (turn n held.0) (turn n v) n s (parities_after n o parities) rest (λ g q on. ap (λ b. cond b (exponents g q) 0) (value-held n r g v held.0 (and_parts _ _ on).1 held.2))))
            ∙ step-turn o _ (λ y. through (walked n s (parities_after n o parities) rest) k y) x
            ∙ ap₂ times_w_power (sym (owed-none (turn n v) n seen parities o rest other)) (ap (λ l. through l k x) (sym (walked-none n seen parities o rest other))))
        | inr q ↦
            (let p : PhaseGate = q.0 in
            let f : Parity = parities p.line in
            let b : Bool = bit x p.line in
            let is : b ≡ value n v f = hold p.line (phase_fits n o p w.0 q.1) in
            phase-step o p q.1 (λ y. through rest k y) x
            ∙ (elim (cases_Bool (seen f)) [
              | inl old ↦
                  (ap (times_w_power (cond b p.exponent 0)) (walked-law rest seen parities k v x w.1 e hold)
                  ∙ turns_add _ _ _
                  ∙ ap₂ times_w_power
                  (ap₂ (λ u z. u + z) (ap₂ (λ c d. cond c d 0) is (sym (ap exponent_of q.1))) refl
                  ∙ sym (owed-some (turn n v) n seen parities o rest p q.1 ∙ ap (λ c. cond c (turn n v f o) 0 + owed (turn n v) n seen parities rest) old))
                  (ap (λ l. through l k x) (sym (walked-seen n seen parities o rest p q.1 old))))
              | inr new ↦
                  (let t : ℕ = total n f parities rest in
                  let w' : ℕ = owed (turn n v) n seen parities rest in
                  let u : Cyclotomic = through (walked n (joined (only f) seen) parities rest) k x in
                  ap (times_w_power (cond b p.exponent 0))
                  (walked-law rest (joined (only f) seen) parities k v x w.1 e hold
                  ∙ ap (λ m. times_w_power m u)
                  (owed-joined (turn n v) n (only f) seen parities rest (not_seen f seen new)
                  ∙ ap (λ m. m + w') (owed-turn v f parities rest ∙ ap (λ c. cond c t 0) (sym is))))
                  ∙ split_turn b p.exponent t w' u
                  ∙ ap₂ times_w_power
                  (sym (owed-some (turn n v) n seen parities o rest p q.1 ∙ ap (λ c. cond c (turn n v f o) 0 + w') new ∙ (let z : 0 + w' ≡ w' = omega arith in z)))
                  (sym (mod_turn b (p.exponent + t) u)
                  ∙ sym (phases-step p.line ((p.exponent + t) % 8) (below_eight _ (omega arith)) (λ y. through (walked n (joined (only f) seen) parities rest) k y) x)
                  ∙ sym (through-append (phase_ops p.line ((p.exponent + t) % 8)) (walked n (joined (only f) seen) parities rest) k x)
                  ∙ ap (λ l. through l k x) (sym (walked-new n seen parities o rest p q.1 new))))
            ]))
      ]

  amp-through : (ops : List Op) (x y : Word) → amp ops x y ≡ through ops (λ z. delta z y) x
  unfolding amp through
  amp-through [] x y = refl
  amp-through (o ∷ ops) x y = λ i. step o (λ v. amp-through ops v y i) x

  pub walked-amplitude : (ops : List Op) (x y : Word) → AllFit ops → length x ≡ n → amplitude (walked n none alone ops) x y ≡ amplitude ops x y
  walked-amplitude ops x y w e =
      sym (same_amp (walked n none alone ops) x y)
      ∙ amp-through (walked n none alone ops) x y
      ∙ sym (no_turn _)
      ∙ ap (λ m. times_w_power m (through (walked n none alone ops) (λ z. delta z y) x)) (sym (owed-nothing (turn n (bit x)) n alone ops))
      ∙ sym (walked-law ops none alone (λ z. delta z y) (bit x) x w e (holds-start n x))
      ∙ sym (amp-through ops x y)
      ∙ same_amp ops x y
