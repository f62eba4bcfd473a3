-- Folding as one walk: the parities whose class has begun are seen, and the first phase of a parity takes what the rest has of it.
use Rattle.std.proofs.Common.{◌≡◌, ℕ, ◌+◌, ◌%◌, ◌<◌, Bool, true, false, cond, ◌&&◌, ◌||◌, Option, Some, None, List, [], ◌∷◌, ◌++◌, refl, sym, ap, ap₂, ◌∙◌, arith, inl, inr, eq-eqb, subst}
use Rattle.std.proofs.lemmas.Bool.{and_from, and_parts, cases_Bool, false≢true}
use Rattle.rv_net.specs.declared.op.Op.{Op}
use Rattle.rv_net.specs.declared.op.Op.TheVariants.{Z, S, Sdg, T, Tdg}
use Rattle.rv_fold.specs.Parities.{Parities, parities_after, are_apart, direct, restart_set, same_parity, Parity}
use Rattle.rv_fold.specs.Folded.{phase_gate, phase_ops, exponent_of, PhaseGate}
use Rattle.std.proofs.lemmas.Option.{same_Some, none-some}
use Rattle.rv_net.specs.Op.{OpFitsIn}
use Rattle.rv_gate.proofs.Options.{option_cases}
use Rattle.rv_gate.proofs.Bits.{same_self}

-- ---- parities that are the same

pub same_parity-eq : (f g : Parity) → same_parity f g ≡ true → f ≡ g
same_parity-eq f g e = grind arith

pub same_parity-refl : (f : Parity) → same_parity f f ≡ true
same_parity-refl f = and_from _ _ (eq-eqb f.lines f.lines refl) (same_self f.flipped)

-- ---- the walk

abbrev pub Seen : Type 0
Seen = Parity → Bool

abbrev pub only : Parity → Seen
only f g = same_parity f g

abbrev pub none : Seen
none g = false

abbrev pub joined : Seen → Seen → Seen
joined a b g = a g || b g

-- those that a restart leaves alone
abbrev pub survivors : ℕ → Seen → Seen
survivors r seen g = seen g && are_apart g.lines r

abbrev pub restarts : ℕ → Op → Parities → ℕ
restarts n o parities = restart_set n parities (direct o)

pub choose : {A : Type 0} → Option PhaseGate → A → (PhaseGate → A) → A
choose None a f = a
choose (Some p) a f = f p

-- what the phases of seen parities in the rest are worth
unfoldable pub owed : (Parity → Op → ℕ) → ℕ → Seen → Parities → List Op → ℕ
unfolding choose
owed worth n seen parities [] = 0
owed worth n seen parities (o ∷ rest) =
    choose (phase_gate o) (owed worth n (survivors (restarts n o parities) seen) (parities_after n o parities) rest)
    (λ p. cond (seen (parities p.line)) (worth (parities p.line) o) 0 + owed worth n seen parities rest)

-- the sum of the exponents that the rest has of a parity
abbrev pub exponents : Parity → Op → ℕ
exponents f o = exponent_of (phase_gate o)

abbrev pub total : ℕ → Parity → Parities → List Op → ℕ
total n f parities rest = owed exponents n (only f) parities rest

unfoldable pub walked : ℕ → Seen → Parities → List Op → List Op
unfolding choose owed
walked n seen parities [] = []
walked n seen parities (o ∷ rest) =
    choose (phase_gate o) (o ∷ walked n (survivors (restarts n o parities) seen) (parities_after n o parities) rest)
    (λ p. cond (seen (parities p.line)) (walked n seen parities rest)
    (phase_ops p.line ((p.exponent + total n (parities p.line) parities rest) % 8) ++ walked n (joined (only (parities p.line)) seen) parities rest))

-- ---- its steps

module _ (worth : Parity → Op → ℕ) (n : ℕ) (seen : Seen) (parities : Parities) (o : Op) (rest : List Op) where
  pub owed-none : phase_gate o ≡ None → owed worth n seen parities (o ∷ rest) ≡ owed worth n (survivors (restarts n o parities) seen) (parities_after n o parities) rest
  unfolding owed choose
  owed-none e = rw e refl

  pub owed-some : (p : PhaseGate) → phase_gate o ≡ Some p → owed worth n seen parities (o ∷ rest) ≡ cond (seen (parities p.line)) (worth (parities p.line) o) 0 + owed worth n seen parities rest
  unfolding owed choose
  owed-some p e = rw e refl

module _ (n : ℕ) (seen : Seen) (parities : Parities) (o : Op) (rest : List Op) where
  pub walked-none : phase_gate o ≡ None → walked n seen parities (o ∷ rest) ≡ o ∷ walked n (survivors (restarts n o parities) seen) (parities_after n o parities) rest
  unfolding walked choose
  walked-none e = rw e refl

  pub walked-seen : (p : PhaseGate) → phase_gate o ≡ Some p → seen (parities p.line) ≡ true → walked n seen parities (o ∷ rest) ≡ walked n seen parities rest
  unfolding walked choose
  walked-seen p e s = rw e (rw s refl)

  pub walked-new : (p : PhaseGate) → phase_gate o ≡ Some p → seen (parities p.line) ≡ false → walked n seen parities (o ∷ rest) ≡ phase_ops p.line ((p.exponent + total n (parities p.line) parities rest) % 8) ++ walked n (joined (only (parities p.line)) seen) parities rest
  unfolding walked choose
  walked-new p e s = rw e (rw s refl)

-- ---- induction on the walk: by the operation at its head, from the rest to the whole

module _ (n : ℕ) (P : Seen → Parities → List Op → List Op → Type 0) where
  pub record Walks : Type 0 where
    pub end : (seen : Seen) (parities : Parities) → P seen parities [] []
    pub other : (seen : Seen) (parities : Parities) (o : Op) (rest : List Op) → phase_gate o ≡ None
        → P (survivors (restarts n o parities) seen) (parities_after n o parities) rest (walked n (survivors (restarts n o parities) seen) (parities_after n o parities) rest)
        → P seen parities (o ∷ rest) (o ∷ walked n (survivors (restarts n o parities) seen) (parities_after n o parities) rest)
    pub old : (seen : Seen) (parities : Parities) (o : Op) (rest : List Op) (p : PhaseGate) → phase_gate o ≡ Some p → seen (parities p.line) ≡ true
        → P seen parities rest (walked n seen parities rest) → P seen parities (o ∷ rest) (walked n seen parities rest)
    pub new : (seen : Seen) (parities : Parities) (o : Op) (rest : List Op) (p : PhaseGate) → phase_gate o ≡ Some p → seen (parities p.line) ≡ false
        → P (joined (only (parities p.line)) seen) parities rest (walked n (joined (only (parities p.line)) seen) parities rest)
        → P seen parities (o ∷ rest) (phase_ops p.line ((p.exponent + total n (parities p.line) parities rest) % 8) ++ walked n (joined (only (parities p.line)) seen) parities rest)

  pub each_walk : Walks → (seen : Seen) (parities : Parities) (rest : List Op) → P seen parities rest (walked n seen parities rest)
  unfolding walked
  each_walk w seen parities [] = w.end seen parities
  each_walk w seen parities (o ∷ rest) =
      elim (option_cases (phase_gate o)) [
        | inl e ↦ subst (P seen parities (o ∷ rest)) (sym (walked-none n seen parities o rest e)) (w.other seen parities o rest e (each_walk w (survivors (restarts n o parities) seen) (parities_after n o parities) rest))
        | inr p ↦
            (elim (cases_Bool (seen (parities p.0.line))) [
              | inl s ↦ subst (P seen parities (o ∷ rest)) (sym (walked-seen n seen parities o rest p.0 p.1 s)) (w.old seen parities o rest p.0 p.1 s (each_walk w seen parities rest))
              | inr s ↦ subst (P seen parities (o ∷ rest)) (sym (walked-new n seen parities o rest p.0 p.1 s)) (w.new seen parities o rest p.0 p.1 s (each_walk w (joined (only (parities p.0.line)) seen) parities rest))
            ])
      ]

-- ---- what a phase is

-- what holds of the five phase gates holds of all
pub each_gate : (P : Op → PhaseGate → Type 0) → ((q : ℕ) → P (T q) (record { line = q; exponent = 1 })) → ((q : ℕ) → P (S q) (record { line = q; exponent = 2 }))
    → ((q : ℕ) → P (Z q) (record { line = q; exponent = 4 })) → ((q : ℕ) → P (Sdg q) (record { line = q; exponent = 6 })) → ((q : ℕ) → P (Tdg q) (record { line = q; exponent = 7 }))
    → (o : Op) (p : PhaseGate) → phase_gate o ≡ Some p → P o p
each_gate P h h2 h3 h4 h5 o p h6 = grind (arith, same_Some, none-some)

pub phase_fits : (n : ℕ) (o : Op) (p : PhaseGate) → OpFitsIn o n → phase_gate o ≡ Some p → p.line < n
phase_fits n o p h e = each_gate (λ a g. OpFitsIn a n → g.line < n) (λ q f. f) (λ q f. f) (λ q f. f) (λ q f. f) (λ q f. f) o p e h

pub phase_after : (n : ℕ) (o : Op) (p : PhaseGate) (parities : Parities) → phase_gate o ≡ Some p → parities_after n o parities ≡ parities
phase_after n o p parities e = each_gate (λ a g. parities_after n a parities ≡ parities) (λ q. refl) (λ q. refl) (λ q. refl) (λ q. refl) (λ q. refl) o p e

pub phase_direct : (o : Op) (p : PhaseGate) → phase_gate o ≡ Some p → direct o ≡ 0
phase_direct o p e = each_gate (λ a g. direct a ≡ 0) (λ q. refl) (λ q. refl) (λ q. refl) (λ q. refl) (λ q. refl) o p e

-- ---- what is owed

pub distributes : (a b c : Bool) → ((a || b) && c) ≡ ((a && c) || (b && c))
distributes a b c = grind arith

-- a parity that is not seen
pub not_seen : (f : Parity) (seen : Seen) → seen f ≡ false → (g : Parity) → (only f g && seen g) ≡ false
not_seen f seen new g = grind (arith, same_parity-eq)

apart-left : (a b c d : Bool) → (a && b) ≡ false → ((a && c) && (b && d)) ≡ false
apart-left a b c d h = grind arith

at_joined : (p q : Bool) (w x y z : ℕ) → (p && q) ≡ false → z ≡ x + y → cond (p || q) w 0 + z ≡ (cond p w 0 + x) + (cond q w 0 + y)
at_joined p q w x y z h h2 = grind arith

pub owed-joined : (worth : Parity → Op → ℕ) (n : ℕ) (a b : Seen) (parities : Parities) (rest : List Op) → ((g : Parity) → (a g && b g) ≡ false) → owed worth n (joined a b) parities rest ≡ owed worth n a parities rest + owed worth n b parities rest
unfolding owed
owed-joined worth n a b parities [] h = refl
owed-joined worth n a b parities (o ∷ rest) h =
    let r = restarts n o parities in
    elim (option_cases (phase_gate o)) [
      | inl e ↦
          (owed-none worth n (joined a b) parities o rest e
          ∙ (λ i. owed worth n (λ g. distributes (a g) (b g) (are_apart g.lines r) i) (parities_after n o parities) rest)
          ∙ owed-joined worth n (survivors r a) (survivors r b) (parities_after n o parities) rest (λ g. apart-left (a g) (b g) (are_apart g.lines r) (are_apart g.lines r) (h g))
          ∙ sym (ap₂ (λ u v. u + v) (owed-none worth n a parities o rest e) (owed-none worth n b parities o rest e)))
      | inr q ↦
          (owed-some worth n (joined a b) parities o rest q.0 q.1
          ∙ at_joined (a (parities q.0.line)) (b (parities q.0.line)) (worth (parities q.0.line) o) _ _ _ (h (parities q.0.line)) (owed-joined worth n a b parities rest h)
          ∙ sym (ap₂ (λ u v. u + v) (owed-some worth n a parities o rest q.0 q.1) (owed-some worth n b parities o rest q.0 q.1)))
    ]

at_same : (b : Bool) (w x : ℕ) → (b ≡ true → w ≡ x) → cond b w 0 ≡ cond b x 0
at_same b w x h = grind arith

pub owed-same : (worth other : Parity → Op → ℕ) (n : ℕ) (seen : Seen) (parities : Parities) (rest : List Op) → ((g : Parity) (o : Op) → seen g ≡ true → worth g o ≡ other g o) → owed worth n seen parities rest ≡ owed other n seen parities rest
unfolding owed
owed-same worth other n seen parities [] h = refl
owed-same worth other n seen parities (o ∷ rest) h =
    let r = restarts n o parities in
    elim (option_cases (phase_gate o)) [
      | inl e ↦
          (owed-none worth n seen parities o rest e
          ∙ owed-same worth other n (survivors r seen) (parities_after n o parities) rest (λ g q e'. h g q (and_parts _ _ e').0)
          ∙ sym (owed-none other n seen parities o rest e))
      | inr q ↦
          (owed-some worth n seen parities o rest q.0 q.1
          ∙ ap₂ (λ u v. u + v) (at_same (seen (parities q.0.line)) _ _ (h (parities q.0.line) o)) (owed-same worth other n seen parities rest h)
          ∙ sym (owed-some other n seen parities o rest q.0 q.1))
    ]

pub at_none : (b : Bool) → ◌≡◌ {A = ℕ} (cond b 0 0) 0
at_none b = grind arith

-- nothing is worth nothing
pub owed-worthless : (n : ℕ) (seen : Seen) (parities : Parities) (rest : List Op) → owed (λ g o. 0) n seen parities rest ≡ 0
unfolding owed
owed-worthless n seen parities [] = refl
owed-worthless n seen parities (o ∷ rest) =
    elim (option_cases (phase_gate o)) [
      | inl e ↦ (owed-none (λ g o. 0) n seen parities o rest e ∙ owed-worthless n (survivors (restarts n o parities) seen) (parities_after n o parities) rest)
      | inr q ↦ (owed-some (λ g o. 0) n seen parities o rest q.0 q.1 ∙ ap₂ (λ u v. u + v) (at_none (seen (parities q.0.line))) (owed-worthless n seen parities rest))
    ]

-- no parity is owed anything
pub owed-nothing : (worth : Parity → Op → ℕ) (n : ℕ) (parities : Parities) (rest : List Op) → owed worth n none parities rest ≡ 0
owed-nothing worth n parities rest = owed-same worth (λ g o. 0) n none parities rest (λ g o on. absurd (false≢true on)) ∙ owed-worthless n none parities rest

-- no phase of these parities stands in the rest
unfoldable pub Lacks : ℕ → Seen → Parities → List Op → Type 0
Lacks n seen parities [] = Unit {0}
Lacks n seen parities (o ∷ rest) =
    (phase_gate o ≡ None → Lacks n (survivors (restarts n o parities) seen) (parities_after n o parities) rest)
    × ((p : PhaseGate) → phase_gate o ≡ Some p → (seen (parities p.line) ≡ false) × Lacks n seen parities rest)

pub owed-lacks : (worth : Parity → Op → ℕ) (n : ℕ) (seen : Seen) (parities : Parities) (rest : List Op) → Lacks n seen parities rest → owed worth n seen parities rest ≡ 0
unfolding owed Lacks
owed-lacks worth n seen parities [] h = refl
owed-lacks worth n seen parities (o ∷ rest) h =
    elim (option_cases (phase_gate o)) [
      | inl e ↦ (owed-none worth n seen parities o rest e ∙ owed-lacks worth n (survivors (restarts n o parities) seen) (parities_after n o parities) rest (h.0 e))
      | inr q ↦
          (owed-some worth n seen parities o rest q.0 q.1
          ∙ ap₂ (λ u v. u + v) (ap (λ b. cond b (worth (parities q.0.line) o) 0) (h.1 q.0 q.1).0) (owed-lacks worth n seen parities rest (h.1 q.0 q.1).1))
    ]
