-- What folding leaves: of joinable places, one writes a class with the other.
use Rattle.std.proofs.Common.{◌≡◌, ℕ, suc, ◌+◌, ◌-◌, ◌%◌, ◌<◌, ◌≤◌, true, Some, None, List, [], ◌∷◌, ◌++◌, refl, sym, ap, ◌∙◌, arith, subst, inl, inr, ◌⊎◌}
use Rattle.std.specs.Prelude.{slice_get}
use Rattle.std.proofs.lemmas.Bool.{cases_eq, and_from, or_left, false≢true}
use Rattle.std.proofs.lemmas.Option.{same_Some, none-some}
use Rattle.rv_net.specs.declared.op.Op.{Op}
use Rattle.rv_net.specs.declared.op.Op.TheVariants.{Z, S, T}
use Rattle.rv_fold.specs.Parities.{Parity, Parities, parities_after, are_apart}
use Rattle.rv_fold.specs.Folded.{Kept, PhaseGate, WritesClass, phase_gate, phase_ops, parity_at, parities_at}
use Rattle.rv_fold.proofs.Joining.{Joined, IsRest, rest_head, rest_tail, parities_next, restarted_here, some_parity_here, no_parity_here, phase_parities_next}
use Rattle.rv_fold.proofs.Settled.{lacks-walked, none_other}
use Rattle.rv_fold.proofs.Turning.{BelowEight, below_eight}
use Rattle.rv_fold.proofs.Walking.{Seen, each_walk, only, joined, survivors, restarts, walked, total, same_parity-refl, Lacks}
use Rattle.rv_gate.proofs.Options.{option_cases}

module _ (n : ℕ) where
  -- the rest lacks the parity of a phase gate, or has it once, in the T that ends the gate's class
  abbrev pub Closes : Parities → Op → List Op → PhaseGate → Type 0
  Closes parities o rest p =
      Lacks n (only (parities p.line)) parities rest
      ⊎ ((tail : List Op) × (rest ≡ T p.line ∷ tail) × ((o ≡ S p.line) ⊎ (o ≡ Z p.line)) × Lacks n (only (parities p.line)) parities tail)

  unfoldable pub Tidy : Parities → List Op → Type 0
  Tidy parities [] = Unit {0}
  Tidy parities (o ∷ rest) = ((p : PhaseGate) → phase_gate o ≡ Some p → Closes parities o rest p) × Tidy (parities_after n o parities) rest

  -- ---- a walk's result is tidy

  module _ (parities : Parities) (q : ℕ) (l : List Op) (lacks : Lacks n (only (parities q)) parities l) where
    one : (o : Op) (e : ℕ) → phase_gate o ≡ Some (record { line = q; exponent = e }) → (p : PhaseGate) → phase_gate o ≡ Some p → Closes parities o l p
    one o e is p f = subst (λ (r : PhaseGate). Closes parities o l r) (same_Some _ p (sym is ∙ f)) (inl lacks)

    two : (o : Op) (e : ℕ) → phase_gate o ≡ Some (record { line = q; exponent = e }) → ((o ≡ S q) ⊎ (o ≡ Z q)) → (p : PhaseGate) → phase_gate o ≡ Some p → Closes parities o (T q ∷ l) p
    two o e is even p f = subst (λ (r : PhaseGate). Closes parities o (T q ∷ l) r) (same_Some _ p (sym is ∙ f)) (inr (l, refl, even, lacks))

    tidy_phases : (s : ℕ) → BelowEight s → Tidy parities l → Tidy parities (phase_ops q s ++ l)
    unfolding Tidy
    tidy_phases s h h2 = grind (arith, one, two)

  pub walked_tidy : (seen : Seen) (parities : Parities) (rest : List Op) → Tidy parities (walked n seen parities rest)
  unfolding Tidy
  walked_tidy = each_walk n (λ s f _ l. Tidy f l) (record {
    end = λ s f. tt;
    other = λ s f o rest e ih. ((λ p g. none_other (phase_gate o) p e g), ih);
    old = λ s f o rest p e old ih. ih;
    new = λ s f o rest p e new ih.
        tidy_phases f p.line (walked n (joined (only (f p.line)) s) f rest)
        (lacks-walked n (only (f p.line)) (joined (only (f p.line)) s) f rest (λ g on. or_left _ _ on))
        ((p.exponent + total n (f p.line) f rest) % 8) (below_eight _ (omega arith)) ih;
  })

-- ---- its places

module _ (n : ℕ) (ops : List Op) where
  none_past : (m j : ℕ) → IsRest n ops m [] → m ≤ j → parity_at n ops j ≡ None
  none_past m j is le =
      let e : slice_get ops j ≡ None = ap (slice_get ops) (let q : j ≡ (j - m) + m = omega arith in q) ∙ sym (is (j - m)) in
      rw e refl

  -- a parity that the rest lacks does not come as long as it is kept
  never : (rest : List Op) (m : ℕ) (s : Seen) (f : Parity) → s f ≡ true → IsRest n ops m rest → Lacks n s (parities_at n ops m) rest → (j : ℕ) → m ≤ j → parity_at n ops j ≡ Some f → Kept n ops f.lines m j → ⊥
  unfolding Lacks
  never [] m s f on is h j le here kept = none-some f (sym (none_past m j is le) ∙ here)
  never (o ∷ rest) m s f on is h j le here kept =
      let at = rest_head n ops m o rest is in
      elim (option_cases (phase_gate o)) [
        | inl e ↦
            elim (cases_eq j m) [
              | inl same ↦ none-some f (sym (no_parity_here n ops m o at e) ∙ ap (parity_at n ops) (sym same) ∙ here)
              | inr d ↦
                  never rest (suc m) (survivors (restarts n o (parities_at n ops m)) s) f
                  (and_from _ _ on (ap (are_apart f.lines) (sym (restarted_here n ops m o at)) ∙ kept m (omega arith) (omega arith)))
                  (rest_tail n ops m o rest is)
                  (subst (λ F. Lacks n (survivors (restarts n o (parities_at n ops m)) s) F rest) (sym (parities_next n ops m o at)) (h.0 e))
                  j (omega arith) here (λ k a b. kept k (omega arith) b)
            ]
        | inr p ↦
            elim (cases_eq j m) [
              | inl same ↦
                  (let q : parities_at n ops m p.0.line ≡ f = same_Some _ _ (sym (some_parity_here n ops m o at p.0 p.1) ∙ ap (parity_at n ops) (sym same) ∙ here) in
                  false≢true (sym (h.1 p.0 p.1).0 ∙ ap s q ∙ on))
              | inr d ↦
                  never rest (suc m) s f on (rest_tail n ops m o rest is)
                  (subst (λ F. Lacks n s F rest) (sym (phase_parities_next n ops m o at p.0 p.1)) (h.1 p.0 p.1).1)
                  j (omega arith) here (λ k a b. kept k (omega arith) b)
            ]
      ]

  -- the place of a phase gate whose class the rest closes
  module _ (m : ℕ) (o : Op) (rest : List Op) (is : IsRest n ops m (o ∷ rest)) (p : PhaseGate) (gate : phase_gate o ≡ Some p) (j : ℕ) (lt : m < j) (joined : Joined n ops m j) where
    at : slice_get ops m ≡ Some o
    at = rest_head n ops m o rest is

    abbrev f : Parity
    f = parities_at n ops m p.line

    same : joined.parity ≡ f
    same = same_Some _ _ (sym joined.first ∙ some_parity_here n ops m o at p gate)

    second : parity_at n ops j ≡ Some f
    second = joined.second ∙ ap Some same

    kept_from_next : (k : ℕ) → m < k → Kept n ops f.lines k j
    kept_from_next k le i a b = ap (λ (z : Parity). are_apart z.lines (Rattle.rv_fold.specs.Folded.restarted_at n ops i)) (sym same) ∙ joined.forward i (omega arith) b

    next_same : parities_at n ops (suc m) ≡ parities_at n ops m
    next_same = phase_parities_next n ops m o at p gate

    closed : Closes n (parities_at n ops m) o rest p → WritesClass ops m j
    closed (inl lacks) =
        absurd (never rest (suc m) (only f) f (same_parity-refl f) (rest_tail n ops m o rest is) (subst (λ F. Lacks n (only f) F rest) (sym next_same) lacks) j (omega arith) second (kept_from_next (suc m) (omega arith)))
    closed (inr w) =
        let tail_is : IsRest n ops (suc m) (T p.line ∷ w.0) = subst (IsRest n ops (suc m)) w.1 (rest_tail n ops m o rest is) in
        let odd = rest_head n ops (suc m) (T p.line) w.0 tail_is in
        elim (cases_eq j (suc m)) [
          | inl next ↦ record {
            next = next;
            line = p.line;
            even = elim w.2 [ inl e ↦ inl (at ∙ ap Some e) | inr e ↦ inr (at ∙ ap Some e) ];
            odd = ap (slice_get ops) next ∙ odd;
          }
          | inr d ↦
              absurd (never w.0 (suc (suc m)) (only f) f (same_parity-refl f) (rest_tail n ops (suc m) (T p.line) w.0 tail_is)
              (subst (λ F. Lacks n (only f) F w.0) (sym (phase_parities_next n ops (suc m) (T p.line) odd _ refl ∙ next_same)) w.3)
              j (omega arith) second (kept_from_next (suc (suc m)) (omega arith)))
        ]

  pub neighbours : (rest : List Op) (m : ℕ) → IsRest n ops m rest → Tidy n (parities_at n ops m) rest → (i j : ℕ) → m ≤ i → i < j → Joined n ops i j → WritesClass ops i j
  unfolding Tidy
  neighbours [] m is h i j le lt g = absurd (none-some g.parity (sym (none_past m i is le) ∙ g.first))
  neighbours (o ∷ rest) m is h i j le lt g =
      let at = rest_head n ops m o rest is in
      elim (cases_eq i m) [
        | inl here ↦
            (let there : Joined n ops m j = subst (λ k. Joined n ops k j) here g in
            elim (option_cases (phase_gate o)) [
              | inl e ↦ absurd (none-some there.parity (sym (no_parity_here n ops m o at e) ∙ there.first))
              | inr p ↦ subst (λ k. WritesClass ops k j) (sym here) (closed m o rest is p.0 p.1 j (omega arith) there (h.0 p.0 p.1))
            ])
        | inr d ↦
            neighbours rest (suc m) (rest_tail n ops m o rest is) (subst (λ F. Tidy n F rest) (sym (parities_next n ops m o at)) h.1) i j (omega arith) lt g
      ]
