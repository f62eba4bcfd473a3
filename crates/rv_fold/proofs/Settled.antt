-- What is folded is left as it is by folding.
use Rattle.std.proofs.Common.{◌≡◌, ℕ, ◌+◌, ◌%◌, Bool, true, false, cond, ◌||◌, Option, Some, None, List, [], ◌∷◌, ◌++◌, refl, sym, ap, ap₂, ◌∙◌, arith, inl, inr}
use Rattle.std.proofs.lemmas.Bool.{cases_Bool, and_parts, and_from, or_left, or_right, false≢true}
use Rattle.std.proofs.lemmas.Option.{same_Some, none-some}
use Rattle.rv_net.specs.declared.op.Op.{Op}
use Rattle.rv_net.specs.declared.op.Op.TheVariants.{Z, S, Sdg, T, Tdg}
use Rattle.rv_fold.specs.Parities.{Parities, parities_after, are_apart, Parity}
use Rattle.rv_fold.specs.Folded.{phase_gate, phase_ops, PhaseGate}
use Rattle.rv_fold.proofs.Turning.{BelowEight, is_0, is_1, is_2, is_3, is_4, is_5, is_6, is_7, below_eight}
use Rattle.rv_fold.proofs.Walking.{Seen, each_walk, only, joined, survivors, restarts, walked, exponents, total, owed-some, owed-lacks, walked-none, walked-seen, walked-new, same_parity-refl, distributes, Lacks}
use Rattle.rv_gate.proofs.Options.{option_cases}

pub none_other : {A : Type 0} (o : Option PhaseGate) (p : PhaseGate) → o ≡ None → o ≡ Some p → A
none_other o p e f = absurd (none-some p (sym e ∙ f))

module _ (n : ℕ) where
  lacks-none : (a : Seen) (parities : Parities) (o : Op) (l : List Op) → phase_gate o ≡ None → Lacks n (survivors (restarts n o parities) a) (parities_after n o parities) l → Lacks n a parities (o ∷ l)
  unfolding Lacks
  lacks-none a parities o l e h = (λ _. h, λ p f. none_other (phase_gate o) p e f)

  lacks-some : (a : Seen) (parities : Parities) (o : Op) (l : List Op) (p : PhaseGate) → phase_gate o ≡ Some p → a (parities p.line) ≡ false → Lacks n a parities l → Lacks n a parities (o ∷ l)
  unfolding Lacks
  lacks-some a parities o l p e out h = (λ f. none_other (phase_gate o) p f e, λ q f. (ap (λ (r : PhaseGate). a (parities r.line)) (same_Some q p (sym f ∙ e)) ∙ out, h))

  lacks-phases : (a : Seen) (parities : Parities) (q s : ℕ) (l : List Op) → BelowEight s → a (parities q) ≡ false → Lacks n a parities l → Lacks n a parities (phase_ops q s ++ l)
  lacks-phases a parities q s l (is_0) out h = h
  lacks-phases a parities q s l (is_1) out h = lacks-some a parities (T q) l _ refl out h
  lacks-phases a parities q s l (is_2) out h = lacks-some a parities (S q) l _ refl out h
  lacks-phases a parities q s l (is_3) out h = lacks-some a parities (S q) (T q ∷ l) _ refl out (lacks-some a parities (T q) l _ refl out h)
  lacks-phases a parities q s l (is_4) out h = lacks-some a parities (Z q) l _ refl out h
  lacks-phases a parities q s l (is_5) out h = lacks-some a parities (Z q) (T q ∷ l) _ refl out (lacks-some a parities (T q) l _ refl out h)
  lacks-phases a parities q s l (is_6) out h = lacks-some a parities (Sdg q) l _ refl out h
  lacks-phases a parities q s l (is_7) out h = lacks-some a parities (Tdg q) l _ refl out h

  -- seen parities are left out
  pub lacks-walked : (a seen : Seen) (parities : Parities) (rest : List Op) → ((g : Parity) → a g ≡ true → seen g ≡ true) → Lacks n a parities (walked n seen parities rest)
  unfolding Lacks
  lacks-walked a seen parities rest h =
      each_walk n (λ s p _ l. (b : Seen) → ((g : Parity) → b g ≡ true → s g ≡ true) → Lacks n b p l) (record {
        end = λ s p b h. tt;
        other = λ s p o rest e ih b h. lacks-none b p o _ e (ih (survivors (restarts n o p) b) (λ g on. and_from _ _ (h g (and_parts _ _ on).0) (and_parts _ _ on).1));
        old = λ s p o rest q e old ih b h. ih b h;
        new = λ s p o rest q e new ih b h.
            lacks-phases b p q.line ((q.exponent + total n (p q.line) p rest) % 8) _ (below_eight _ (omega arith))
            (elim (cases_Bool (b (p q.line))) [ inl on ↦ absurd (false≢true (sym new ∙ h (p q.line) on)) | inr out ↦ out ])
            (ih b (λ g on. or_right (only (p q.line) g) (s g) (h g on)));
      }) seen parities rest a h

  swap_or : (a b c : Bool) → (a || (b || c)) ≡ (b || (a || c))
  swap_or a b c = grind arith

  -- parities that do not come may be taken as seen
  walked-joined : (a seen : Seen) (parities : Parities) (rest : List Op) → Lacks n a parities rest → walked n (joined a seen) parities rest ≡ walked n seen parities rest
  unfolding walked Lacks
  walked-joined a seen parities [] h = refl
  walked-joined a seen parities (o ∷ rest) h =
      elim (option_cases (phase_gate o)) [
        | inl e ↦
            (let r = restarts n o parities in
            walked-none n (joined a seen) parities o rest e
            ∙ (λ i. o ∷ walked n (λ g. distributes (a g) (seen g) (are_apart g.lines r) i) (parities_after n o parities) rest)
            ∙ ap (λ l. o ∷ l) (walked-joined (survivors r a) (survivors r seen) (parities_after n o parities) rest (h.0 e))
            ∙ sym (walked-none n seen parities o rest e))
        | inr p ↦
            (let f : Parity = parities p.0.line in
            let out : a f ≡ false = (h.1 p.0 p.1).0 in
            elim (cases_Bool (seen f)) [
              | inl old ↦
                  (walked-seen n (joined a seen) parities o rest p.0 p.1 (ap (λ b. b || seen f) out ∙ old)
                  ∙ walked-joined a seen parities rest (h.1 p.0 p.1).1
                  ∙ sym (walked-seen n seen parities o rest p.0 p.1 old))
              | inr new ↦
                  (walked-new n (joined a seen) parities o rest p.0 p.1 (ap (λ b. b || seen f) out ∙ new)
                  ∙ ap (λ l. phase_ops p.0.line ((p.0.exponent + total n f parities rest) % 8) ++ l)
                  ((λ i. walked n (λ g. swap_or (only f g) (a g) (seen g) i) parities rest)
                  ∙ walked-joined a (joined (only f) seen) parities rest (h.1 p.0 p.1).1)
                  ∙ sym (walked-new n seen parities o rest p.0 p.1 new))
            ])
      ]

  -- the phases of one class, before a rest without the parity
  module _ (seen : Seen) (parities : Parities) (q : ℕ) (l : List Op) (new : seen (parities q) ≡ false) (lacks : Lacks n (only (parities q)) parities l) (same : walked n (joined (only (parities q)) seen) parities l ≡ l) where
    no_more : total n (parities q) parities l ≡ 0
    no_more = owed-lacks exponents n (only (parities q)) parities l lacks

    single : (o : Op) (e : ℕ) → phase_gate o ≡ Some (record { line = q; exponent = e }) → walked n seen parities (o ∷ l) ≡ phase_ops q ((e + 0) % 8) ++ l
    single o e is = walked-new n seen parities o l (record { line = q; exponent = e }) is new ∙ ap₂ (λ t r. phase_ops q ((e + t) % 8) ++ r) no_more same

    double : (o : Op) (e : ℕ) → phase_gate o ≡ Some (record { line = q; exponent = e }) → walked n seen parities (o ∷ T q ∷ l) ≡ phase_ops q ((e + (1 + 0)) % 8) ++ l
    double o e is =
        walked-new n seen parities o (T q ∷ l) (record { line = q; exponent = e }) is new
        ∙ ap₂ (λ t r. phase_ops q ((e + t) % 8) ++ r)
        (owed-some exponents n (only (parities q)) parities (T q) l (record { line = q; exponent = 1 }) refl ∙ ap₂ (λ b t. cond b 1 0 + t) (same_parity-refl (parities q)) no_more)
        (walked-seen n (joined (only (parities q)) seen) parities (T q) l (record { line = q; exponent = 1 }) refl (or_left _ _ (same_parity-refl (parities q))) ∙ same)

    again : (s : ℕ) → BelowEight s → walked n seen parities (phase_ops q s ++ l) ≡ phase_ops q s ++ l
    again s (is_0) = sym (walked-joined (only (parities q)) seen parities l lacks) ∙ same
    again s (is_1) = single (T q) 1 refl
    again s (is_2) = single (S q) 2 refl
    again s (is_3) = double (S q) 2 refl
    again s (is_4) = single (Z q) 4 refl
    again s (is_5) = double (Z q) 4 refl
    again s (is_6) = single (Sdg q) 6 refl
    again s (is_7) = single (Tdg q) 7 refl

  pub walked-settled : (seen : Seen) (parities : Parities) (rest : List Op) → walked n seen parities (walked n seen parities rest) ≡ walked n seen parities rest
  unfolding walked
  walked-settled = each_walk n (λ s p _ l. walked n s p l ≡ l) (record {
    end = λ s p. refl;
    other = λ s p o rest e ih. walked-none n s p o _ e ∙ ap (λ l. o ∷ l) ih;
    old = λ s p o rest q e old ih. ih;
    new = λ s p o rest q e new ih.
        again s p q.line _ new (lacks-walked (only (p q.line)) (joined (only (p q.line)) s) p rest (λ g on. or_left _ _ on)) ih
        ((q.exponent + total n (p q.line) p rest) % 8) (below_eight _ (omega arith));
  })
