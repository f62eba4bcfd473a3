-- The state before a place: what one more operation makes of it.
use Rattle.std.proofs.Common.{◌≡◌, ℕ, zero, suc, ◌+◌, ◌<◌, ◌≤◌, ◌^◌, Bool, true, false, cond, ◌&&◌, Option, Some, None, List, length, get_or, refl, sym, ap, ◌∙◌, arith, inl, inr, ◌⊎◌, subst, eq-eqb}
use Rattle.std.specs.Prelude.{slice_get, All, bit_and}
use Rattle.std.specs.Option.{option_map}
use Rattle.std.proofs.lemmas.Bool.{cases_Bool, cases_lt, cases_eq, and_from, or_cases, false≢true, eqb-true}
use Rattle.std.proofs.lemmas.Option.{same_Some, none-some, get_or_from_slice_get, slice_get_within}
use Rattle.rv_gate.specs.Word.{has}
use Rattle.rv_gate.proofs.LineSets.{has-line, has-lines, has-none, has-and, same_lines}
use Rattle.rv_net.specs.declared.op.Op.{Op}
use Rattle.rv_net.specs.declared.op.Op.TheVariants.{H, Ccx, Cswap}
use Rattle.rv_net.specs.Op.{OpFitsIn}
use Rattle.rv_fold.specs.Parities.{Parities, are_apart, direct, restart_set, same_parity, closure_steps, Parity}
use Rattle.rv_fold.specs.Folded.{Kept, phase_gate, parity_at, parities_at, restarted_at, PhaseGate}
use Rattle.rv_fold.specs.inside.Standing.{IsSince, AreSince, Begins, StartsAt}
use Rattle.rv_fold.proofs.Restarts.{closure_step-only, apart_none, restart_none}
use Rattle.rv_fold.proofs.Joining.{restarted_here, parity_here, kept_more}
use Rattle.rv_fold.proofs.Walking.{phase_direct, same_parity-eq, same_parity-refl}
use Rattle.rv_gate.proofs.Options.{option_cases}

-- ---- restarted lines are lines

closure_step_below : (n : ℕ) (parities : Parities) (set k l : ℕ) → has (closure_steps n parities set k) l ≡ true → (has set l ≡ true) ⊎ (l < n)
unfolding closure_steps
closure_step_below n parities set zero l on = inl on
closure_step_below n parities set (suc k) l on =
    elim (closure_step-only parities (closure_steps n parities set k) n l on) [ inl before ↦ closure_step_below n parities set k l before | inr p ↦ inr p.0 ]

on_line : (q n l : ℕ) → q < n → has (2 ^ q) l ≡ true → l < n
on_line q n l lt on = let e = eqb-true l q (sym (has-line q l) ∙ on) in omega arith

direct_below : (n : ℕ) (o : Op) → OpFitsIn o n → (l : ℕ) → has (direct o) l ≡ true → l < n
direct_below n (H q) w l on = on_line q n l w on
direct_below n (Ccx a b c) w l on = on_line c n l w.2 on
direct_below n (Cswap c a b) w l on =
    elim (or_cases _ _ (sym (has-lines a b l) ∙ on)) [ inl e ↦ (let q = eqb-true l a e in let h = w.1 in omega arith) | inr e ↦ (let q = eqb-true l b e in let h = w.2 in omega arith) ]
direct_below n o w l on = absurd (false≢true (sym (has-none l) ∙ on))

module _ (n : ℕ) (ops : List Op) where
  restarted_past : (k : ℕ) → slice_get ops k ≡ None → restarted_at n ops k ≡ 0
  unfolding restarted_at
  restarted_past k e = rw (e, restarted_at) refl

  pub restarted_below : All (λ o. OpFitsIn o n) ops → (k l : ℕ) → has (restarted_at n ops k) l ≡ true → l < n
  restarted_below fit k l on =
      elim (option_cases (slice_get ops k)) [
        | inl e ↦ absurd (false≢true (sym (has-none l) ∙ ap (λ s. has s l) (sym (restarted_past k e)) ∙ on))
        | inr p ↦
            (let fits : OpFitsIn p.0 n = subst (λ o. OpFitsIn o n) (get_or_from_slice_get ops k p.0 p.0 p.1) (fit k p.0 (slice_get_within ops k p.0 p.1)) in
            elim (closure_step_below n (parities_at n ops k) (direct p.0) n l (ap (λ s. has s l) (sym (restarted_here n ops k p.0 p.1)) ∙ on)) [
              | inl at ↦ direct_below n p.0 fits l at
              | inr lt ↦ lt
            ])
      ]

  -- a phase restarts nothing
  pub phase_quiet : (m : ℕ) (f : Parity) → parity_at n ops m ≡ Some f → restarted_at n ops m ≡ 0
  phase_quiet m f e =
      elim (option_cases (slice_get ops m)) [
        | inl past ↦ restarted_past m past
        | inr p ↦
            (elim (option_cases (phase_gate p.0)) [
              | inl other ↦ absurd (none-some f (sym (parity_here n ops m p.0 p.1 ∙ ap (option_map (λ (q : PhaseGate). parities_at n ops m q.line)) other) ∙ e))
              | inr q ↦ (restarted_here n ops m p.0 p.1 ∙ ap (restart_set n (parities_at n ops m)) (phase_direct p.0 q.0 q.1) ∙ restart_none n (parities_at n ops m) n)
            ])
      ]

  pub phase_apart : (m : ℕ) (f : Parity) → parity_at n ops m ≡ Some f → (s : ℕ) → are_apart s (restarted_at n ops m) ≡ true
  phase_apart m f e s = ap (are_apart s) (phase_quiet m f e) ∙ apart_none s

  -- ---- when lines were restarted

  pub since_more : (m : ℕ) (sinces news : List ℕ) (lines : ℕ) → restarted_at n ops m ≡ lines → length news ≡ length sinces → ((line : ℕ) → line < length sinces → get_or news line 0 ≡ cond (has lines line) (m + 1) (get_or sinces line 0)) → AreSince n ops m sinces → AreSince n ops (m + 1) news
  since_more m sinces news lines here len each h = record {
    count = len ∙ h.count;
    each = λ line lt. subst (λ s. IsSince n ops (m + 1) line s) (sym (each line (let c = h.count in omega arith))) (at line (has lines line) refl (h.each line lt));
  }
    where
      at : (line : ℕ) (b : Bool) → has lines line ≡ b → {s : ℕ} → IsSince n ops m line s → IsSince n ops (m + 1) line (cond b (m + 1) s)
      at line true on {s} i = record {
        early = omega arith;
        none_later = λ k a c. absurd (omega arith);
        last = λ k e. let q : k ≡ m = omega arith in ap (λ j. has (restarted_at n ops j) line) q ∙ ap (λ t. has t line) here ∙ on;
      }
      at line false off {s} i = record {
        early = let e = i.early in omega arith;
        none_later = λ k a c. elim (cases_eq k m) [ inl q ↦ (ap (λ j. has (restarted_at n ops j) line) q ∙ ap (λ t. has t line) here ∙ off) | inr d ↦ i.none_later k a (omega arith) ];
        last = i.last;
      }

  -- a set is kept if none of its lines was restarted
  pub kept_if : All (λ o. OpFitsIn o n) ops → (m : ℕ) (sinces : List ℕ) (set from : ℕ) → AreSince n ops m sinces → ((line : ℕ) → line < length sinces → has set line ≡ true → get_or sinces line 0 ≤ from) → Kept n ops set from m
  kept_if fit m sinces set from h all k above below =
      eq-eqb _ 0 (same_lines (bit_and set (restarted_at n ops k)) 0 (λ line. has-and set (restarted_at n ops k) line ∙ at line (has set line) (has (restarted_at n ops k) line) refl refl ∙ sym (has-none line)))
    where
      at : (line : ℕ) (a b : Bool) → has set line ≡ a → has (restarted_at n ops k) line ≡ b → (a && b) ≡ false
      at line true true ea eb =
          let lt = restarted_below fit k line eb in
          let c = h.count in
          let le = all line (omega arith) ea in
          absurd (false≢true (sym ((h.each line lt).none_later k (omega arith) below) ∙ eb))
      at line true false ea eb = refl
      at line false b ea eb = refl

  pub if_kept : (m : ℕ) (sinces : List ℕ) (set from : ℕ) → AreSince n ops m sinces → Kept n ops set from m → (line : ℕ) → line < length sinces → has set line ≡ true → get_or sinces line 0 ≤ from
  if_kept m sinces set from h kept line lt on = go (get_or sinces line 0) (h.each line (let c = h.count in omega arith))
    where
      go : (s : ℕ) → IsSince n ops m line s → s ≤ from
      go zero i = omega arith
      go (suc k) i =
          elim (cases_lt k from) [
            | inl l ↦ omega arith
            | inr above ↦
                (let e = i.early in
                let both : (has set line && has (restarted_at n ops k) line) ≡ true = and_from _ _ on (i.last k refl) in
                absurd (false≢true (sym (sym (has-and set (restarted_at n ops k) line) ∙ ap (λ s. has s line) (eqb-true _ _ (kept k above (omega arith))) ∙ has-none line) ∙ both)))
          ]

  -- ---- where classes begin

  -- no phase of the parity stands at the place
  pub begins_other : (m : ℕ) (f : Parity) (first : Option ℕ) → (parity_at n ops m ≡ Some f → ⊥) → Begins n ops m f first → Begins n ops (suc m) f first
  begins_other m f None other h =
      λ j lt on kept.
      elim (cases_eq j m) [ inl e ↦ other (ap (parity_at n ops) (sym e) ∙ on) | inr d ↦ h j (omega arith) on (λ k a b. kept k a (omega arith)) ]
  begins_other m f (Some first) other h = (
    let l = h.0 in omega arith,
    h.1,
    λ j lt on kept.
        elim (cases_eq j m) [
          | inl e ↦ absurd (other (ap (parity_at n ops) (sym e) ∙ on))
          | inr d ↦ (let p = h.2 j (omega arith) on (λ k a b. kept k a (omega arith)) in (p.0, kept_more n ops f.lines first m p.1 (kept m (omega arith) (omega arith))))
        ],
  )

  -- one of a class that has begun
  pub begins_old : (m : ℕ) (f : Parity) (first : ℕ) → parity_at n ops m ≡ Some f → Begins n ops m f (Some first) → Kept n ops f.lines first m → Begins n ops (suc m) f (Some first)
  begins_old m f first here h kept = (
    let l = h.0 in omega arith,
    h.1,
    λ j lt on k. (
      elim (cases_eq j m) [ inl e ↦ (let l = h.0 in omega arith) | inr d ↦ (h.2 j (omega arith) on (λ i a b. k i a (omega arith))).0 ],
      kept_more n ops f.lines first m kept (phase_apart m f here f.lines),
    ),
  )

  -- no phase before the place is joinable to the one there
  abbrev pub IsFirst : ℕ → Parity → Type 0
  IsFirst m f = (j : ℕ) → j < m → parity_at n ops j ≡ Some f → Kept n ops f.lines j m → ⊥

  pub begins_new : (m : ℕ) (f : Parity) → parity_at n ops m ≡ Some f → IsFirst m f → Begins n ops (suc m) f (Some m)
  begins_new m f here h = (
    omega arith,
    here,
    λ j lt on k.
        elim (cases_eq j m) [
          | inl e ↦ (omega arith, kept_more n ops f.lines m m (λ i a b. absurd (omega arith)) (phase_apart m f here f.lines))
          | inr d ↦ absurd (h j (omega arith) on (λ i a b. k i a (omega arith)))
        ],
  )

  pub first_of_broken : (m : ℕ) (f : Parity) (first : ℕ) → Begins n ops m f (Some first) → (Kept n ops f.lines first m → ⊥) → IsFirst m f
  first_of_broken m f first h broken j lt on kept = broken (h.2 j lt on kept).1

  pub starts_old : (m : ℕ) (f : Parity) (first : ℕ) → Begins n ops m f (Some first) → Kept n ops f.lines first m → StartsAt n ops m f first
  starts_old m f first h kept = record {
    early = let l = h.0 in omega arith;
    on = h.1;
    kept = kept;
    none_earlier = λ j lt on k. (h.2 j lt on k).0;
  }

  pub starts_new : (m : ℕ) (f : Parity) → parity_at n ops m ≡ Some f → IsFirst m f → StartsAt n ops m f m
  starts_new m f here h = record {
    early = omega arith;
    on = here;
    kept = λ k a b. absurd (omega arith);
    none_earlier = λ j lt on k. absurd (h j lt on k);
  }

-- ---- one phase gate more

module _ (n : ℕ) (ops : List Op) (m : ℕ) (parity : Parity) (here : parity_at n ops m ≡ Some parity) (fit : All (λ o. OpFitsIn o n) ops) where
  abbrev pub IsUnbroken : List ℕ → ℕ → Type 0
  IsUnbroken sinces first = (line : ℕ) → line < length sinces → has parity.lines line ≡ true → get_or sinces line 0 ≤ first

  pub since_phase : (sinces : List ℕ) → AreSince n ops m sinces → AreSince n ops (m + 1) sinces
  since_phase sinces h = since_more n ops m sinces sinces 0 (phase_quiet n ops m parity here) refl (λ line lt. ap (λ b. cond b (m + 1) (get_or sinces line 0)) (sym (has-none line))) h

  next : (f : Parity) (o : Option ℕ) → Begins n ops (suc m) f o → Begins n ops (m + 1) f o
  next f o h = subst (λ j. Begins n ops j f o) (let q : suc m ≡ m + 1 = omega arith in q) h

  other_parity : (f : Parity) → same_parity parity f ≡ false → parity_at n ops m ≡ Some f → ⊥
  other_parity f e on = false≢true (sym e ∙ ap (λ g. same_parity parity g) (same_Some _ _ (sym on ∙ here)) ∙ same_parity-refl parity)

  pub begins_with_old : (firsts : Parity → Option ℕ) (sinces : List ℕ) (first : ℕ) → AreSince n ops m sinces → ((f : Parity) → Begins n ops m f (firsts f)) → firsts parity ≡ Some first → IsUnbroken sinces first → StartsAt n ops m parity first × ((f : Parity) → Begins n ops (m + 1) f (firsts f))
  begins_with_old firsts sinces first since begins found unbroken =
      let at : Begins n ops m parity (Some first) = subst (λ o. Begins n ops m parity o) found (begins parity) in
      let kept : Kept n ops parity.lines first m = kept_if n ops fit m sinces parity.lines first since unbroken in (
        starts_old n ops m parity first at kept,
        λ f.
            elim (cases_Bool (same_parity parity f)) [
              | inl e ↦
                  (let q : parity ≡ f = same_parity-eq parity f e in
                  subst (λ g. Begins n ops (m + 1) g (firsts g)) q (subst (λ o. Begins n ops (m + 1) parity o) (sym found) (next parity (Some first) (begins_old n ops m parity first here at kept))))
              | inr e ↦ next f (firsts f) (begins_other n ops m f (firsts f) (other_parity f e) (begins f))
            ],
      )

  pub begins_with_new : (firsts news : Parity → Option ℕ) (sinces : List ℕ) → AreSince n ops m sinces → ((f : Parity) → Begins n ops m f (firsts f)) → ((firsts parity ≡ None) ⊎ ((first : ℕ) × (firsts parity ≡ Some first) × (IsUnbroken sinces first → ⊥))) → ((f : Parity) → news f ≡ cond (same_parity parity f) (Some m) (firsts f)) → StartsAt n ops m parity m × ((f : Parity) → Begins n ops (m + 1) f (news f))
  begins_with_new firsts news sinces since begins found are =
      let is_first : IsFirst n ops m parity =
      elim found [
        | inl none ↦ subst (λ o. Begins n ops m parity o) none (begins parity)
        | inr p ↦ first_of_broken n ops m parity p.0 (subst (λ o. Begins n ops m parity o) p.1 (begins parity)) (λ kept. p.2 (if_kept n ops m sinces parity.lines p.0 since kept))
      ] in (
        starts_new n ops m parity here is_first,
        λ f.
            elim (cases_Bool (same_parity parity f)) [
              | inl e ↦
                  (let q : parity ≡ f = same_parity-eq parity f e in
                  let is : news f ≡ Some m = are f ∙ ap (λ b. cond b (Some m) (firsts f)) e in
                  subst (λ o. Begins n ops (m + 1) f o) (sym is) (subst (λ g. Begins n ops (m + 1) g (Some m)) q (next parity (Some m) (begins_new n ops m parity here is_first))))
              | inr e ↦
                  (let is : news f ≡ firsts f = are f ∙ ap (λ b. cond b (Some m) (firsts f)) e in
                  subst (λ o. Begins n ops (m + 1) f o) (sym is) (next f (firsts f) (begins_other n ops m f (firsts f) (other_parity f e) (begins f))))
            ],
      )
