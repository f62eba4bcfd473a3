-- Joinable phases are an equivalence, and to fold them by classes is to walk.
use Rattle.rv_gate.proofs.Bits.{same_bool}
use Rattle.std.proofs.Common.{◌≡◌, ℕ, zero, suc, ◌+◌, ◌%◌, ◌<◌, true, false, cond, not, Option, Some, None, List, [], ◌∷◌, ◌++◌, length, refl, sym, ap, ap₂, ◌∙◌, arith, inl, inr}
use Rattle.std.specs.Prelude.{slice_get, IsSome}
use Rattle.std.specs.Option.{option_map}
use Rattle.std.proofs.lemmas.Bool.{cases_Bool, cases_lt, cases_eq, and_parts, and_from, or_left, or_right, or_cases, lt-ltb, false≢true, not_from_true, not_from_false, ltb-true}
use Rattle.std.proofs.lemmas.Option.{same_Some, none-some}
use Rattle.rv_gate.proofs.AllBelow.{all_below-at, all_below-from, all_below-fails}
use Rattle.rv_net.specs.declared.op.Op.{Op}
use Rattle.rv_fold.specs.Parities.{alone, parities_after, are_apart, restart_set, same_parity, Parity}
use Rattle.rv_fold.specs.Folded.{Kept, phase_gate, phase_ops, exponent_of, parities_at, restarted_at, phase_gate_at, parity_at, is_kept, has_parity, joins, joinable, IsEquivalence, sum_below, is_first, class_exponent, part, parts, folded, PhaseGate}
use Rattle.rv_fold.proofs.Restarts.{apart_none, restart_none}
use Rattle.rv_fold.proofs.Walking.{Seen, at_none, only, none, joined, survivors, restarts, owed, walked, exponents, total, owed-none, owed-some, walked-none, walked-seen, walked-new, same_parity-eq, same_parity-refl, phase_after, phase_direct}
use Rattle.rv_gate.proofs.Options.{option_cases}

-- ---- one operation at its place

module _ (n : ℕ) (ops : List Op) (m : ℕ) (o : Op) (at : slice_get ops m ≡ Some o) where
  pub parities_next : parities_at n ops (suc m) ≡ parities_after n o (parities_at n ops m)
  unfolding parities_at
  parities_next = rw (at, parities_at) refl

  pub restarted_here : restarted_at n ops m ≡ restarts n o (parities_at n ops m)
  unfolding restarted_at
  restarted_here = rw (at, restarted_at) refl

  pub phase_here : phase_gate_at ops m ≡ phase_gate o
  phase_here = rw at refl

  pub parity_here : parity_at n ops m ≡ option_map (λ (p : PhaseGate). parities_at n ops m p.line) (phase_gate o)
  parity_here = rw at refl

  pub no_parity_here : phase_gate o ≡ None → parity_at n ops m ≡ None
  no_parity_here e = parity_here ∙ rw e refl

  pub some_parity_here : (p : PhaseGate) → phase_gate o ≡ Some p → parity_at n ops m ≡ Some (parities_at n ops m p.line)
  some_parity_here p e = parity_here ∙ rw e refl

  pub phase_parities_next : (p : PhaseGate) → phase_gate o ≡ Some p → parities_at n ops (suc m) ≡ parities_at n ops m
  phase_parities_next p e = parities_next ∙ phase_after n o p (parities_at n ops m) e

  -- a phase restarts nothing
  pub phase_restarts : (p : PhaseGate) → phase_gate o ≡ Some p → (s : ℕ) → are_apart s (restarted_at n ops m) ≡ true
  phase_restarts p e s = ap (are_apart s) (restarted_here ∙ ap (restart_set n (parities_at n ops m)) (phase_direct o p e) ∙ restart_none n (parities_at n ops m) n) ∙ apart_none s

-- ---- joinable phases

module _ (n : ℕ) (ops : List Op) where
  pub kept_at : (s from to : ℕ) → is_kept n ops s from to ≡ true → Kept n ops s from to
  unfolding is_kept
  kept_at s from to h k above below =
      elim (or_cases _ _ (all_below-at _ to k h below)) [ inl l ↦ (let e = ltb-true k from l in absurd (omega arith)) | inr r ↦ r ]

  pub kept_from : (s from to : ℕ) → Kept n ops s from to → is_kept n ops s from to ≡ true
  unfolding is_kept
  kept_from s from to h =
      all_below-from _ to (λ k below. elim (cases_lt k from) [ inl l ↦ or_left _ _ (lt-ltb k from l) | inr above ↦ or_right _ _ (h k above below) ])

  -- phases of one parity, with no restart of its set between them
  pub record Joined (i j : ℕ) : Type 0 where
    pub parity : Parity
    pub first : parity_at n ops i ≡ Some parity
    pub second : parity_at n ops j ≡ Some parity
    pub forward : Kept n ops parity.lines i j
    pub backward : Kept n ops parity.lines j i

  has_parity-eq : (o : Option Parity) (f : Parity) → has_parity o f ≡ true → o ≡ Some f
  has_parity-eq None f e = absurd (false≢true e)
  has_parity-eq (Some g) f e = ap Some (same_parity-eq g f e)

  eq-has_parity : (o : Option Parity) (f : Parity) → o ≡ Some f → has_parity o f ≡ true
  eq-has_parity o f e = ap (λ p. has_parity p f) e ∙ same_parity-refl f

  pub joined_at : (i j : ℕ) → joinable n ops i j ≡ true → Joined i j
  joined_at i j h =
      elim (option_cases (parity_at n ops i)) [
        | inl e ↦ absurd (false≢true (sym (ap (λ p. joins n ops p i j) e) ∙ h))
        | inr p ↦
            (let parts = and_parts _ _ (sym (ap (λ q. joins n ops q i j) p.1) ∙ h) in
            let early = and_parts _ _ parts.0 in
            record {
              parity = p.0;
              first = p.1;
              second = has_parity-eq (parity_at n ops j) p.0 early.0;
              forward = kept_at p.0.lines i j early.1;
              backward = kept_at p.0.lines j i parts.1;
            })
      ]

  pub joined_from : (i j : ℕ) → Joined i j → joinable n ops i j ≡ true
  joined_from i j h =
      ap (λ p. joins n ops p i j) h.first
      ∙ and_from _ _ (and_from _ _ (eq-has_parity (parity_at n ops j) h.parity h.second) (kept_from h.parity.lines i j h.forward)) (kept_from h.parity.lines j i h.backward)

  pub joined_itself : (i : ℕ) (f : Parity) → parity_at n ops i ≡ Some f → Joined i i
  joined_itself i f e = record {
    parity = f;
    first = e;
    second = e;
    forward = λ k above below. absurd (omega arith);
    backward = λ k above below. absurd (omega arith);
  }

  pub joined_back : (i j : ℕ) → Joined i j → Joined j i
  joined_back i j h = record { parity = h.parity; first = h.second; second = h.first; forward = h.backward; backward = h.forward }

  pub joined_through : (i j k : ℕ) → Joined i j → Joined j k → Joined i k
  joined_through i j k h g =
      let same : g.parity ≡ h.parity = same_Some _ _ (sym g.first ∙ h.second) in
      record {
        parity = h.parity;
        first = h.first;
        second = g.second ∙ ap Some same;
        forward = λ x above below.
            elim (cases_lt x j) [
              | inl l ↦ h.forward x above l
              | inr r ↦ (ap (λ (f : Parity). are_apart f.lines (restarted_at n ops x)) (sym same) ∙ g.forward x r below)
            ];
        backward = λ x above below.
            elim (cases_lt x j) [
              | inl l ↦ (ap (λ (f : Parity). are_apart f.lines (restarted_at n ops x)) (sym same) ∙ g.backward x above l)
              | inr r ↦ h.backward x r below
            ];
      }

  -- ---- the walk

  -- the operations from a place on
  abbrev pub IsRest : ℕ → List Op → Type 0
  IsRest m rest = (k : ℕ) → slice_get rest k ≡ slice_get ops (k + m)

  pub rest_head : (m : ℕ) (o : Op) (rest : List Op) → IsRest m (o ∷ rest) → slice_get ops m ≡ Some o
  rest_head m o rest h = ap (slice_get ops) (let e : m ≡ 0 + m = omega arith in e) ∙ sym (h 0)

  pub rest_tail : (m : ℕ) (o : Op) (rest : List Op) → IsRest m (o ∷ rest) → IsRest (suc m) rest
  rest_tail m o rest h k = h (suc k) ∙ ap (slice_get ops) (let e : suc k + m ≡ k + suc m = omega arith in e)

  pub kept_more : (s from to : ℕ) → Kept n ops s from to → are_apart s (restarted_at n ops to) ≡ true → Kept n ops s from (suc to)
  kept_more s from to h here k above below =
      elim (cases_eq k to) [ inl e ↦ ap (λ j. are_apart s (restarted_at n ops j)) e ∙ here | inr d ↦ h k above (omega arith) ]

  kept_less : (s from to : ℕ) → Kept n ops s from (suc to) → Kept n ops s from to
  kept_less s from to h k above below = h k above (omega arith)

  -- a phase before the place has the parity, which is kept up to it
  abbrev pub SeenAt : ℕ → Parity → Type 0
  SeenAt m f = (j : ℕ) × (j < m) × (parity_at n ops j ≡ Some f) × Kept n ops f.lines j m

  pub record Shows (m : ℕ) (seen : Seen) : Type 0 where
    pub sound : (f : Parity) → seen f ≡ true → SeenAt m f
    pub complete : (f : Parity) → SeenAt m f → seen f ≡ true

  shows_none : Shows 0 none
  shows_none = record { sound = λ f e. absurd (false≢true e); complete = λ f s. let lt = s.1 in absurd (omega arith) }

  shows_restart : (m : ℕ) (seen : Seen) (o : Op) → slice_get ops m ≡ Some o → phase_gate o ≡ None → Shows m seen → Shows (suc m) (survivors (restarts n o (parities_at n ops m)) seen)
  shows_restart m seen o at e h =
      let r = restarted_here n ops m o at in
      record {
        sound = λ f on.
            let parts = and_parts _ _ on in
            let s = h.sound f parts.0 in
            let lt = s.1 in
            (s.0, omega arith, s.2, kept_more f.lines s.0 m s.3 (ap (are_apart f.lines) r ∙ parts.1));
        complete = λ f s.
            let lt = s.1 in
            elim (cases_eq s.0 m) [
              | inl same ↦ absurd (none-some f (sym (no_parity_here n ops m o at e) ∙ ap (parity_at n ops) (sym same) ∙ s.2))
              | inr other ↦ and_from _ _ (h.complete f (s.0, omega arith, s.2, kept_less f.lines s.0 m s.3)) (ap (are_apart f.lines) (sym r) ∙ s.3 m (omega arith) (omega arith))
            ];
      }

  shows_phase : (m : ℕ) (seen : Seen) (o : Op) (p : PhaseGate) → slice_get ops m ≡ Some o → phase_gate o ≡ Some p → Shows m seen → Shows (suc m) (joined (only (parities_at n ops m p.line)) seen)
  shows_phase m seen o p at e h =
      let here = some_parity_here n ops m o at p e in
      record {
        sound = λ f on.
            elim (or_cases _ _ on) [
              | inl same ↦ (m, omega arith, here ∙ ap Some (same_parity-eq (parities_at n ops m p.line) f same), λ k above below. let q : k ≡ m = omega arith in ap (λ j. are_apart f.lines (restarted_at n ops j)) q ∙ phase_restarts n ops m o at p e f.lines)
              | inr old ↦ (let s = h.sound f old in let lt = s.1 in (s.0, omega arith, s.2, kept_more f.lines s.0 m s.3 (phase_restarts n ops m o at p e f.lines)))
            ];
        complete = λ f s.
            let lt = s.1 in
            elim (cases_eq s.0 m) [
              | inl same ↦
                  (let q : parities_at n ops m p.line ≡ f = same_Some _ _ (sym here ∙ ap (parity_at n ops) (sym same) ∙ s.2) in
                  or_left _ _ (ap (same_parity (parities_at n ops m p.line)) (sym q) ∙ same_parity-refl (parities_at n ops m p.line)))
              | inr other ↦ or_right _ _ (h.complete f (s.0, omega arith, s.2, kept_less f.lines s.0 m s.3))
            ];
      }

  shows_old : (m : ℕ) (seen : Seen) (o : Op) (p : PhaseGate) → slice_get ops m ≡ Some o → phase_gate o ≡ Some p → seen (parities_at n ops m p.line) ≡ true → Shows m seen → Shows (suc m) seen
  shows_old m seen o p at e old h =
      let both = shows_phase m seen o p at e h in
      record {
        sound = λ f on. both.sound f (or_right _ _ on);
        complete = λ f s.
            elim (or_cases _ _ (both.complete f s)) [
              | inl same ↦ ap seen (sym (same_parity-eq (parities_at n ops m p.line) f same)) ∙ old
              | inr on ↦ on
            ];
      }

  -- a phase is the first of its class if its parity is not seen
  first_if : (m : ℕ) (seen : Seen) (f : Parity) → parity_at n ops m ≡ Some f → Shows m seen → is_first n ops m ≡ not (seen f)
  unfolding is_first
  first_if m seen f here h =
      elim (cases_Bool (seen f)) [
        | inl old ↦
            (let s = h.sound f old in
            all_below-fails _ m s.0 s.1 (not_from_true _ (joined_from s.0 m (record { parity = f; first = s.2; second = here; forward = s.3; backward = λ k above below. let lt = s.1 in absurd (omega arith) })))
            ∙ sym (not_from_true _ old))
        | inr new ↦
            (all_below-from _ m (λ j lt.
            elim (cases_Bool (joinable n ops j m)) [
              | inl on ↦
                  (let g = joined_at j m on in
                  let q : g.parity ≡ f = same_Some _ _ (sym g.second ∙ here) in
                  absurd (false≢true (sym new ∙ h.complete f (j, lt, g.first ∙ ap Some q, λ k above below. ap (λ (z : Parity). are_apart z.lines (restarted_at n ops k)) (sym q) ∙ g.forward k above below))))
              | inr off ↦ not_from_false _ off
            ])
            ∙ sym (not_from_false _ new))
      ]

  -- ---- the sums of the classes

  sum_from : (ℕ → ℕ) → ℕ → ℕ → ℕ
  sum_from g m zero = 0
  sum_from g m (suc k) = g m + sum_from g (suc m) k

  sum_split : (g : ℕ → ℕ) (m k : ℕ) → sum_below g (m + k) ≡ sum_below g m + sum_from g m k
  unfolding sum_below sum_from
  sum_split g m zero = ap (sum_below g) (let e : m + 0 ≡ m = omega arith in e) ∙ (let e : sum_below g m ≡ sum_below g m + 0 = omega arith in e)
  sum_split g m (suc k) =
      let ih = sum_split g (suc m) k in
      ap (sum_below g) (let e : m + suc k ≡ suc m + k = omega arith in e) ∙ omega (arith, ih)

  pub sum_none : (g : ℕ → ℕ) (m : ℕ) → ((j : ℕ) → j < m → g j ≡ 0) → sum_below g m ≡ 0
  unfolding sum_below
  sum_none g zero h = refl
  sum_none g (suc m) h = let ih = sum_none g m (λ j l. h j (omega arith)) in let e = h m (omega arith) in omega arith

  abbrev pub worth_from : ℕ → ℕ → ℕ
  worth_from m other = cond (joinable n ops m other) (exponent_of (phase_gate_at ops other)) 0

  -- the parity, as long as it is kept
  record Follows (m : ℕ) (f : Parity) (p : ℕ) (s : Seen) : Type 0 where
    sound : (g : Parity) → s g ≡ true → (g ≡ f) × Kept n ops f.lines m p
    complete : Kept n ops f.lines m p → s f ≡ true

  tail_sum : (m : ℕ) (f : Parity) → parity_at n ops m ≡ Some f → (rest : List Op) (p : ℕ) (s : Seen) → m < p → IsRest p rest → Follows m f p s → sum_from (worth_from m) p (length rest) ≡ owed exponents n s (parities_at n ops p) rest
  unfolding sum_from owed
  tail_sum m f here [] p s lt is h = refl
  tail_sum m f here (o ∷ rest) p s lt is h =
      let at = rest_head p o rest is in
      elim (option_cases (phase_gate o)) [
        | inl e ↦
            (let r = restarted_here n ops p o at in
            let zero_here : worth_from m p ≡ 0 = ap (λ c. cond (joinable n ops m p) (exponent_of c) 0) (phase_here n ops p o at ∙ e) ∙ at_none (joinable n ops m p) in
            let f' : Follows m f (suc p) (survivors (restarts n o (parities_at n ops p)) s) =
            record {
              sound = λ g on. let parts = and_parts _ _ on in let q = h.sound g parts.0 in (q.0, kept_more f.lines m p q.1 (ap (are_apart f.lines) r ∙ ap (λ (z : Parity). are_apart z.lines (restarts n o (parities_at n ops p))) (sym q.0) ∙ parts.1));
              complete = λ k. and_from _ _ (h.complete (kept_less f.lines m p k)) (ap (are_apart f.lines) (sym r) ∙ k p (omega arith) (omega arith));
            } in
            ap₂ (λ u v. u + v) zero_here (tail_sum m f here rest (suc p) (survivors (restarts n o (parities_at n ops p)) s) (omega arith) (rest_tail p o rest is) f')
            ∙ (let z : (w : ℕ) → 0 + w ≡ w = λ (w : ℕ). omega arith in z _)
            ∙ ap (λ F. owed exponents n (survivors (restarts n o (parities_at n ops p)) s) F rest) (parities_next n ops p o at)
            ∙ sym (owed-none exponents n s (parities_at n ops p) o rest e))
        | inr q ↦
            (let there = some_parity_here n ops p o at q.0 q.1 in
            let g : Parity = parities_at n ops p q.0.line in
            let f' : Follows m f (suc p) s =
            record {
              sound = λ z on. let w = h.sound z on in (w.0, kept_more f.lines m p w.1 (phase_restarts n ops p o at q.0 q.1 f.lines));
              complete = λ k. h.complete (kept_less f.lines m p k);
            } in
            let same : joinable n ops m p ≡ s g =
            same_bool _ _
            (λ on. let j = joined_at m p on in let a : j.parity ≡ f = same_Some _ _ (sym j.first ∙ here) in let b : g ≡ f = same_Some _ _ (sym there ∙ j.second) ∙ a in
            ap s b ∙ h.complete (λ k above below. ap (λ (z : Parity). are_apart z.lines (restarted_at n ops k)) (sym a) ∙ j.forward k above below))
            (λ on. let w = h.sound g on in joined_from m p (record { parity = f; first = here; second = there ∙ ap Some w.0; forward = w.1; backward = λ k above below. absurd (omega arith) })) in
            ap₂ (λ u v. u + v)
            (ap₂ (λ b c. cond b (exponent_of c) 0) same (phase_here n ops p o at))
            (tail_sum m f here rest (suc p) s (omega arith) (rest_tail p o rest is) f' ∙ ap (λ F. owed exponents n s F rest) (phase_parities_next n ops p o at q.0 q.1))
            ∙ sym (owed-some exponents n s (parities_at n ops p) o rest q.0 q.1))
      ]

  -- ---- the whole

  part_none : (m : ℕ) (o : Op) → phase_gate o ≡ None → part n ops m o ≡ o ∷ []
  part_none m o e = rw (e, part) refl

  part_some : (m : ℕ) (o : Op) (p : PhaseGate) → phase_gate o ≡ Some p → part n ops m o ≡ cond (is_first n ops m) (phase_ops p.line (class_exponent n ops m % 8)) []
  part_some m o p e = rw (e, part) refl

  -- the sum of a class is that of its first phase, and what the rest has of the parity
  class_sum : (m : ℕ) (seen : Seen) (o : Op) (p : PhaseGate) (rest : List Op) → IsRest m (o ∷ rest) → length ops ≡ m + suc (length rest) → phase_gate o ≡ Some p → Shows m seen → seen (parities_at n ops m p.line) ≡ false → class_exponent n ops m ≡ p.exponent + total n (parities_at n ops m p.line) (parities_at n ops m) rest
  unfolding class_exponent sum_from
  class_sum m seen o p rest is len e h new =
      let at = rest_head m o rest is in
      let here = some_parity_here n ops m o at p e in
      let f : Parity = parities_at n ops m p.line in
      let before : sum_below (worth_from m) m ≡ 0 =
      sum_none (worth_from m) m (λ j lt.
      elim (cases_Bool (joinable n ops m j)) [
        | inl on ↦
            (let g = joined_at m j on in
            let q : g.parity ≡ f = same_Some _ _ (sym g.first ∙ here) in
            absurd (false≢true (sym new ∙ h.complete f (j, lt, g.second ∙ ap Some q, λ k above below. ap (λ (z : Parity). are_apart z.lines (restarted_at n ops k)) (sym q) ∙ g.backward k above below))))
        | inr off ↦ ap (λ b. cond b (exponent_of (phase_gate_at ops j)) 0) off
      ]) in
      let itself : worth_from m m ≡ p.exponent =
      ap₂ (λ b c. cond b (exponent_of c) 0) (joined_from m m (joined_itself m f here)) (phase_here n ops m o at ∙ e) in
      let follows : Follows m f (suc m) (only f) =
      record {
        sound = λ g on. (sym (same_parity-eq f g on), λ k above below. let q : k ≡ m = omega arith in ap (λ j. are_apart f.lines (restarted_at n ops j)) q ∙ phase_restarts n ops m o at p e f.lines);
        complete = λ k. same_parity-refl f;
      } in
      let tail = tail_sum m f here rest (suc m) (only f) (omega arith) (rest_tail m o rest is) follows ∙ ap (λ F. owed exponents n (only f) F rest) (phase_parities_next n ops m o at p e) in
      ap (sum_below (worth_from m)) len ∙ sum_split (worth_from m) m (suc (length rest)) ∙ omega (arith, before, itself, tail)

  parts_walked : (rest : List Op) (m : ℕ) (seen : Seen) → IsRest m rest → length ops ≡ m + length rest → Shows m seen → parts (part n ops) m rest ≡ walked n seen (parities_at n ops m) rest
  unfolding parts walked
  parts_walked [] m seen is len h = refl
  parts_walked (o ∷ rest) m seen is len h =
      let at = rest_head m o rest is in
      let parities = parities_at n ops m in
      elim (option_cases (phase_gate o)) [
        | inl e ↦
            (ap₂ (λ a b. a ++ b) (part_none m o e) (parts_walked rest (suc m) (survivors (restarts n o parities) seen) (rest_tail m o rest is) (omega arith) (shows_restart m seen o at e h))
            ∙ ap (λ F. o ∷ walked n (survivors (restarts n o parities) seen) F rest) (parities_next n ops m o at)
            ∙ sym (walked-none n seen parities o rest e))
        | inr q ↦
            (let p : PhaseGate = q.0 in
            let f : Parity = parities p.line in
            let here = some_parity_here n ops m o at p q.1 in
            elim (cases_Bool (seen f)) [
              | inl old ↦
                  (ap₂ (λ a b. a ++ b)
                  (part_some m o p q.1 ∙ ap (λ b. cond {A = List Op} b (phase_ops p.line (class_exponent n ops m % 8)) []) (first_if m seen f here h ∙ not_from_true _ old))
                  (parts_walked rest (suc m) seen (rest_tail m o rest is) (omega arith) (shows_old m seen o p at q.1 old h))
                  ∙ ap (λ F. walked n seen F rest) (phase_parities_next n ops m o at p q.1)
                  ∙ sym (walked-seen n seen parities o rest p q.1 old))
              | inr new ↦
                  (ap₂ (λ a b. a ++ b)
                  (part_some m o p q.1 ∙ ap₂ (λ b c. cond {A = List Op} b (phase_ops p.line (c % 8)) []) (first_if m seen f here h ∙ not_from_false _ new) (class_sum m seen o p rest is len q.1 h new))
                  (parts_walked rest (suc m) (joined (only f) seen) (rest_tail m o rest is) (omega arith) (shows_phase m seen o p at q.1 h) ∙ ap (λ F. walked n (joined (only f) seen) F rest) (phase_parities_next n ops m o at p q.1))
                  ∙ sym (walked-new n seen parities o rest p q.1 new))
            ])
      ]

  -- to fold by classes is to walk
  pub folded_walked : folded n ops ≡ walked n none alone ops
  unfolding folded parities_at
  folded_walked =
      parts_walked ops 0 none (λ k. ap (slice_get ops) (let e : k ≡ k + 0 = omega arith in e)) (let e : (a : ℕ) → a ≡ 0 + a = λ (a : ℕ). omega arith in e (length ops)) shows_none

-- ---- an equivalence

parity_of_phase : (n : ℕ) (ops : List Op) (i : ℕ) (o : Option PhaseGate) → phase_gate_at ops i ≡ o → IsSome o → (f : Parity) × (parity_at n ops i ≡ Some f)
parity_of_phase n ops i (Some p) e h = (parities_at n ops i p.line, ap (option_map (λ (q : PhaseGate). parities_at n ops i q.line)) e)
parity_of_phase n ops i None e h = absurd (false≢true h)

pub joinable_equivalence : (n : ℕ) (ops : List Op) → IsEquivalence n ops
joinable_equivalence n ops = record {
  itself = λ i h. let f = parity_of_phase n ops i (phase_gate_at ops i) refl h in joined_from n ops i i (joined_itself n ops i f.0 f.1);
  back = λ i j h. joined_from n ops j i (joined_back n ops i j (joined_at n ops i j h));
  through = λ i j k h g. joined_from n ops i k (joined_through n ops i j k (joined_at n ops i j h) (joined_at n ops j k g));
}
