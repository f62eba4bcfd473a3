-- The exponents at places, as the walk goes on.
use Rattle.std.proofs.Common.{◌≡◌, ℕ, zero, suc, ◌+◌, ◌%◌, ◌<◌, ◌≤◌, Bool, true, false, cond, Some, None, List, [], ◌∷◌, ◌++◌, length, get_or, set, refl, sym, ap, ap₂, ◌∙◌, arith, inl, inr, length-append, length-set, append-nil, append_assoc, take, get_or-set_same, get_or-set_other}
use Rattle.std.specs.Prelude.{slice_get}
use Rattle.std.proofs.Math.ListN.{get_or-append}
use Rattle.std.proofs.lemmas.List.{get_or_push, take_all}
use Rattle.std.proofs.lemmas.Bool.{cases_Bool, cases_lt, cases_eq, false≢true, not_from_true, not_from_false}
use Rattle.std.proofs.lemmas.Option.{same_Some, none-some}
use Rattle.rv_gate.proofs.AllBelow.{all_below-from, all_below-fails}
use Rattle.rv_net.specs.declared.op.Op.{Op}
use Rattle.rv_fold.specs.Folded.{phase_gate, phase_ops, exponent_of, phase_gate_at, parity_at, parities_at, joinable, joins, sum_below, is_first, class_exponent, part, parts, folded, PhaseGate}
use Rattle.rv_fold.specs.inside.Standing.{StartsAt, AreSums, sum_at, sent, sent_phase}
use Rattle.rv_fold.specs.Parities.{Parity}
use Rattle.rv_fold.proofs.Joining.{Joined, joined_at, joined_from, joined_back, joined_through, some_parity_here, no_parity_here, phase_here, worth_from, sum_none}
use Rattle.rv_fold.proofs.Walking.{at_none}
use Rattle.rv_gate.proofs.Options.{option_cases}

module _ (n : ℕ) (ops : List Op) where
  first_unless : (j : ℕ) → ((i : ℕ) → i < j → Joined n ops i j → ⊥) → is_first n ops j ≡ true
  unfolding is_first
  first_unless j none =
      all_below-from _ j (λ i lt. elim (cases_Bool (joinable n ops i j)) [ inl on ↦ absurd (none i lt (joined_at n ops i j on)) | inr off ↦ not_from_false _ off ])

  not_first : (i j : ℕ) → i < j → Joined n ops i j → is_first n ops j ≡ false
  unfolding is_first
  not_first i j lt h = all_below-fails _ j i lt (not_from_true _ (joined_from n ops i j h))

  -- one operation more is worth nothing to a class that it does not join
  same_sum : (m j : ℕ) → (is_first n ops j ≡ true → worth_from n ops j m ≡ 0) → sum_at n ops (suc m) j ≡ sum_at n ops m j
  unfolding sum_below
  same_sum m j h =
      elim (cases_Bool (is_first n ops j)) [
        | inl on ↦ (let z = h on in let e : sum_below (worth_from n ops j) m + worth_from n ops j m ≡ sum_below (worth_from n ops j) m = omega arith in ap (λ s. cond (is_first n ops j) (s % 8) 0) e)
        | inr off ↦ (ap (λ b. cond b (sum_below (worth_from n ops j) (suc m) % 8) 0) off ∙ sym (ap (λ b. cond b (sum_below (worth_from n ops j) m % 8) 0) off))
      ]

  pushed : (sums : List ℕ) (m j : ℕ) → length sums ≡ m → j < suc m → (j < m → get_or sums j 0 ≡ sum_at n ops (suc m) j) → (j ≡ m → sum_at n ops (suc m) j ≡ 0) → get_or (sums ++ 0 ∷ []) j 0 ≡ sum_at n ops (suc m) j
  pushed sums m j len lt old new =
      elim (cases_lt j m) [
        | inl l ↦ (get_or-append sums (0 ∷ []) 0 j (omega arith) ∙ old l)
        | inr r ↦ (let e : j ≡ m = omega arith in get_or_push sums 0 0 j (len ∙ sym e) ∙ sym (new e))
      ]

  module _ (m : ℕ) (o : Op) (at : slice_get ops m ≡ Some o) (sums : List ℕ) (are : AreSums n ops m sums) where
    pub sums_other : phase_gate o ≡ None → AreSums n ops (m + 1) (sums ++ 0 ∷ [])
    unfolding sum_below
    sums_other e = record {
      count = let a = length-append sums (0 ∷ []) in let b = are.count in omega arith;
      each = λ j lt.
          let q : suc m ≡ m + 1 = omega arith in
          pushed sums m j are.count (omega arith)
          (λ l. are.each j l ∙ sym (same_sum m j (λ on. worthless j)))
          (λ same. go j same)
          ∙ ap (λ k. sum_at n ops k j) q;
    }
      where
        worthless : (j : ℕ) → worth_from n ops j m ≡ 0
        worthless j = ap (λ c. cond (joinable n ops j m) (exponent_of c) 0) (phase_here n ops m o at ∙ e) ∙ at_none (joinable n ops j m)

        go : (j : ℕ) → j ≡ m → sum_at n ops (suc m) j ≡ 0
        go j same =
            let none : sum_below (worth_from n ops j) (suc m) ≡ 0 = sum_none n ops (worth_from n ops j) (suc m) (λ k lt. ap (λ c. cond (joins n ops c j k) (exponent_of (phase_gate_at ops k)) 0) (ap (parity_at n ops) same ∙ no_parity_here n ops m o at e)) in
            ap (λ s. cond (is_first n ops j) (s % 8) 0) none ∙ at_none (is_first n ops j)

    pub sums_phase : (p : PhaseGate) → phase_gate o ≡ Some p → (first : ℕ) → StartsAt n ops m (parities_at n ops m p.line) first → AreSums n ops (m + 1) (set (sums ++ 0 ∷ []) first ((get_or (sums ++ 0 ∷ []) first 0 + p.exponent) % 8))
    unfolding sum_below
    sums_phase p e first starts = record {
      count = let a = length-append sums (0 ∷ []) in let b = are.count in let c = length-set (sums ++ 0 ∷ []) first ((get_or (sums ++ 0 ∷ []) first 0 + p.exponent) % 8) in omega arith;
      each = λ j lt.
          let q : suc m ≡ m + 1 = omega arith in
          elim (cases_eq j first) [
            | inl same ↦
                (ap (λ k. get_or (set (sums ++ 0 ∷ []) first ((get_or (sums ++ 0 ∷ []) first 0 + p.exponent) % 8)) k 0) same
                ∙ get_or-set_same (sums ++ 0 ∷ []) first _ 0 (let a = length-append sums (0 ∷ []) in let b = are.count in let c = starts.early in omega arith)
                ∙ at_first
                ∙ ap (sum_at n ops (suc m)) (sym same))
            | inr other ↦
                (get_or-set_other (sums ++ 0 ∷ []) first j _ 0 other
                ∙ pushed sums m j are.count (omega arith)
                (λ l. are.each j l ∙ sym (same_sum m j (λ on. unjoined j other on)))
                (λ here. late j here other))
          ]
          ∙ ap (λ k. sum_at n ops k j) q;
    }
      where
        f : Parity
        f = parities_at n ops m p.line

        here : parity_at n ops m ≡ Some f
        here = some_parity_here n ops m o at p e

        joined : Joined n ops first m
        joined = record { parity = f; first = starts.on; second = here; forward = starts.kept; backward = λ k a b. absurd (let c = starts.early in omega arith) }

        -- a phase that is joinable to the one there stands no earlier
        earliest : (i : ℕ) → i < m → Joined n ops i m → first ≤ i
        earliest i lt j =
            let q : j.parity ≡ f = same_Some _ _ (sym j.second ∙ here) in
            starts.none_earlier i lt (j.first ∙ ap Some q) (λ k a b. ap (λ (z : Parity). Rattle.rv_fold.specs.Parities.are_apart z.lines (Rattle.rv_fold.specs.Folded.restarted_at n ops k)) (sym q) ∙ j.forward k a b)

        first_is : is_first n ops first ≡ true
        first_is = first_unless first (λ i lt j. let c = starts.early in let d = earliest i (omega arith) (joined_through n ops i first m j joined) in absurd (omega arith))

        worth : worth_from n ops first m ≡ p.exponent
        worth = ap₂ (λ b c. cond b (exponent_of c) 0) (joined_from n ops first m joined) (phase_here n ops m o at ∙ e)

        at_first : (get_or (sums ++ 0 ∷ []) first 0 + p.exponent) % 8 ≡ sum_at n ops (suc m) first
        at_first =
            let sum : ℕ = sum_below (worth_from n ops first) m in
            let after : sum_at n ops (suc m) first ≡ (sum + worth_from n ops first m) % 8 = ap (λ b. cond b ((sum + worth_from n ops first m) % 8) 0) first_is in
            let before : get_or (sums ++ 0 ∷ []) first 0 ≡ sum % 8 =
            elim (cases_lt first m) [
              | inl l ↦ (get_or-append sums (0 ∷ []) 0 first (let b = are.count in omega arith) ∙ are.each first l ∙ ap (λ b. cond b (sum % 8) 0) first_is)
              | inr r ↦
                  (let c = starts.early in
                  let same : first ≡ m = omega arith in
                  get_or_push sums 0 0 first (are.count ∙ sym same)
                  ∙ sym (ap (λ s. s % 8) (sum_none n ops (worth_from n ops first) m (λ k lt. elim (cases_Bool (joinable n ops first k)) [
                    | inl on ↦ (let j = joined_back n ops first k (joined_at n ops first k on) in let d = earliest k lt (joined_through n ops k first m j joined) in absurd (omega arith))
                    | inr off ↦ ap (λ b. cond b (exponent_of (phase_gate_at ops k)) 0) off
                  ]))))
            ] in
            omega (arith, before, after, worth)

        unjoined : (j : ℕ) → (j ≡ first → ⊥) → is_first n ops j ≡ true → worth_from n ops j m ≡ 0
        unjoined j other on =
            elim (cases_Bool (joinable n ops j m)) [
              | inl yes' ↦
                  (let a = joined_at n ops j m yes' in
                  elim (cases_lt first j) [
                    | inl l ↦ absurd (false≢true (sym (not_first first j l (joined_through n ops first m j joined (joined_back n ops j m a))) ∙ on))
                    | inr r ↦ (let c = starts.early in let d = earliest j (omega arith) a in absurd (other (omega arith)))
                  ])
              | inr off ↦ ap (λ b. cond b (exponent_of (phase_gate_at ops m)) 0) off
            ]

        late : (j : ℕ) → j ≡ m → (j ≡ first → ⊥) → sum_at n ops (suc m) j ≡ 0
        late j same other =
            let c = starts.early in
            let lt : first < m = omega arith in
            ap (λ b. cond b (sum_below (worth_from n ops j) (suc m) % 8) 0) (ap (is_first n ops) same ∙ not_first first m lt joined)

  -- ---- what is sent

  of_exponent : (b : Bool) (q x : ℕ) → phase_ops q (cond b (x % 8) 0) ≡ cond b (phase_ops q (x % 8)) []
  of_exponent b q x = grind arith

  pub part_phase : (j : ℕ) (o : Op) (p : PhaseGate) → phase_gate o ≡ Some p → phase_ops p.line (sum_at n ops (length ops) j) ≡ part n ops j o
  unfolding class_exponent
  part_phase j o p e = of_exponent (is_first n ops j) p.line (sum_below (worth_from n ops j) (length ops)) ∙ sym (rw (e, part) refl)

  pub part_other : (j : ℕ) (o : Op) → phase_gate o ≡ None → o ∷ [] ≡ part n ops j o
  part_other j o e = sym (rw (e, part) refl)

-- ---- the parts, one after another

pub parts_more : (f : ℕ → Op → List Op) (ops : List Op) (m j : ℕ) (o : Op) → slice_get ops j ≡ Some o → parts f m (take (suc j) ops) ≡ parts f m (take j ops) ++ f (m + j) o
unfolding parts
parts_more f [] m j o e = absurd (none-some o e)
parts_more f (x ∷ ops) m zero o e = grind (arith, same_Some, append-nil, ap₂)
parts_more f (x ∷ ops) m (suc j) o e = let i0 = parts_more f ops (suc m) j o e in grind (arith, i0, append_assoc)

pub sent_is_part : (n : ℕ) (ops : List Op) (j : ℕ) (o : Op) → sent o (sum_at n ops (length ops) j) ≡ part n ops j o
sent_is_part n ops j o =
    elim (option_cases (phase_gate o)) [
      | inl e ↦ (ap (sent_phase o (sum_at n ops (length ops) j)) e ∙ part_other n ops j o e)
      | inr p ↦ (ap (sent_phase o (sum_at n ops (length ops) j)) p.1 ∙ part_phase n ops j o p.0 p.1)
    ]

pub folded_all : (n : ℕ) (ops : List Op) (j : ℕ) → length ops ≤ j → parts (part n ops) 0 (take j ops) ≡ folded n ops
unfolding folded
folded_all n ops j le = ap (parts (part n ops) 0) (take_all j ops le)

pub parts_none : (n : ℕ) (ops : List Op) → [] ≡ parts (part n ops) 0 (take 0 ops)
unfolding parts
parts_none n ops = refl

-- the first parts are no longer than all
pub parts_within : (f : ℕ → Op → List Op) (ops : List Op) (m k : ℕ) → length (parts f m (take k ops)) ≤ length (parts f m ops)
unfolding parts
parts_within f [] m zero = omega arith
parts_within f [] m (suc k) = omega arith
parts_within f (o ∷ ops) m zero = omega arith
parts_within f (o ∷ ops) m (suc k) = let i0 = parts_within f ops (suc m) k in grind (arith, i0, length-append)

-- what is sent at a place makes the parts one longer
module _ (n : ℕ) (ops : List Op) (place : ℕ) (op : Op) (at : slice_get ops place ≡ Some op) where
  pub sent_next : parts (part n ops) 0 (take place ops) ++ sent op (sum_at n ops (length ops) place) ≡ parts (part n ops) 0 (take (place + 1) ops)
  sent_next =
      ap (λ l. parts (part n ops) 0 (take place ops) ++ l) (sent_is_part n ops place op ∙ ap (λ k. part n ops k op) (let q : place ≡ 0 + place = omega arith in q))
      ∙ sym (parts_more (part n ops) ops 0 place op at)
      ∙ ap (λ k. parts (part n ops) 0 (take k ops)) (let q : suc place ≡ place + 1 = omega arith in q)

  pub sent_within : length (parts (part n ops) 0 (take place ops)) + length (sent op (sum_at n ops (length ops) place)) ≤ length (folded n ops)
  unfolding folded
  sent_within =
      let a = length-append (parts (part n ops) 0 (take place ops)) (sent op (sum_at n ops (length ops) place)) in
      let b = ap length sent_next in
      let c = parts_within (part n ops) ops 0 (place + 1) in
      omega arith
