-- Folding raises no count of operations, and keeps that of H.
use Rattle.std.proofs.Common.{◌≡◌, ℕ, ◌+◌, ◌%◌, ◌≤◌, Bool, true, false, cond, Some, List, [], ◌∷◌, ◌++◌, length, refl, sym, ap, ◌∙◌, arith, inl, inr}
use Rattle.std.specs.Prelude.{count_by}
use Rattle.std.proofs.lemmas.Bool.{cases_eq}
use Rattle.std.proofs.lemmas.List.Sums.{sum_by-cons}
use Rattle.rv_net.specs.declared.op.Op.{Op}
use Rattle.rv_net.specs.Amplitude.{count_h}
use Rattle.rv_net.specs.Op.{has_three_lines, is_t}
use Rattle.rv_fold.specs.Parities.{Parities, alone, parities_after}
use Rattle.rv_fold.specs.Folded.{phase_gate, phase_ops, exponent_of, PhaseGate}
use Rattle.rv_fold.proofs.Turning.{BelowEight, below_eight}
use Rattle.rv_fold.proofs.Walking.{Seen, each_walk, not_seen, only, none, joined, survivors, restarts, owed, walked, exponents, total, owed-none, owed-some, owed-joined, each_gate}
use Rattle.rv_gate.proofs.Options.{option_cases}

-- the sum of the weights of operations
unfoldable pub cost : (Op → ℕ) → List Op → ℕ
cost w [] = 0
cost w (o ∷ rest) = w o + cost w rest

pub cost-append : (w : Op → ℕ) (a b : List Op) → cost w (a ++ b) ≡ cost w a + cost w b
unfolding cost
cost-append w [] b = omega arith
cost-append w (o ∷ a) b = let ih = cost-append w a b in omega arith

-- the operations of a class weigh no more than its phases: the weight of one more is enough for one more
abbrev pub IsSpared : (Op → ℕ) → Type 0
IsSpared w = (o : Op) (p : PhaseGate) → phase_gate o ≡ Some p → (q s : ℕ) → cost w (phase_ops q ((p.exponent + s) % 8)) ≤ w o + cost w (phase_ops q (s % 8))

module _ (w : Op → ℕ) (spared : IsSpared w) (n : ℕ) where
  owed_cost : ℕ → Seen → Parities → List Op → ℕ
  owed_cost q seen parities rest = cost w (phase_ops q (owed exponents n seen parities rest % 8))

  one_more : (o : Op) (p : PhaseGate) → phase_gate o ≡ Some p → (b : Bool) (q s t : ℕ) → cost w (phase_ops q (s % 8)) ≤ t → cost w (phase_ops q ((cond b (exponent_of (phase_gate o)) 0 + s) % 8)) ≤ cond b (w o) 0 + t
  one_more o p e true q s t h = let m = ap (λ c. cost w (phase_ops q ((exponent_of c + s) % 8))) e in omega (arith, m, spared o p e q s)
  one_more o p e false q s t h = let z : 0 + s ≡ s = omega arith in let m = ap (λ c. cost w (phase_ops q (c % 8))) z in omega (arith, m)

  -- those of a class
  class_cost : (q : ℕ) (seen : Seen) (parities : Parities) (rest : List Op) → cost w (phase_ops q (owed exponents n seen parities rest % 8)) ≤ owed (λ g o. w o) n seen parities rest
  unfolding owed cost
  class_cost q seen parities [] = omega arith
  class_cost q seen parities (o ∷ rest) =
      elim (option_cases (phase_gate o)) [
        | inl e ↦ rw (owed-none exponents n seen parities o rest e, owed-none (λ g o. w o) n seen parities o rest e) (class_cost q (survivors (restarts n o parities) seen) (parities_after n o parities) rest)
        | inr p ↦ rw (owed-some exponents n seen parities o rest p.0 p.1, owed-some (λ g o. w o) n seen parities o rest p.0 p.1) (one_more o p.0 p.1 (seen (parities p.0.line)) q _ _ (class_cost q seen parities rest))
      ]

  -- the walk's result, with what is left out of it
  pub walked-cost : (seen : Seen) (parities : Parities) (rest : List Op) → cost w (walked n seen parities rest) + owed (λ g o. w o) n seen parities rest ≤ cost w rest
  unfolding owed cost
  walked-cost = each_walk n (λ s f rest l. cost w l + owed (λ g o. w o) n s f rest ≤ cost w rest) (record {
    end = λ s f. omega arith;
    other = λ s f o rest e ih. (let b = owed-none (λ g o. w o) n s f o rest e in omega arith);
    old = λ s f o rest p e old ih. (let b = owed-some (λ g o. w o) n s f o rest p e in let c = ap (λ t. cond t (w o) 0) old in omega arith);
    new = λ s f o rest p e new ih.
        (let b = owed-some (λ g o. w o) n s f o rest p e in
        let c = ap (λ t. cond t (w o) 0) new in
        let a = cost-append w (phase_ops p.line ((p.exponent + total n (f p.line) f rest) % 8)) (walked n (joined (only (f p.line)) s) f rest) in
        let d = owed-joined (λ g o. w o) n (only (f p.line)) s f rest (not_seen (f p.line) s new) in
        let k = class_cost p.line (only (f p.line)) f rest in
        let l = spared o p e p.line (total n (f p.line) f rest) in
        omega arith);
  })

  pub walked-cheaper : (ops : List Op) → cost w (walked n none alone ops) ≤ cost w ops
  walked-cheaper ops = let a = walked-cost none alone ops in omega arith

-- ---- operations

abbrev one : Op → ℕ
one o = 1

length-cost : (ops : List Op) → length ops ≡ cost one ops
unfolding cost
length-cost [] = refl
length-cost (o ∷ ops) = let ih = length-cost ops in omega arith

few_ops : (q m : ℕ) → BelowEight m → cost one (phase_ops q m) ≤ 2
unfolding cost
few_ops q m h = grind arith

some_ops : (q m : ℕ) → BelowEight m → (m ≡ 0 → ⊥) → 1 ≤ cost one (phase_ops q m)
unfolding cost
some_ops q m h h2 = grind arith

one_op : (o : Op) (p : PhaseGate) → phase_gate o ≡ Some p → (q : ℕ) → cost one (phase_ops q (p.exponent % 8)) ≤ 1
unfolding cost
one_op o p e q = each_gate (λ a g. cost one (phase_ops q (g.exponent % 8)) ≤ 1) (λ r. omega arith) (λ r. omega arith) (λ r. omega arith) (λ r. omega arith) (λ r. omega arith) o p e

ops_spared : IsSpared one
ops_spared o p e q s = elim (cases_eq (s % 8) 0) [
  | inl z ↦
      (let m = ap (λ c. cost one (phase_ops q c)) (let t : (p.exponent + s) % 8 ≡ p.exponent % 8 = omega arith in t) in
      let l = one_op o p e q in
      omega arith)
  | inr some ↦
      (let a = few_ops q ((p.exponent + s) % 8) (below_eight _ (omega arith)) in
      let b = some_ops q (s % 8) (below_eight _ (omega arith)) some in
      omega arith)
]

pub walked-length : (n : ℕ) (ops : List Op) → length (walked n none alone ops) ≤ length ops
walked-length n ops = let a = length-cost (walked n none alone ops) in let b = length-cost ops in let c = walked-cheaper one ops_spared n ops in omega arith

-- ---- operations of a kind

abbrev weight : (Op → Bool) → Op → ℕ
weight is o = cond (is o) 1 0

count_cost : (is : Op → Bool) (ops : List Op) → count_by is ops ≡ cost (weight is) ops
unfolding cost
count_cost is [] = refl
count_cost is (o ∷ ops) = sum_by-cons (weight is) o ops ∙ ap (λ m. weight is o + m) (count_cost is ops)

walked-count : (is : Op → Bool) → IsSpared (weight is) → (n : ℕ) (ops : List Op) → count_by is (walked n none alone ops) ≤ count_by is ops
walked-count is spared n ops =
    let a = count_cost is (walked n none alone ops) in
    let b = count_cost is ops in
    let c = walked-cheaper (weight is) spared n ops in
    omega arith

-- T and its inverse
t_ops : (q m : ℕ) → BelowEight m → cost (weight is_t) (phase_ops q m) ≡ m % 2
unfolding cost
t_ops q m h = grind arith

odd_t : (o : Op) (p : PhaseGate) → phase_gate o ≡ Some p → p.exponent % 2 ≡ weight is_t o
odd_t = each_gate (λ a g. g.exponent % 2 ≡ weight is_t a) (λ q. refl) (λ q. refl) (λ q. refl) (λ q. refl) (λ q. refl)

t_spared : IsSpared (weight is_t)
t_spared o p e q s = grind (arith, t_ops, below_eight, odd_t)

pub walked-t : (n : ℕ) (ops : List Op) → count_by is_t (walked n none alone ops) ≤ count_by is_t ops
walked-t = walked-count is_t t_spared

-- Toffoli and Fredkin gates
three_ops : (q m : ℕ) → BelowEight m → cost (weight has_three_lines) (phase_ops q m) ≡ 0
unfolding cost
three_ops q m h = grind arith

three_spared : IsSpared (weight has_three_lines)
three_spared o p e q s = let a = three_ops q ((p.exponent + s) % 8) (below_eight _ (omega arith)) in omega arith

pub walked-three : (n : ℕ) (ops : List Op) → count_by has_three_lines (walked n none alone ops) ≤ count_by has_three_lines ops
walked-three = walked-count has_three_lines three_spared

-- ---- H

h_phase : (o : Op) (p : PhaseGate) (rest : List Op) → phase_gate o ≡ Some p → count_h (o ∷ rest) ≡ count_h rest
unfolding count_h
h_phase o p rest e = each_gate (λ a g. count_h (a ∷ rest) ≡ count_h rest) (λ q. refl) (λ q. refl) (λ q. refl) (λ q. refl) (λ q. refl) o p e

h_same : (o : Op) (a b : List Op) → count_h a ≡ count_h b → count_h (o ∷ a) ≡ count_h (o ∷ b)
unfolding count_h
h_same o a b h = grind arith

h_phases : (q m : ℕ) → BelowEight m → (rest : List Op) → count_h (phase_ops q m ++ rest) ≡ count_h rest
unfolding count_h
h_phases q m h rest = grind arith

pub walked-h : (n : ℕ) (seen : Seen) (parities : Parities) (rest : List Op) → count_h (walked n seen parities rest) ≡ count_h rest
walked-h n = each_walk n (λ s f rest l. count_h l ≡ count_h rest) (record {
  end = λ s f. refl;
  other = λ s f o rest e ih. h_same o _ _ ih;
  old = λ s f o rest p e old ih. ih ∙ sym (h_phase o p rest e);
  new = λ s f o rest p e new ih. h_phases p.line ((p.exponent + total n (f p.line) f rest) % 8) (below_eight _ (omega arith)) _ ∙ ih ∙ sym (h_phase o p rest e);
})
