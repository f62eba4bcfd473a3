-- The operations of gates, one step after another.
use Rattle.std.proofs.Common.{◌≡◌, ◌∙◌, ℕ, ◌+◌, ◌-◌, ◌<◌, ◌≤◌, List, [], ◌∷◌, ◌++◌, drop, length, get_or}
use Rattle.std.proofs.Common.{Some, None, refl, sym, ap, arith}
use Rattle.std.proofs.lemmas.List.{append-nil, drop_all, drop_more, get_or_default, length-drop}
use Rattle.rv_gate.specs.declared.gate.Shape.{Shape}
use Rattle.rv_net.specs.declared.op.Op.{Op}
use Rattle.rv_expand.specs.Toffoli.{as_swap, gate_op, swap_else, toffoli_ops}

-- what stands at a place, and what comes after it
next : (gates : List Shape) (i : ℕ) (g : Shape) → i < length gates → g ≡ get_or gates i g → drop i gates ≡ g ∷ drop (i + 1) gates
next gates i g lt is = drop_more gates i g lt ∙ ap (λ h. h ∷ drop (i + 1) gates) (sym is)

module _ (gates : List Shape) (i : ℕ) (g h l : Shape) (three : i + 3 ≤ length gates) (first : g ≡ get_or gates i g) (second : h ≡ get_or gates (i + 1) h)
    (third : l ≡ get_or gates (i + 2) l) where
  rest_is : drop (i + 1) gates ≡ h ∷ l ∷ drop (i + 3) gates
  rest_is =
      let e : i + 1 + 1 ≡ i + 2 = omega arith in
      let f : i + 2 + 1 ≡ i + 3 = omega arith in
      next gates (i + 1) h (omega (arith, three)) second
      ∙ ap (λ j. h ∷ drop j gates) e
      ∙ ap (λ r. h ∷ r) (next gates (i + 2) l (omega (arith, three)) third)
      ∙ ap (λ j. h ∷ l ∷ drop j gates) f

  step : toffoli_ops (drop i gates) ≡ swap_else (as_swap g h l) (toffoli_ops (drop (i + 3) gates)) (gate_op g ++ toffoli_ops (drop (i + 1) gates))
  unfolding toffoli_ops
  step =
      ap toffoli_ops (next gates i g (omega (arith, three)) first ∙ ap (λ r. g ∷ r) rest_is)
      ∙ ap (λ r. swap_else (as_swap g h l) (toffoli_ops (drop (i + 3) gates)) (gate_op g ++ toffoli_ops r)) (sym rest_is)

  pub swap-step : (swap : List Op) → as_swap g h l ≡ Some swap → toffoli_ops (drop i gates) ≡ swap ++ toffoli_ops (drop (i + 3) gates)
  swap-step swap is = step ∙ ap (λ o. swap_else o (toffoli_ops (drop (i + 3) gates)) (gate_op g ++ toffoli_ops (drop (i + 1) gates))) is

  pub gate-step : (d : Shape) → as_swap g h l ≡ None → toffoli_ops (drop i gates) ≡ gate_op (get_or gates i d) ++ toffoli_ops (drop (i + 1) gates)
  gate-step d is =
      step ∙ ap (λ o. swap_else o (toffoli_ops (drop (i + 3) gates)) (gate_op g ++ toffoli_ops (drop (i + 1) gates))) is
      ∙ ap (λ e. gate_op e ++ toffoli_ops (drop (i + 1) gates)) (first ∙ get_or_default gates i g d (omega (arith, three)))

-- at the last two
last : (g : Shape) (rest : List Shape) → length rest < 2 → toffoli_ops (g ∷ rest) ≡ gate_op g ++ toffoli_ops rest
unfolding toffoli_ops
last g [] few = sym (append-nil (gate_op g))
last g (h ∷ []) few = refl
last g (h ∷ l ∷ rest) few = absurd (omega (arith, few))

pub last-step : (gates : List Shape) (i : ℕ) (d : Shape) → i < length gates → length gates - i < 3
    → toffoli_ops (drop i gates) ≡ gate_op (get_or gates i d) ++ toffoli_ops (drop (i + 1) gates)
last-step gates i d lt few =
    ap toffoli_ops (drop_more gates i d lt) ∙ last (get_or gates i d) (drop (i + 1) gates) (omega (arith, lt, few, length-drop (i + 1) gates))

pub nothing-left : (gates : List Shape) (i : ℕ) → length gates ≤ i → toffoli_ops (drop i gates) ≡ []
unfolding toffoli_ops
nothing-left gates i all = ap toffoli_ops (drop_all i gates all)

pub none-left : (gates : List Shape) (i : ℕ) → length gates ≤ i → length (toffoli_ops (drop i gates)) ≡ 0
none-left gates i all = ap length (nothing-left gates i all)
