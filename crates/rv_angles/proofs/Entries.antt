-- What entries are, by their powers.
use Rattle.std.proofs.Common.{◌≡◌, ℕ, ◌+◌, ◌%◌, ◌==◌, ◌||◌, Bool, true, false, cond, refl, sym, ap, ap₂, ◌∙◌, arith}
use Rattle.std.proofs.lemmas.Bool.{eqb-true}
use Rattle.rv_net.specs.Cyclotomic.{Cyclotomic, nought, plus, root2, times, times_w_power}
use Rattle.rv_net.proofs.Cyclotomic.{plus_comm, turns_add}
use Rattle.rv_angles.specs.Matrix.{entry_times}
use Rattle.rv_angles.specs.Form.{is_twice, is_none, is_root, root_power}
use Rattle.rv_angles.specs.declared.matrix.Entry.{Entry}
use Rattle.rv_angles.proofs.Powers.{opposite, root_sum, same_power}

pub twice-entry : (e : Entry) (u : Cyclotomic) → is_twice e ≡ true → entry_times e u ≡ plus (times_w_power e.first u) (times_w_power e.first u)
twice-entry e u is = ap (plus (times_w_power e.first u)) (same_power e.second e.first u (omega (arith, eqb-true _ _ is)))

pub none-entry : (e : Entry) (u : Cyclotomic) → is_none e ≡ true → entry_times e u ≡ nought
none-entry e u is =
    ap (plus (times_w_power e.first u)) (same_power e.second (4 + e.first) u (omega (arith, eqb-true _ _ is)) ∙ sym (turns_add 4 e.first u))
    ∙ opposite (times_w_power e.first u)

-- the root of two times a power is the sum of its neighbours
root_of : (r : ℕ) (u : Cyclotomic) → times root2 (times_w_power r u) ≡ plus (times_w_power (1 + r) u) (times_w_power (7 + r) u)
root_of r u = root_sum (times_w_power r u) ∙ ap₂ plus (turns_add 1 r u) (turns_add 7 r u)

right_of : (a b : Bool) → a ≡ false → (a || b) ≡ true → b ≡ true
right_of a b is h = ap (λ t. t || b) (sym is) ∙ h

pub root-entry : (e : Entry) (u : Cyclotomic) → is_root e ≡ true → entry_times e u ≡ times root2 (times_w_power (root_power e) u)
root-entry e u is = by (e.second % 8 == (e.first % 8 + 2) % 8) refl
  where
    by : (t : Bool) → (e.second % 8 == (e.first % 8 + 2) % 8) ≡ t → entry_times e u ≡ times root2 (times_w_power (cond t ((e.first % 8 + 1) % 8) ((e.first % 8 + 7) % 8)) u)
    by true so =
        plus_comm _ _
        ∙ ap₂ plus (same_power e.second (1 + (e.first % 8 + 1) % 8) u (omega (arith, eqb-true _ _ so))) (same_power e.first (7 + (e.first % 8 + 1) % 8) u (omega arith))
        ∙ sym (root_of ((e.first % 8 + 1) % 8) u)
    by false so =
        ap₂ plus (same_power e.first (1 + (e.first % 8 + 7) % 8) u (omega arith)) (same_power e.second (7 + (e.first % 8 + 7) % 8) u (omega (arith, eqb-true _ _ (right_of _ _ so is))))
        ∙ sym (root_of ((e.first % 8 + 7) % 8) u)
