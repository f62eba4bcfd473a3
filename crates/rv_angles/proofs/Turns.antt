-- Gates on one qubit: a turn has the sums of its matrix.
use Rattle.std.proofs.Common.{◌≡◌, ℕ, ◌+◌, ◌%◌, ◌==◌, ◌<◌, ◌&&◌, Bool, true, false, not, cond, List, [], ◌∷◌, ◌++◌, length, Some, None, refl, sym, ap, ap₂, ◌∙◌, arith, set, get_or-set_same, subst}
use Rattle.std.proofs.lemmas.Bool.{eqb-true, false≢true}
use Rattle.std.proofs.lemmas.Option.{none-some, same_Some}
use Rattle.std.proofs.lemmas.List.{set-get_or}
use Rattle.rv_net.specs.declared.op.Op.{Op}
use Rattle.rv_net.specs.declared.op.Op.TheVariants.{X, Y, Z, H, S, Sdg, T, Tdg, Cx, Cz, Ccx, Swap, Cswap}
use Rattle.rv_net.specs.Cyclotomic.{Cyclotomic, plus, root2, times, times_w_power}
use Rattle.rv_net.specs.Amplitude.{count_h}
use Rattle.rv_net.proofs.Cyclotomic.{nought_plus, plus_nought, times-add_left, times_w_power-add, turns_add}
use Rattle.rv_net.proofs.Step.{Word, bit}
use Rattle.rv_net.proofs.Frame.{through, through-append}
use Rattle.rv_angles.specs.Matrix.{entry_times}
use Rattle.rv_angles.specs.Standard.{matrix_sum}
use Rattle.rv_angles.specs.Form.{is_twice, is_none, is_root, root_power, is_diagonal, is_exchange, is_even_split, after_h, split, turn_of}
use Rattle.rv_angles.specs.Ops.{phase_ops, zero_ops, middle_ops, turn_ops}
use Rattle.rv_angles.specs.Exact.{twice_over}
use Rattle.rv_angles.specs.declared.matrix.Matrix.{Matrix}
use Rattle.rv_angles.specs.declared.form.Middle.TheVariants as middle
use Rattle.rv_angles.specs.declared.form.Turn.{Turn}
use Rattle.rv_angles.proofs.Powers.{no_turn, same_power, phases-through, zeros-through}
use Rattle.rv_angles.proofs.Entries.{twice-entry, none-entry, root-entry}

pub turn-through : (t : Turn) (q : ℕ) (k : Word → Cyclotomic) (x : Word) → q < length x
    → through (turn_ops t q) k x ≡ times_w_power (cond (bit x q) t.one 0) (times_w_power (cond (bit x q) 0 t.zero) (through (middle_ops t.middle q) (λ v. times_w_power (cond (bit v q) t.after 0) (k v)) x))
turn-through t q k x h =
    through-append ((phase_ops t.one q ++ zero_ops t.zero q) ++ middle_ops t.middle q) (phase_ops t.after q) k x
    ∙ through-append (phase_ops t.one q ++ zero_ops t.zero q) (middle_ops t.middle q) _ x
    ∙ through-append (phase_ops t.one q) (zero_ops t.zero q) _ x
    ∙ phases-through q t.one _ x
    ∙ ap (times_w_power (cond (bit x q) t.one 0)) (zeros-through q t.zero _ x h ∙ ap (times_w_power (cond (bit x q) 0 t.zero)) (λ i. through (middle_ops t.middle q) (λ v. phases-through q t.after k v i) x))

-- ---- how many H there are

pub count-append : (a b : List Op) → count_h (a ++ b) ≡ count_h a + count_h b
unfolding count_h
count-append [] b = omega arith
count-append (H q ∷ a) b = omega (arith, count-append a b)
count-append (X q ∷ a) b = count-append a b
count-append (Y q ∷ a) b = count-append a b
count-append (Z q ∷ a) b = count-append a b
count-append (S q ∷ a) b = count-append a b
count-append (Sdg q ∷ a) b = count-append a b
count-append (T q ∷ a) b = count-append a b
count-append (Tdg q ∷ a) b = count-append a b
count-append (Cx p q ∷ a) b = count-append a b
count-append (Cz p q ∷ a) b = count-append a b
count-append (Swap p q ∷ a) b = count-append a b
count-append (Ccx o p q ∷ a) b = count-append a b
count-append (Cswap o p q ∷ a) b = count-append a b

pub no_h : (q p : ℕ) → count_h (phase_ops p q) ≡ 0
unfolding count_h
no_h q p = grind arith

no_h_zero : (q p : ℕ) → count_h (zero_ops p q) ≡ 0
unfolding count_h
no_h_zero q p = grind (arith, count-append, no_h)

pub turn_count : (t : Turn) (q : ℕ) → count_h (turn_ops t q) ≡ count_h (middle_ops t.middle q)
turn_count t q = grind (arith, count-append, no_h, no_h_zero)

-- ---- each kind of matrix

pub four_parts : (a b c d : Bool) → (a && b && c && d) ≡ true → (a ≡ true) × (b ≡ true) × (c ≡ true) × (d ≡ true)
four_parts true true true d h = (refl, refl, refl, h)
four_parts true true false d h = absurd (false≢true h)
four_parts true false c d h = absurd (false≢true h)
four_parts false b c d h = absurd (false≢true h)

module _ (m : Matrix) (q : ℕ) (k : Word → Cyclotomic) (x : Word) (h : q < length x) where
  abbrev Law : Turn → Type 0
  Law t = twice_over (count_h (turn_ops t q)) (through (turn_ops t q) k x) ≡ matrix_sum m q k x

  own : (b : Bool) → bit x q ≡ b → set x q b ≡ x
  own b is = ap (set x q) (sym is) ∙ set-get_or x q false

  -- the powers that stand alone
  zero_first : (p : ℕ) (u : Cyclotomic) → times_w_power (cond false p 0) (times_w_power (cond false 0 p) u) ≡ times_w_power p u
  zero_first p u = no_turn (times_w_power p u)

  no_after : (b : Bool) (u : Cyclotomic) → times_w_power (cond b 0 0) u ≡ u
  no_after true u = no_turn u
  no_after false u = no_turn u

  -- a diagonal matrix
  abbrev diagonal_turn : Turn
  diagonal_turn = record { zero = m.e00.first; one = m.e11.first; middle = middle.Nothing; after = 0 }

  diagonal-law : is_twice m.e00 ≡ true → is_none m.e01 ≡ true → is_none m.e10 ≡ true → is_twice m.e11 ≡ true → Law diagonal_turn
  unfolding count_h through times_w_power
  diagonal-law t00 n01 n10 t11 =
      ap (λ n. twice_over n (through (turn_ops diagonal_turn q) k x)) (turn_count diagonal_turn q)
      ∙ ap (λ u. plus u u) (turn-through diagonal_turn q k x h)
      ∙ by (bit x q) refl
    where
      by : (b : Bool) → bit x q ≡ b
          → plus (times_w_power (cond b m.e11.first 0) (times_w_power (cond b 0 m.e00.first) (times_w_power (cond b 0 0) (k x)))) (times_w_power (cond b m.e11.first 0) (times_w_power (cond b 0 m.e00.first) (times_w_power (cond b 0 0) (k x))))
          ≡ cond b (plus (entry_times m.e01 (k (set x q false))) (entry_times m.e11 (k (set x q true)))) (plus (entry_times m.e00 (k (set x q false))) (entry_times m.e10 (k (set x q true))))
      by true is =
          ap (λ u. plus (times_w_power m.e11.first u) (times_w_power m.e11.first u)) (no_turn (times_w_power 0 (k x)) ∙ no_turn (k x) ∙ sym (ap k (own true is)))
          ∙ sym (nought_plus _)
          ∙ ap₂ plus (sym (none-entry m.e01 (k (set x q false)) n01)) (sym (twice-entry m.e11 (k (set x q true)) t11))
      by false is =
          ap (λ u. plus u u) (no_turn (times_w_power m.e00.first (times_w_power 0 (k x))))
          ∙ ap (λ u. plus (times_w_power m.e00.first u) (times_w_power m.e00.first u)) (no_turn (k x) ∙ sym (ap k (own false is)))
          ∙ sym (plus_nought _)
          ∙ ap₂ plus (sym (twice-entry m.e00 (k (set x q false)) t00)) (sym (none-entry m.e10 (k (set x q true)) n10))

  -- one that exchanges 0 and 1
  abbrev exchange_turn : Turn
  exchange_turn = record { zero = m.e10.first; one = m.e01.first; middle = middle.X; after = 0 }

  exchange-law : is_none m.e00 ≡ true → is_twice m.e01 ≡ true → is_twice m.e10 ≡ true → is_none m.e11 ≡ true → Law exchange_turn
  unfolding count_h through times_w_power
  exchange-law n00 t01 t10 n11 =
      ap (λ n. twice_over n (through (turn_ops exchange_turn q) k x)) (turn_count exchange_turn q)
      ∙ ap (λ u. plus u u) (turn-through exchange_turn q k x h)
      ∙ by (bit x q)
    where
      led : (b : Bool) → times_w_power 0 (times_w_power (cond (bit (set x q b) q) 0 0) (k (set x q b))) ≡ k (set x q b)
      led b = no_turn _ ∙ no_after (bit (set x q b) q) (k (set x q b))

      by : (b : Bool)
          → plus (times_w_power (cond b m.e01.first 0) (times_w_power (cond b 0 m.e10.first) (times_w_power 0 (times_w_power (cond (bit (set x q (not b)) q) 0 0) (k (set x q (not b))))))) (times_w_power (cond b m.e01.first 0) (times_w_power (cond b 0 m.e10.first) (times_w_power 0 (times_w_power (cond (bit (set x q (not b)) q) 0 0) (k (set x q (not b)))))))
          ≡ cond b (plus (entry_times m.e01 (k (set x q false))) (entry_times m.e11 (k (set x q true)))) (plus (entry_times m.e00 (k (set x q false))) (entry_times m.e10 (k (set x q true))))
      by true =
          ap (λ u. plus (times_w_power m.e01.first u) (times_w_power m.e01.first u)) (no_turn _ ∙ led false)
          ∙ sym (plus_nought _)
          ∙ ap₂ plus (sym (twice-entry m.e01 (k (set x q false)) t01)) (sym (none-entry m.e11 (k (set x q true)) n11))
      by false =
          ap (λ u. plus u u) (no_turn _)
          ∙ ap (λ u. plus (times_w_power m.e10.first u) (times_w_power m.e10.first u)) (led true)
          ∙ sym (nought_plus _)
          ∙ ap₂ plus (sym (none-entry m.e00 (k (set x q false)) n00)) (sym (twice-entry m.e10 (k (set x q true)) t10))

  -- one that splits
  after_power : (r s : ℕ) → (r + after_h r s) % 8 ≡ s % 8
  after_power r s = omega arith

  last_power : (r s t : ℕ) → ((r % 8 + s + 4) % 8 == t % 8) ≡ true → (r + (4 + s)) % 8 ≡ t % 8
  last_power r s t is = omega (arith, eqb-true _ _ is)

  abbrev split_turn : Turn
  split_turn = record { zero = root_power m.e00; one = root_power m.e01; middle = middle.H; after = after_h (root_power m.e00) (root_power m.e10) }

  split-law : is_root m.e00 ≡ true → is_root m.e01 ≡ true → is_root m.e10 ≡ true → is_root m.e11 ≡ true
      → ((root_power m.e01 % 8 + split_turn.after + 4) % 8 == root_power m.e11 % 8) ≡ true → Law split_turn
  unfolding count_h through times_w_power
  split-law r00 r01 r10 r11 last =
      ap (λ n. twice_over n (through (turn_ops split_turn q) k x)) (turn_count split_turn q)
      ∙ ap (times root2) (turn-through split_turn q k x h)
      ∙ ap (λ c. times root2 (times_w_power (cond (bit x q) split_turn.one 0) (times_w_power (cond (bit x q) 0 split_turn.zero) (plus (times_w_power (cond c split_turn.after 0) (k (set x q false))) (times_w_power (cond (bit x q) 4 0) (times_w_power (cond (bit (set x q true) q) split_turn.after 0) (k (set x q true)))))))) (get_or-set_same x q false false h)
      ∙ ap (λ c. times root2 (times_w_power (cond (bit x q) split_turn.one 0) (times_w_power (cond (bit x q) 0 split_turn.zero) (plus (times_w_power 0 (k (set x q false))) (times_w_power (cond (bit x q) 4 0) (times_w_power (cond c split_turn.after 0) (k (set x q true)))))))) (get_or-set_same x q true false h)
      ∙ by (bit x q)
    where
      by : (b : Bool)
          → times root2 (times_w_power (cond b split_turn.one 0) (times_w_power (cond b 0 split_turn.zero) (plus (times_w_power 0 (k (set x q false))) (times_w_power (cond b 4 0) (times_w_power split_turn.after (k (set x q true)))))))
          ≡ cond b (plus (entry_times m.e01 (k (set x q false))) (entry_times m.e11 (k (set x q true)))) (plus (entry_times m.e00 (k (set x q false))) (entry_times m.e10 (k (set x q true))))
      by true =
          ap (λ u. times root2 (times_w_power split_turn.one u)) (no_turn _ ∙ ap₂ plus (no_turn _) (turns_add 4 split_turn.after _))
          ∙ ap (times root2) (times_w_power-add split_turn.one _ _ ∙ ap (plus _) (turns_add split_turn.one (4 + split_turn.after) _ ∙ same_power (split_turn.one + (4 + split_turn.after)) (root_power m.e11) _ (last_power (root_power m.e01) split_turn.after (root_power m.e11) last)))
          ∙ times-add_left root2 _ _
          ∙ ap₂ plus (sym (root-entry m.e01 (k (set x q false)) r01)) (sym (root-entry m.e11 (k (set x q true)) r11))
      by false =
          ap (times root2) (no_turn _)
          ∙ ap (λ u. times root2 (times_w_power split_turn.zero u)) (ap₂ plus (no_turn _) (no_turn _))
          ∙ ap (times root2) (times_w_power-add split_turn.zero _ _ ∙ ap (plus _) (turns_add split_turn.zero split_turn.after _ ∙ same_power (split_turn.zero + split_turn.after) (root_power m.e10) _ (after_power (root_power m.e00) (root_power m.e10))))
          ∙ times-add_left root2 _ _
          ∙ ap₂ plus (sym (root-entry m.e00 (k (set x q false)) r00)) (sym (root-entry m.e10 (k (set x q true)) r10))

  -- ---- any

  pub turn-law : (t : Turn) → turn_of m ≡ Some t → Law t
  turn-law t is = by (is_diagonal m) refl (is_exchange m) refl (is_even_split m) refl is
    where
      tested : (b : Bool) → ((root_power m.e01 % 8 + split_turn.after + 4) % 8 == root_power m.e11 % 8) ≡ b → is_even_split m ≡ true → cond (not b) None (Some split_turn) ≡ Some t → Law t
      tested true so all is = let p = four_parts _ _ _ _ all in subst Law (same_Some _ _ is) (split-law p.0 p.1 p.2 p.3 so)
      tested false so all is = absurd (none-some t is)

      by : (d : Bool) → is_diagonal m ≡ d → (e : Bool) → is_exchange m ≡ e → (s : Bool) → is_even_split m ≡ s
          → cond d (Some diagonal_turn) (cond e (Some exchange_turn) (cond s (split (root_power m.e00) (root_power m.e01) (root_power m.e10) (root_power m.e11)) None)) ≡ Some t → Law t
      by true all e _ s _ is = let p = four_parts _ _ _ _ all in subst Law (same_Some _ _ is) (diagonal-law p.0 p.1 p.2 p.3)
      by false _ true all s _ is = let p = four_parts _ _ _ _ all in subst Law (same_Some _ _ is) (exchange-law p.0 p.1 p.2 p.3)
      by false _ false _ true all is = tested ((root_power m.e01 % 8 + split_turn.after + 4) % 8 == root_power m.e11 % 8) refl all is
      by false _ false _ false _ is = absurd (none-some t is)
