-- Gates of a few fixed operations, from their laws on words of their own bits; and phases under a control.
use Rattle.std.proofs.Common.{◌≡◌, ◌≢◌, ℕ, ◌+◌, ◌*◌, ◌/◌, ◌%◌, ◌==◌, ◌<◌, ◌&&◌, ◌||◌, Bool, true, false, not, cond, List, [], ◌∷◌, ◌++◌, map, length, Some, None, refl, sym, ap, ap₂, ◌∙◌, arith, set, get_or-set_same, get_or-set_other, set-set, not-suc-le-zero, subst}
use Rattle.std.proofs.lemmas.Bool.{eqb-true}
use Rattle.std.proofs.lemmas.Int.{ints}
use Rattle.std.proofs.lemmas.List.{set_comm, set-get_or}
use Rattle.std.proofs.lemmas.Option.{none-some, same_Some}
use Rattle.rv_gate.specs.Gate.{xor}
use Rattle.rv_net.specs.declared.op.Op.{Op}
use Rattle.rv_net.specs.declared.op.Op.TheVariants.{H, S, Sdg, T, Tdg, Cx, Ccx}
use Rattle.rv_net.specs.Cyclotomic.{Cyclotomic, plus, times_w, times_w_power}
use Rattle.rv_net.specs.Amplitude.{count_h}
use Rattle.rv_net.proofs.Cyclotomic.{same_cyclotomic, nought_plus, plus_nought, turns_add}
use Rattle.rv_net.proofs.Step.{Word, bit}
use Rattle.rv_net.proofs.Frame.{through, through-append, puts, two_apart, relabel, AllWithin, frame-through}
use Rattle.rv_net.proofs.Toffoli.{changed, on_lines, own}
use Rattle.rv_angles.specs.Matrix.{entry_times}
use Rattle.rv_angles.specs.Standard.{matrix_sum, controlled_sum, sx_matrix, sxdg_matrix, y_matrix, z_matrix, h_matrix}
use Rattle.rv_angles.specs.Form.{is_twice, is_none, is_diagonal, apart_in, phased_of}
use Rattle.rv_angles.specs.Ops.{phase_ops, phased_ops}
use Rattle.rv_angles.specs.Exact.{twice_over}
use Rattle.rv_angles.specs.declared.matrix.Matrix.{Matrix}
use Rattle.rv_angles.specs.declared.form.Phased.{Phased}
use Rattle.rv_angles.proofs.Powers.{no_turn, same_power, phases-through}
use Rattle.rv_angles.proofs.Entries.{twice-entry, none-entry}
use Rattle.rv_angles.proofs.Turns.{count-append, no_h, four_parts}

-- what a matrix gives by the bit of its own line, where `at` tells the amplitude by the bit that it leads to
abbrev pub bit_sum : Matrix → (Bool → Cyclotomic) → Bool → Cyclotomic
bit_sum m at t = cond t (plus (entry_times m.e01 (at false)) (entry_times m.e11 (at true))) (plus (entry_times m.e00 (at false)) (entry_times m.e10 (at true)))

diagonal_parts : (m : Matrix) → is_diagonal m ≡ true → (is_twice m.e00 ≡ true) × (is_none m.e01 ≡ true) × (is_none m.e10 ≡ true) × (is_twice m.e11 ≡ true)
diagonal_parts m all = four_parts (is_twice m.e00) (is_none m.e01) (is_none m.e10) (is_twice m.e11) all

-- ---- on one line

root : List Op
root = H 0 ∷ S 0 ∷ H 0 ∷ []

unroot : List Op
unroot = H 0 ∷ Sdg 0 ∷ H 0 ∷ []

root-local : (k : Word → Cyclotomic) (t : Bool) → through root k (t ∷ []) ≡ bit_sum sx_matrix (λ b. k (b ∷ [])) t
unfolding through root plus times_w_power times_w
root-local k true = same_cyclotomic _ _ (omega (arith, ints)) (omega (arith, ints)) (omega (arith, ints)) (omega (arith, ints))
root-local k false = same_cyclotomic _ _ (omega (arith, ints)) (omega (arith, ints)) (omega (arith, ints)) (omega (arith, ints))

unroot-local : (k : Word → Cyclotomic) (t : Bool) → through unroot k (t ∷ []) ≡ bit_sum sxdg_matrix (λ b. k (b ∷ [])) t
unfolding through unroot plus times_w_power times_w
unroot-local k true = same_cyclotomic _ _ (omega (arith, ints)) (omega (arith, ints)) (omega (arith, ints)) (omega (arith, ints))
unroot-local k false = same_cyclotomic _ _ (omega (arith, ints)) (omega (arith, ints)) (omega (arith, ints)) (omega (arith, ints))

on_one : (net : List Op) (k : Word → Cyclotomic) (x : Word) (q : ℕ) → q < length x → AllWithin 1 net
    → through (map (relabel (q ∷ [])) net) k x ≡ through net (λ u. k (puts x (q ∷ []) u)) (bit x q ∷ [])
on_one net k x q h w =
    ap (through (map (relabel (q ∷ [])) net) k) (sym (set-get_or x q false))
    ∙ frame-through x (q ∷ []) ((λ i g. absurd (not-suc-le-zero g)), tt) (h, tt) net k (bit x q ∷ []) refl w

pub sx-law : (k : Word → Cyclotomic) (x : Word) (q : ℕ) → q < length x → through (H q ∷ S q ∷ H q ∷ []) k x ≡ matrix_sum sx_matrix q k x
unfolding root relabel
sx-law k x q h = on_one root k x q h (omega arith) ∙ root-local (λ u. k (puts x (q ∷ []) u)) (bit x q)

pub sxdg-law : (k : Word → Cyclotomic) (x : Word) (q : ℕ) → q < length x → through (H q ∷ Sdg q ∷ H q ∷ []) k x ≡ matrix_sum sxdg_matrix q k x
unfolding unroot relabel
sxdg-law k x q h = on_one unroot k x q h (omega arith) ∙ unroot-local (λ u. k (puts x (q ∷ []) u)) (bit x q)

-- ---- on two lines

-- what a matrix under a control gives, by both bits
abbrev pub pair_sum : Matrix → (Word → Cyclotomic) → Bool → Bool → Cyclotomic
pair_sum m k c t = cond c (bit_sum m (λ b. k (c ∷ b ∷ [])) t) (plus (k (c ∷ t ∷ [])) (k (c ∷ t ∷ [])))

under_y : List Op
under_y = Sdg 1 ∷ Cx 0 1 ∷ S 1 ∷ []

under_h : List Op
under_h = S 1 ∷ H 1 ∷ T 1 ∷ Cx 0 1 ∷ Tdg 1 ∷ H 1 ∷ Sdg 1 ∷ []

y-local : (k : Word → Cyclotomic) (c t : Bool) → plus (through under_y k (c ∷ t ∷ [])) (through under_y k (c ∷ t ∷ [])) ≡ pair_sum y_matrix k c t
unfolding through under_y plus times_w_power times_w
y-local k true true = same_cyclotomic _ _ (omega (arith, ints)) (omega (arith, ints)) (omega (arith, ints)) (omega (arith, ints))
y-local k true false = same_cyclotomic _ _ (omega (arith, ints)) (omega (arith, ints)) (omega (arith, ints)) (omega (arith, ints))
y-local k false true = same_cyclotomic _ _ (omega (arith, ints)) (omega (arith, ints)) (omega (arith, ints)) (omega (arith, ints))
y-local k false false = same_cyclotomic _ _ (omega (arith, ints)) (omega (arith, ints)) (omega (arith, ints)) (omega (arith, ints))

h-local : (k : Word → Cyclotomic) (c t : Bool) → through under_h k (c ∷ t ∷ []) ≡ pair_sum h_matrix k c t
unfolding through under_h plus times_w_power times_w
h-local k true true = same_cyclotomic _ _ (omega (arith, ints)) (omega (arith, ints)) (omega (arith, ints)) (omega (arith, ints))
h-local k true false = same_cyclotomic _ _ (omega (arith, ints)) (omega (arith, ints)) (omega (arith, ints)) (omega (arith, ints))
h-local k false true = same_cyclotomic _ _ (omega (arith, ints)) (omega (arith, ints)) (omega (arith, ints)) (omega (arith, ints))
h-local k false false = same_cyclotomic _ _ (omega (arith, ints)) (omega (arith, ints)) (omega (arith, ints)) (omega (arith, ints))

module _ (x : Word) (a b : ℕ) (ha : a < length x) (hb : b < length x) (ab : a ≢ b) where
  own_pair : puts x (a ∷ b ∷ []) (bit x a ∷ bit x b ∷ []) ≡ x
  own_pair = simp set-get_or

  changed_pair : (t : Bool) → puts x (a ∷ b ∷ []) (bit x a ∷ t ∷ []) ≡ set x b t
  changed_pair t = grind (arith, set_comm, set-get_or)

  on_two : (net : List Op) (k : Word → Cyclotomic) → AllWithin 2 net
      → through (map (relabel (a ∷ b ∷ [])) net) k x ≡ through net (λ u. k (puts x (a ∷ b ∷ []) u)) (bit x a ∷ bit x b ∷ [])
  on_two net k w =
      ap (through (map (relabel (a ∷ b ∷ [])) net) k) (sym own_pair)
      ∙ frame-through x (a ∷ b ∷ []) (two_apart a b ab) (ha, (hb, tt)) net k (bit x a ∷ bit x b ∷ []) refl w

  settled : (m : Matrix) (k : Word → Cyclotomic) → pair_sum m (λ u. k (puts x (a ∷ b ∷ []) u)) (bit x a) (bit x b) ≡ controlled_sum (bit x a) m b k x
  settled m k = λ i. cond (bit x a) (bit_sum m (λ t. k (changed_pair t i)) (bit x b)) (plus (k (own_pair i)) (k (own_pair i)))

  pub cy-law : (k : Word → Cyclotomic) → plus (through (Sdg b ∷ Cx a b ∷ S b ∷ []) k x) (through (Sdg b ∷ Cx a b ∷ S b ∷ []) k x) ≡ controlled_sum (bit x a) y_matrix b k x
  unfolding under_y relabel
  cy-law k = ap (λ u. plus u u) (on_two under_y k (omega arith)) ∙ y-local (λ u. k (puts x (a ∷ b ∷ []) u)) (bit x a) (bit x b) ∙ settled y_matrix k

  pub ch-law : (k : Word → Cyclotomic) → through (S b ∷ H b ∷ T b ∷ Cx a b ∷ Tdg b ∷ H b ∷ Sdg b ∷ []) k x ≡ controlled_sum (bit x a) h_matrix b k x
  unfolding under_h relabel
  ch-law k = on_two under_h k (omega arith) ∙ h-local (λ u. k (puts x (a ∷ b ∷ []) u)) (bit x a) (bit x b) ∙ settled h_matrix k

  -- ---- phases under a control

  -- the second X takes the first one back
  exchanged_back : set (set x b (xor (bit x a) (bit x b))) b (xor (bit (set x b (xor (bit x a) (bit x b))) a) (bit (set x b (xor (bit x a) (bit x b))) b)) ≡ x
  exchanged_back =
      ap (λ t. set (set x b (xor (bit x a) (bit x b))) b (xor t (bit (set x b (xor (bit x a) (bit x b))) b))) (get_or-set_other x b a (xor (bit x a) (bit x b)) false ab)
      ∙ ap (λ t. set (set x b (xor (bit x a) (bit x b))) b (xor (bit x a) t)) (get_or-set_same x b (xor (bit x a) (bit x b)) false hb)
      ∙ set-set x b _ _
      ∙ ap (set x b) (twice_xor (bit x a) (bit x b))
      ∙ set-get_or x b false
    where
      twice_xor : (c t : Bool) → xor c (xor c t) ≡ t
      twice_xor true true = refl
      twice_xor true false = refl
      twice_xor false true = refl
      twice_xor false false = refl

  -- what the phases bring
  abbrev brought : Phased → Cyclotomic → Bool → Bool → Cyclotomic
  brought p u c t = times_w_power (cond c p.control 0) (times_w_power (cond t p.target 0) (times_w_power 0 (times_w_power (cond (xor c t) (7 * (p.target % 8)) 0) (times_w_power 0 u))))

  phased-through : (p : Phased) (k : Word → Cyclotomic) → through (phased_ops p a b) k x ≡ brought p (k x) (bit x a) (bit x b)
  unfolding through
  phased-through p k =
      through-append (((phase_ops p.control a ++ phase_ops p.target b) ++ Cx a b ∷ []) ++ phase_ops (7 * (p.target % 8)) b) (Cx a b ∷ []) k x
      ∙ through-append ((phase_ops p.control a ++ phase_ops p.target b) ++ Cx a b ∷ []) (phase_ops (7 * (p.target % 8)) b) _ x
      ∙ through-append (phase_ops p.control a ++ phase_ops p.target b) (Cx a b ∷ []) _ x
      ∙ through-append (phase_ops p.control a) (phase_ops p.target b) _ x
      ∙ phases-through a p.control _ x
      ∙ ap (times_w_power (cond (bit x a) p.control 0)) (phases-through b p.target _ x)
      ∙ ap (λ u. times_w_power (cond (bit x a) p.control 0) (times_w_power (cond (bit x b) p.target 0) (times_w_power 0 u)))
      (phases-through b (7 * (p.target % 8)) _ (set x b (xor (bit x a) (bit x b)))
      ∙ ap (λ t. times_w_power (cond t (7 * (p.target % 8)) 0) (times_w_power 0 (k (set (set x b (xor (bit x a) (bit x b))) b (xor (bit (set x b (xor (bit x a) (bit x b))) a) (bit (set x b (xor (bit x a) (bit x b))) b))))))
      (get_or-set_same x b (xor (bit x a) (bit x b)) false hb)
      ∙ ap (λ v. times_w_power (cond (xor (bit x a) (bit x b)) (7 * (p.target % 8)) 0) (times_w_power 0 (k v))) exchanged_back)

  -- of a diagonal matrix whose powers are so far apart
  abbrev phases_in : Matrix → Phased
  phases_in m = record { control = m.e00.first % 8 + apart_in m / 2; target = apart_in m / 2 }

  gathered : (m n o : ℕ) (u : Cyclotomic) → times_w_power m (times_w_power n (times_w_power 0 (times_w_power o (times_w_power 0 u)))) ≡ times_w_power (m + (n + o)) u
  gathered m n o u =
      ap (λ v. times_w_power m (times_w_power n v)) (no_turn _ ∙ ap (times_w_power o) (no_turn u))
      ∙ ap (times_w_power m) (turns_add n o u)
      ∙ turns_add m (n + o) u

  phased-law : (m : Matrix) (k : Word → Cyclotomic) → is_diagonal m ≡ true → apart_in m % 2 ≡ 0
      → plus (through (phased_ops (phases_in m) a b) k x) (through (phased_ops (phases_in m) a b) k x) ≡ controlled_sum (bit x a) m b k x
  phased-law m k all even = ap (λ u. plus u u) (phased-through (phases_in m) k) ∙ by (bit x a) (bit x b) refl
    where
      own : (t : Bool) → bit x b ≡ t → set x b t ≡ x
      own t is = ap (set x b) (sym is) ∙ set-get_or x b false

      by : (c t : Bool) → bit x b ≡ t → plus (brought (phases_in m) (k x) c t) (brought (phases_in m) (k x) c t) ≡ cond c (cond t (plus (entry_times m.e01 (k (set x b false))) (entry_times m.e11 (k (set x b true)))) (plus (entry_times m.e00 (k (set x b false))) (entry_times m.e10 (k (set x b true))))) (plus (k x) (k x))
      by false false is = ap (λ u. plus u u) (gathered 0 0 0 (k x) ∙ no_turn (k x))
      by false true is = ap (λ u. plus u u) (gathered 0 (phases_in m).target (7 * ((phases_in m).target % 8)) (k x) ∙ same_power _ 0 (k x) (omega arith) ∙ no_turn (k x))
      by true false is =
          ap (λ u. plus u u) (gathered (phases_in m).control 0 (7 * ((phases_in m).target % 8)) (k x) ∙ same_power _ m.e00.first (k x) (omega arith))
          ∙ ap (λ v. plus (times_w_power m.e00.first (k v)) (times_w_power m.e00.first (k v))) (sym (own false is))
          ∙ sym (plus_nought _)
          ∙ ap₂ plus (sym (twice-entry m.e00 (k (set x b false)) (diagonal_parts m all).0)) (sym (none-entry m.e10 (k (set x b true)) (diagonal_parts m all).2))
      by true true is =
          ap (λ u. plus u u) (gathered (phases_in m).control (phases_in m).target 0 (k x) ∙ same_power _ m.e11.first (k x) (omega (arith, even)))
          ∙ ap (λ v. plus (times_w_power m.e11.first (k v)) (times_w_power m.e11.first (k v))) (sym (own true is))
          ∙ sym (nought_plus _)
          ∙ ap₂ plus (sym (none-entry m.e01 (k (set x b false)) (diagonal_parts m all).1)) (sym (twice-entry m.e11 (k (set x b true)) (diagonal_parts m all).3))

pub phased_count : (p : Phased) (a b : ℕ) → count_h (phased_ops p a b) ≡ 0
unfolding count_h
phased_count p a b = grind (arith, count-append, no_h)

pub phased_of-law : (m : Matrix) (p : Phased) (k : Word → Cyclotomic) (x : Word) (a b : ℕ) → a < length x → b < length x → a ≢ b → phased_of m ≡ Some p
    → twice_over (count_h (phased_ops p a b)) (through (phased_ops p a b) k x) ≡ controlled_sum (bit x a) m b k x
phased_of-law m p k x a b ha hb ab is =
    ap (λ n. twice_over n (through (phased_ops p a b) k x)) (phased_count p a b)
    ∙ by (is_diagonal m) refl (apart_in m % 2 == 0) refl is
  where
    Law : Phased → Type 0
    Law q = plus (through (phased_ops q a b) k x) (through (phased_ops q a b) k x) ≡ controlled_sum (bit x a) m b k x

    by : (d : Bool) → is_diagonal m ≡ d → (e : Bool) → (apart_in m % 2 == 0) ≡ e → cond (not d || not e) None (Some (phases_in x a b ha hb ab m)) ≡ Some p → Law p
    by true all true even is = subst Law (same_Some _ _ is) (phased-law x a b ha hb ab m k all (eqb-true _ _ even))
    by true all false even is = absurd (none-some p is)
    by false all e even is = absurd (none-some p is)

-- ---- on three lines

under_both : List Op
under_both = H 2 ∷ Ccx 0 1 2 ∷ H 2 ∷ []

abbrev triple_sum : Matrix → (Word → Cyclotomic) → Bool → Bool → Bool → Cyclotomic
triple_sum m k c d t = cond (c && d) (bit_sum m (λ b. k (c ∷ d ∷ b ∷ [])) t) (plus (k (c ∷ d ∷ t ∷ [])) (k (c ∷ d ∷ t ∷ [])))

z-local : (k : Word → Cyclotomic) (c d t : Bool) → through under_both k (c ∷ d ∷ t ∷ []) ≡ triple_sum z_matrix k c d t
unfolding through under_both plus times_w_power times_w
z-local k true true true = same_cyclotomic _ _ (omega (arith, ints)) (omega (arith, ints)) (omega (arith, ints)) (omega (arith, ints))
z-local k true true false = same_cyclotomic _ _ (omega (arith, ints)) (omega (arith, ints)) (omega (arith, ints)) (omega (arith, ints))
z-local k true false true = same_cyclotomic _ _ (omega (arith, ints)) (omega (arith, ints)) (omega (arith, ints)) (omega (arith, ints))
z-local k true false false = same_cyclotomic _ _ (omega (arith, ints)) (omega (arith, ints)) (omega (arith, ints)) (omega (arith, ints))
z-local k false true true = same_cyclotomic _ _ (omega (arith, ints)) (omega (arith, ints)) (omega (arith, ints)) (omega (arith, ints))
z-local k false true false = same_cyclotomic _ _ (omega (arith, ints)) (omega (arith, ints)) (omega (arith, ints)) (omega (arith, ints))
z-local k false false true = same_cyclotomic _ _ (omega (arith, ints)) (omega (arith, ints)) (omega (arith, ints)) (omega (arith, ints))
z-local k false false false = same_cyclotomic _ _ (omega (arith, ints)) (omega (arith, ints)) (omega (arith, ints)) (omega (arith, ints))

pub ccz-law : (k : Word → Cyclotomic) (x : Word) (a b c : ℕ) → a < length x → b < length x → c < length x → a ≢ b → a ≢ c → b ≢ c
    → through (H c ∷ Ccx a b c ∷ H c ∷ []) k x ≡ controlled_sum (bit x a && bit x b) z_matrix c k x
unfolding under_both relabel
ccz-law k x a b c ha hb hc ab ac bc =
    on_lines under_both k x a b c ha hb hc ab ac bc (omega arith)
    ∙ z-local (λ u. k (puts x (a ∷ b ∷ c ∷ []) u)) (bit x a) (bit x b) (bit x c)
    ∙ (λ i. cond (bit x a && bit x b) (bit_sum z_matrix (λ t. k (changed x a b c t ac bc i)) (bit x c)) (plus (k (own x a b c i)) (k (own x a b c i))))
