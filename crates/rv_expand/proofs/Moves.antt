-- The network of flips with at most two controls moves each word as the flips do.
use Rattle.std.proofs.Common.{◌≡◌, ◌≢◌, ℕ, ◌<◌, ◌≤◌, Bool, true, false, cond, ◌&&◌, eqb, List, []}
use Rattle.std.proofs.Common.{◌∷◌, ◌++◌, length, map, Option, Some, None, refl, sym, ◌∙◌, ap, arith}
use Rattle.std.proofs.Common.{subst}
use Rattle.std.specs.Prelude.{option_map}
use Rattle.std.proofs.lemmas.Bool.{and_parts, eqb-true, or_left}
use Rattle.std.proofs.lemmas.List.{set-get_or}
use Rattle.std.proofs.lemmas.List.Elements.{All-head, All-tail}
use Rattle.rv_gate.specs.Gate.{FitsIn, IsGate, Within, act, run, same, xor}
use Rattle.rv_gate.specs.Word.{has}
use Rattle.rv_gate.specs.declared.gate.Shape.{Shape}
use Rattle.rv_gate.specs.declared.gate.Shape.TheVariants.{Flip, Swap as SwapGate, Peres}
use Rattle.rv_gate.specs.declared.word.TheConstants.{MOST_LINES}
use Rattle.rv_gate.proofs.inside.GateLemmas.{fits_flip, length-act}
use Rattle.rv_mct.specs.Blocks.{controls_of}
use Rattle.rv_mct.specs.Extends.{IsPlain}
use Rattle.rv_mct.specs.declared.control.Control.{Control}
use Rattle.rv_mct.proofs.inside.Ladders.{met_all, put}
use Rattle.rv_mct.proofs.inside.LongFlips.{act_put}
use Rattle.rv_net.specs.Cyclotomic.{Cyclotomic, doubled, times_w_power}
use Rattle.rv_net.specs.Network.{flip_ops, on_zero}
use Rattle.rv_net.specs.declared.op.Op.{Op}
use Rattle.rv_net.specs.declared.op.Op.TheVariants.{Cx, Ccx, Swap, Cswap}
use Rattle.rv_net.proofs.Frame.{AllWithin, frame-through, puts, relabel, through, through-append, two_apart}
use Rattle.rv_net.proofs.Step.{Word, bit}
use Rattle.rv_net.proofs.Toffoli.{changed, on_lines}
use Rattle.rv_net.proofs.inside.Network.{ArePlain, Fits, fits_controls, through-flip}
use Rattle.rv_gate.proofs.Bits.{and_true}
use Rattle.rv_expand.specs.Toffoli.{as_swap, beside, flip_op, gate_op, is_on, is_only, swap_else, swap_op, toffoli_ops}

-- ---- one flip

abbrev pub on_line : ℕ → Bool → Control
on_line line wanted = record { line = line; wanted = wanted }

around : Bool → Bool → List Op
around p q = on_zero (on_line 0 p) ++ on_zero (on_line 1 q)

block : Bool → Bool → List Op
unfolding around
block p q = around p q ++ (Ccx 0 1 2 ∷ around p q)

through-block : (k : Word → Cyclotomic) (p q a b c : Bool) → through (block p q) k (a ∷ b ∷ c ∷ []) ≡ k (a ∷ b ∷ xor (same a p && same b q) c ∷ [])
unfolding block around through times_w_power
through-block k true true true true c = refl
through-block k true true true false c = refl
through-block k true true false true c = refl
through-block k true true false false c = refl
through-block k true false true true c = refl
through-block k true false true false c = refl
through-block k true false false true c = refl
through-block k true false false false c = refl
through-block k false true true true c = refl
through-block k false true true false c = refl
through-block k false true false true c = refl
through-block k false true false false c = refl
through-block k false false true true c = refl
through-block k false false true false c = refl
through-block k false false false true c = refl
through-block k false false false false c = refl

within_block : (p q : Bool) → AllWithin 3 (block p q)
unfolding block around
within_block true true = omega arith
within_block true false = omega arith
within_block false true = omega arith
within_block false false = omega arith

same_block : (a b t : ℕ) (p q : Bool) → map (relabel (a ∷ b ∷ t ∷ [])) (block p q) ≡ flip_op (on_line a p ∷ on_line b q ∷ []) t
unfolding block around relabel flip_op
same_block a b t true true = refl
same_block a b t true false = refl
same_block a b t false true = refl
same_block a b t false false = refl

through-two : (k : Word → Cyclotomic) (x : Word) (a b : Control) (t : ℕ) → Fits (length x) (a ∷ b ∷ []) t
    → through (flip_op (a ∷ b ∷ []) t) k x ≡ k (put x t (met_all (a ∷ b ∷ []) x))
unfolding Fits
through-two k x a b t h =
    ap (λ net. through net k x) (sym (same_block a.line b.line t a.wanted b.wanted))
    ∙ on_lines (block a.wanted b.wanted) k x a.line b.line t h.0 h.1 h.2 h.3 h.4 h.5 (within_block a.wanted b.wanted)
    ∙ through-block (λ u. k (puts x (a.line ∷ b.line ∷ t ∷ []) u)) a.wanted b.wanted (bit x a.line) (bit x b.line) (bit x t)
    ∙ ap k (changed x a.line b.line t (xor (same (bit x a.line) a.wanted && same (bit x b.line) b.wanted) (bit x t)) h.4 h.5)
    ∙ ap (λ (m : Bool). k (put x t (same (bit x a.line) a.wanted && m))) (sym (and_true (same (bit x b.line) b.wanted)))

through-flip_op : (k : Word → Cyclotomic) (x : Word) (cs : List Control) (t : ℕ) → Fits (length x) cs t → through (flip_op cs t) k x ≡ k (put x t (met_all cs x))
unfolding flip_op doubled Fits
through-flip_op k x [] t h = through-flip k x [] t h
through-flip_op k x (a ∷ []) t h = through-flip k x (a ∷ []) t h
through-flip_op k x (a ∷ b ∷ []) t h = through-two k x a b t h
through-flip_op k x (a ∷ b ∷ c ∷ more) t h = absurd h

pub parts_of : (n : ℕ) (care want t : ℕ) (gates : List Shape) → ArePlain n (Flip care want t ∷ gates) → Fits n (controls_of care want) t
parts_of n care want t gates h =
    let own = All-head IsGate (Flip care want t) gates h.0 in
    let fits = All-head (λ g. FitsIn g n) (Flip care want t) gates h.1 in
    fits_controls n care want t (λ line on. fits line (or_left (has care line) (eqb line t) on)) (fits_flip (Flip care want t) care want t n refl fits) own.1
    (All-head IsPlain (Flip care want t) gates h.2)

pub tail_of : (n : ℕ) (g : Shape) (gates : List Shape) → ArePlain n (g ∷ gates) → ArePlain n gates
tail_of n g gates h = (All-tail IsGate g gates h.0, All-tail (λ g. FitsIn g n) g gates h.1, All-tail IsPlain g gates h.2)

through-gate : (n : ℕ) (g : Shape) (gates : List Shape) (k : Word → Cyclotomic) (x : Word) → n ≤ MOST_LINES → length x ≡ n → ArePlain n (g ∷ gates)
    → through (gate_op g) k x ≡ k (act g x)
through-gate n (Flip care want t) gates k x few lx h =
    let fits = All-head (λ g. FitsIn g n) (Flip care want t) gates h.1 in
    let within : Within care n = λ line on. fits line (or_left (has care line) (eqb line t) on) in
    through-flip_op k x (controls_of care want) t (subst (λ m. Fits m (controls_of care want) t) (sym lx) (parts_of n care want t gates h))
    ∙ ap k (sym (act_put care want t n x lx few within))
through-gate n (SwapGate care want a b) gates k x few lx h = absurd (All-head IsPlain (SwapGate care want a b) gates h.2)
through-gate n (Peres a b c) gates k x few lx h = absurd (All-head IsPlain (Peres a b c) gates h.2)

-- ---- three that are a swap

-- two lines
exchange : (k : Word → Cyclotomic) (p q : Bool)
    → through (Swap 0 1 ∷ []) k (p ∷ q ∷ []) ≡ through (Cx 1 0 ∷ Cx 0 1 ∷ Cx 1 0 ∷ []) k (p ∷ q ∷ [])
unfolding through times_w_power
exchange k true true = refl
exchange k true false = refl
exchange k false true = refl
exchange k false false = refl

through-exchange : (k : Word → Cyclotomic) (x : Word) (a b : ℕ) → a < length x → b < length x → a ≢ b
    → through (Swap a b ∷ []) k x ≡ through (Cx b a ∷ Cx a b ∷ Cx b a ∷ []) k x
unfolding relabel
through-exchange k x a b la lb ab =
    let lines : List ℕ = a ∷ b ∷ [] in
    let own : puts x lines (bit x a ∷ bit x b ∷ []) ≡ x = simp set-get_or in
    let short : List Op = Swap 0 1 ∷ [] in
    let long : List Op = Cx 1 0 ∷ Cx 0 1 ∷ Cx 1 0 ∷ [] in
    ap (through (map (relabel lines) short) k) (sym own)
    ∙ frame-through x lines (two_apart a b ab) (la, (lb, tt)) short k (bit x a ∷ bit x b ∷ []) refl (omega arith)
    ∙ exchange (λ u. k (puts x lines u)) (bit x a) (bit x b)
    ∙ sym (frame-through x lines (two_apart a b ab) (la, (lb, tt)) long k (bit x a ∷ bit x b ∷ []) refl (omega arith))
    ∙ ap (through (map (relabel lines) long) k) own

-- with a control, which stands before the other one or after it
abbrev last_zero : Bool → List Op
last_zero w = on_zero (on_line 2 w)

short_cswap : Bool → List Op
short_cswap w = last_zero w ++ (Cswap 2 0 1 ∷ last_zero w)

long_after : Bool → List Op
long_after w = Cx 1 0 ∷ ((last_zero w ++ (Ccx 0 2 1 ∷ last_zero w)) ++ (Cx 1 0 ∷ []))

long_before : Bool → List Op
long_before w = Cx 1 0 ∷ (((last_zero w ++ []) ++ (Ccx 2 0 1 ∷ (last_zero w ++ []))) ++ (Cx 1 0 ∷ []))

cexchange_after : (k : Word → Cyclotomic) (w p q r : Bool) → through (short_cswap w) k (p ∷ q ∷ r ∷ []) ≡ through (long_after w) k (p ∷ q ∷ r ∷ [])
unfolding short_cswap long_after through times_w_power
cexchange_after k true true true true = refl
cexchange_after k true true true false = refl
cexchange_after k true true false true = refl
cexchange_after k true true false false = refl
cexchange_after k true false true true = refl
cexchange_after k true false true false = refl
cexchange_after k true false false true = refl
cexchange_after k true false false false = refl
cexchange_after k false true true true = refl
cexchange_after k false true true false = refl
cexchange_after k false true false true = refl
cexchange_after k false true false false = refl
cexchange_after k false false true true = refl
cexchange_after k false false true false = refl
cexchange_after k false false false true = refl
cexchange_after k false false false false = refl

cexchange_before : (k : Word → Cyclotomic) (w p q r : Bool) → through (short_cswap w) k (p ∷ q ∷ r ∷ []) ≡ through (long_before w) k (p ∷ q ∷ r ∷ [])
unfolding short_cswap long_before through times_w_power
cexchange_before k true true true true = refl
cexchange_before k true true true false = refl
cexchange_before k true true false true = refl
cexchange_before k true true false false = refl
cexchange_before k true false true true = refl
cexchange_before k true false true false = refl
cexchange_before k true false false true = refl
cexchange_before k true false false false = refl
cexchange_before k false true true true = refl
cexchange_before k false true true false = refl
cexchange_before k false true false true = refl
cexchange_before k false true false false = refl
cexchange_before k false false true true = refl
cexchange_before k false false true false = refl
cexchange_before k false false false true = refl
cexchange_before k false false false false = refl

within_short : (w : Bool) → AllWithin 3 (short_cswap w)
unfolding short_cswap
within_short true = omega arith
within_short false = omega arith

within_after : (w : Bool) → AllWithin 3 (long_after w)
unfolding long_after
within_after true = omega arith
within_after false = omega arith

within_before : (w : Bool) → AllWithin 3 (long_before w)
unfolding long_before
within_before true = omega arith
within_before false = omega arith

same_short : (a b c : ℕ) (w : Bool) → map (relabel (a ∷ b ∷ c ∷ [])) (short_cswap w) ≡ swap_op (Some (on_line c w)) a b
unfolding short_cswap relabel
same_short a b c true = refl
same_short a b c false = refl

same_after : (a b c : ℕ) (w : Bool)
    → map (relabel (a ∷ b ∷ c ∷ [])) (long_after w) ≡ flip_op (on_line b true ∷ []) a ++ (flip_op (on_line a true ∷ on_line c w ∷ []) b ++ flip_op (on_line b true ∷ []) a)
unfolding long_after relabel flip_op flip_ops
same_after a b c true = refl
same_after a b c false = refl

same_before : (a b c : ℕ) (w : Bool)
    → map (relabel (a ∷ b ∷ c ∷ [])) (long_before w) ≡ flip_op (on_line b true ∷ []) a ++ (flip_op (on_line c w ∷ on_line a true ∷ []) b ++ flip_op (on_line b true ∷ []) a)
unfolding long_before relabel flip_op flip_ops
same_before a b c true = refl
same_before a b c false = refl

same_exchange : (a b : ℕ)
    → Cx b a ∷ Cx a b ∷ Cx b a ∷ [] ≡ flip_op (on_line b true ∷ []) a ++ (flip_op (on_line a true ∷ []) b ++ flip_op (on_line b true ∷ []) a)
unfolding flip_op flip_ops
same_exchange a b = refl

-- the three flips do what the swap does
abbrev Three : ℕ → ℕ → List Control → List Op
Three a b inner = flip_op (on_line b true ∷ []) a ++ (flip_op inner b ++ flip_op (on_line b true ∷ []) a)

module _ (k : Word → Cyclotomic) (x : Word) (a b : ℕ) where
  swap-none : Fits (length x) (on_line a true ∷ []) b → through (swap_op None a b) k x ≡ through (Three a b (on_line a true ∷ [])) k x
  unfolding Fits
  swap-none h = through-exchange k x a b h.0 h.1 h.2 ∙ ap (λ net. through net k x) (same_exchange a b)

  swap-after : (c : Control) → Fits (length x) (on_line a true ∷ c ∷ []) b → through (swap_op (Some c) a b) k x ≡ through (Three a b (on_line a true ∷ c ∷ [])) k x
  unfolding Fits
  swap-after c h =
      let bc : b ≢ c.line = λ e. h.5 (sym e) in
      ap (λ net. through net k x) (sym (same_short a b c.line c.wanted))
      ∙ on_lines (short_cswap c.wanted) k x a b c.line h.0 h.2 h.1 h.4 h.3 bc (within_short c.wanted)
      ∙ cexchange_after (λ u. k (puts x (a ∷ b ∷ c.line ∷ []) u)) c.wanted (bit x a) (bit x b) (bit x c.line)
      ∙ sym (on_lines (long_after c.wanted) k x a b c.line h.0 h.2 h.1 h.4 h.3 bc (within_after c.wanted))
      ∙ ap (λ net. through net k x) (same_after a b c.line c.wanted)

  swap-before : (c : Control) → Fits (length x) (c ∷ on_line a true ∷ []) b → through (swap_op (Some c) a b) k x ≡ through (Three a b (c ∷ on_line a true ∷ [])) k x
  unfolding Fits
  swap-before c h =
      let bc : b ≢ c.line = λ e. h.4 (sym e) in
      let ac : a ≢ c.line = λ e. h.3 (sym e) in
      ap (λ net. through net k x) (sym (same_short a b c.line c.wanted))
      ∙ on_lines (short_cswap c.wanted) k x a b c.line h.1 h.2 h.0 h.5 ac bc (within_short c.wanted)
      ∙ cexchange_before (λ u. k (puts x (a ∷ b ∷ c.line ∷ []) u)) c.wanted (bit x a) (bit x b) (bit x c.line)
      ∙ sym (on_lines (long_before c.wanted) k x a b c.line h.1 h.2 h.0 h.5 ac bc (within_before c.wanted))
      ∙ ap (λ net. through net k x) (same_before a b c.line c.wanted)

on-is : (line : ℕ) (c : Control) → is_on line c ≡ true → c ≡ on_line line true
on-is line c on = let p = and_parts c.wanted (eqb c.line line) on in λ i. record { line = eqb-true c.line line p.1 i; wanted = p.0 i }

only-is : (line : ℕ) (cs : List Control) → is_only line cs ≡ true → cs ≡ on_line line true ∷ []
only-is line [] on = absurd (let z = on in cc)
only-is line (c ∷ []) on = ap (λ d. d ∷ []) (on-is line c on)
only-is line (c ∷ d ∷ more) on = absurd (let z = on in cc)

-- what can stand beside a control on a
pub beside-cases : (a : ℕ) (P : List Control → Option Control → Type 0) → P (on_line a true ∷ []) None → ((d : Control) → P (on_line a true ∷ d ∷ []) (Some d))
    → ((c : Control) → P (c ∷ on_line a true ∷ []) (Some c)) → (inner : List Control) (control : Option Control) → beside a inner ≡ Some control → P inner control
beside-cases a P none after before [] control is = absurd (let z = is in cc)
beside-cases a P none after before (c ∷ []) control is = go (is_on a c) refl is
  where
    go : (t : Bool) → is_on a c ≡ t → cond t (Some None) None ≡ Some control → P (c ∷ []) control
    go true on e =
        let other : None ≡ control = let z = e in cc in
        subst (λ o. P (c ∷ []) o) other (subst (λ d. P (d ∷ []) None) (sym (on-is a c on)) none)
    go false on e = absurd (let z = e in cc)
beside-cases a P none after before (c ∷ d ∷ []) control is = go (is_on a c) (is_on a d) refl refl is
  where
    go : (s t : Bool) → is_on a c ≡ s → is_on a d ≡ t → cond s (Some (Some d)) (cond t (Some (Some c)) None) ≡ Some control → P (c ∷ d ∷ []) control
    go true t first second e =
        let other : Some d ≡ control = let z = e in cc in
        subst (λ o. P (c ∷ d ∷ []) o) other (subst (λ o. P (o ∷ d ∷ []) (Some d)) (sym (on-is a c first)) (after d))
    go false true first second e =
        let other : Some c ≡ control = let z = e in cc in
        subst (λ o. P (c ∷ d ∷ []) o) other (subst (λ o. P (c ∷ o ∷ []) (Some c)) (sym (on-is a d second)) (before c))
    go false false first second e = absurd (let z = e in cc)
beside-cases a P none after before (c ∷ d ∷ e ∷ more) control is = absurd (let z = is in cc)

-- with controls that stand beside one on a
swap-beside : (k : Word → Cyclotomic) (x : Word) (a b : ℕ) (inner : List Control) (control : Option Control) → beside a inner ≡ Some control → Fits (length x) inner b
    → through (swap_op control a b) k x ≡ through (Three a b inner) k x
swap-beside k x a b =
    beside-cases a (λ inner control. Fits (length x) inner b → through (swap_op control a b) k x ≡ through (Three a b inner) k x)
    (swap-none k x a b) (swap-after k x a b) (swap-before k x a b)

-- what three flips are that are a swap
pub record IsSwap (g h l : Shape) (swap : List Op) : Type 0 where
  pub a : ℕ
  pub b : ℕ
  pub inner : List Control
  pub control : Option Control
  pub first : gate_op g ≡ flip_op (on_line b true ∷ []) a
  pub middle : gate_op h ≡ flip_op inner b
  pub last : gate_op l ≡ gate_op g
  pub beside_is : beside a inner ≡ Some control
  pub swap_is : swap ≡ swap_op control a b
  pub fits : (n : ℕ) (gates : List Shape) → ArePlain n (h ∷ gates) → Fits n inner b

pub is-swap : (g h l : Shape) (swap : List Op) → as_swap g h l ≡ Some swap → IsSwap g h l swap
is-swap (Flip care want a) (Flip inner_care inner_want b) (Flip last_care last_want c) swap is =
    go ((eqb last_care care) && (eqb last_want want) && (eqb c a) && is_only b (controls_of care want)) refl (beside a (controls_of inner_care inner_want)) refl is
  where
    go : (t : Bool) → (eqb last_care care && eqb last_want want && eqb c a && is_only b (controls_of care want)) ≡ t → (o : Option (Option Control))
        → beside a (controls_of inner_care inner_want) ≡ o → cond t (option_map (λ control. swap_op control a b) o) None ≡ Some swap
        → IsSwap (Flip care want a) (Flip inner_care inner_want b) (Flip last_care last_want c) swap
    go true test (Some control) beside_is e =
        let p = and_parts (eqb last_care care && eqb last_want want && eqb c a) (is_only b (controls_of care want)) test in
        let q = and_parts (eqb last_care care && eqb last_want want) (eqb c a) p.0 in
        let r = and_parts (eqb last_care care) (eqb last_want want) q.0 in
        let care_is = eqb-true last_care care r.0 in
        let want_is = eqb-true last_want want r.1 in
        let target_is = eqb-true c a q.1 in
        let made : swap_op control a b ≡ swap = let z = e in cc in
        record {
          a = a;
          b = b;
          inner = controls_of inner_care inner_want;
          control = control;
          first = ap (λ cs. flip_op cs a) (only-is b (controls_of care want) p.1);
          middle = refl;
          last = λ i. flip_op (controls_of (care_is i) (want_is i)) (target_is i);
          beside_is = beside_is;
          swap_is = sym made;
          fits = λ n gates plain. parts_of n inner_care inner_want b gates plain;
        }
    go true test None beside_is e = absurd (let z = e in cc)
    go false test o beside_is e = absurd (let z = e in cc)
is-swap (Flip care want a) (Flip inner_care inner_want b) (SwapGate c w p q) swap is = absurd (let z = is in cc)
is-swap (Flip care want a) (Flip inner_care inner_want b) (Peres p q r) swap is = absurd (let z = is in cc)
is-swap (Flip care want a) (SwapGate c w p q) l swap is = absurd (let z = is in cc)
is-swap (Flip care want a) (Peres p q r) l swap is = absurd (let z = is in cc)
is-swap (SwapGate c w p q) h l swap is = absurd (let z = is in cc)
is-swap (Peres p q r) h l swap is = absurd (let z = is in cc)

through-swap : (n : ℕ) (g h l : Shape) (gates : List Shape) (swap : List Op) (k : Word → Cyclotomic) (x : Word) → as_swap g h l ≡ Some swap → length x ≡ n → ArePlain n (h ∷ gates)
    → through swap k x ≡ through (gate_op g ++ (gate_op h ++ gate_op l)) k x
through-swap n g h l gates swap k x is lx plain =
    let s = is-swap g h l swap is in
    ap (λ net. through net k x) s.swap_is
    ∙ swap-beside k x s.a s.b s.inner s.control s.beside_is (subst (λ m. Fits m s.inner s.b) (sym lx) (s.fits n gates plain))
    ∙ sym (ap (λ net. through net k x) (λ i. s.first i ++ (s.middle i ++ (s.last ∙ s.first) i)))

-- ---- gate after gate

module _ (n : ℕ) (few : n ≤ MOST_LINES) where
  pub through-toffolis : (gates : List Shape) (k : Word → Cyclotomic) (x : Word) → length x ≡ n → ArePlain n gates → through (toffoli_ops gates) k x ≡ k (run gates x)
  unfolding toffoli_ops through
  through-toffolis [] k x lx plain = refl
  through-toffolis (g ∷ []) k x lx plain = through-gate n g [] k x few lx plain
  through-toffolis (g ∷ h ∷ []) k x lx plain =
      through-append (gate_op g) (gate_op h) k x
      ∙ through-gate n g (h ∷ []) (λ v. through (gate_op h) k v) x few lx plain
      ∙ through-gate n h [] k (act g x) few (length-act g x ∙ lx) (tail_of n g (h ∷ []) plain)
  through-toffolis (g ∷ h ∷ l ∷ rest) k x lx plain =
      go (through-toffolis rest k) (through-toffolis (h ∷ l ∷ rest) k) (as_swap g h l) refl
    where
      one : ArePlain n (h ∷ l ∷ rest)
      one = tail_of n g (h ∷ l ∷ rest) plain

      two : ArePlain n (l ∷ rest)
      two = tail_of n h (l ∷ rest) one

      lg : length (act g x) ≡ n
      lg = length-act g x ∙ lx

      lh : length (act h (act g x)) ≡ n
      lh = length-act h (act g x) ∙ lg

      go : ((y : Word) → length y ≡ n → ArePlain n rest → through (toffoli_ops rest) k y ≡ k (run rest y))
          → ((y : Word) → length y ≡ n → ArePlain n (h ∷ l ∷ rest) → through (toffoli_ops (h ∷ l ∷ rest)) k y ≡ k (run (h ∷ l ∷ rest) y))
          → (o : Option (List Op)) → as_swap g h l ≡ o
          → through (swap_else o (toffoli_ops rest) (gate_op g ++ toffoli_ops (h ∷ l ∷ rest))) k x ≡ k (run (g ∷ h ∷ l ∷ rest) x)
      go later next None is =
          through-append (gate_op g) (toffoli_ops (h ∷ l ∷ rest)) k x
          ∙ through-gate n g (h ∷ l ∷ rest) (λ v. through (toffoli_ops (h ∷ l ∷ rest)) k v) x few lx plain
          ∙ next (act g x) lg one
      go later next (Some swap) is =
          let m : Word → Cyclotomic = λ v. through (toffoli_ops rest) k v in
          through-append swap (toffoli_ops rest) k x
          ∙ through-swap n g h l (l ∷ rest) swap m x is lx one
          ∙ through-append (gate_op g) (gate_op h ++ gate_op l) m x
          ∙ through-gate n g (h ∷ l ∷ rest) (λ v. through (gate_op h ++ gate_op l) m v) x few lx plain
          ∙ through-append (gate_op h) (gate_op l) m (act g x)
          ∙ through-gate n h (l ∷ rest) (λ v. through (gate_op l) m v) (act g x) few lg one
          ∙ through-gate n l rest m (act h (act g x)) few lh two
          ∙ later (act l (act h (act g x))) (length-act l (act h (act g x)) ∙ lh) (tail_of n l rest two)
