-- The network of a circuit is its run, whatever the added lines may hold.
use Rattle.std.proofs.Common.{◌≡◌, ℕ, zero, suc, ◌+◌, ◌-◌, ◌<◌, ◌≤◌, Bool, true, false, cond, eqb, List, [], ◌∷◌, ◌++◌, length, get_or, replicate, set, refl, sym, ◌∙◌, ap, ap₂, inl, inr, arith, length-set, get_or-set_other, subst, append-nil}
use Rattle.std.proofs.lemmas.Bool.{cases_lt, eqb-true, false≢true, le-ltb, lt-ltb, or_cases, or_left}
use Rattle.std.proofs.Math.Nat.{le-max_left, le-max_right}
use Rattle.std.proofs.lemmas.List.{length-replicate, length-append, get_or-append_right}
use Rattle.std.proofs.lemmas.List.Elements.{All-cons, All-head, All-nil, All-tail}
use Rattle.rv_net.proofs.Counting.{network_fits}
use Rattle.rv_net.specs.Op.{OpFitsIn}
use Rattle.std.specs.List.{All, flat_map}
use Rattle.rv_gate.specs.Gate.{FitsIn, IsGate, Within, act, holds, run, IsFlipOn, same_word}
use Rattle.rv_gate.specs.Greatest.{greatest}
use Rattle.rv_gate.specs.Word.{has}
use Rattle.rv_gate.specs.declared.gate.Shape.{Shape}
use Rattle.rv_gate.specs.declared.gate.Shape.TheVariants.{Flip, Swap, Peres}
use Rattle.rv_gate.proofs.inside.GateLemmas.{fits_flip, flip_if, length-act}
use Rattle.rv_gate.proofs.Longer.{act_append}
use Rattle.rv_mct.specs.Blocks.{added, controls_of, count, count_lines, flip_wish, flips_of, is_free, rising, wish}
use Rattle.rv_mct.specs.Extends.{IsPlain, MayHold}
use Rattle.rv_mct.specs.declared.aux.Aux.{Aux}
use Rattle.rv_mct.specs.declared.aux.Aux.TheVariants.{Borrowed, Clean}
use Rattle.rv_mct.specs.declared.control.Control.{Control}
use Rattle.rv_mct.specs.inside.Long.{Ready}
use Rattle.rv_gate.specs.Every.{Every}
use Rattle.rv_mct.proofs.inside.LongFlips.{act_put}
use Rattle.rv_mct.proofs.inside.Gates.{first_free, flips_own, free_some, long_of, run_flips}
use Rattle.rv_net.specs.declared.op.Op.{Op}
use Rattle.rv_net.specs.Amplitude.{amplitude, count_h}
use Rattle.rv_net.specs.Cyclotomic.{nought, power, root2, unity, doubled}
use Rattle.rv_net.specs.Denotes.{Carries, amplitude_of_map}
use Rattle.rv_net.specs.Network.{flip_ops, network_of}
use Rattle.rv_net.proofs.Step.{Word, delta, same_amp}
use Rattle.rv_net.proofs.Cyclotomic.{doubled-nought, doubled-unity}
use Rattle.rv_net.proofs.Frame.{through}
use Rattle.rv_net.proofs.inside.Network.{Fits, amp-through, count_h-flip, fits_controls, through-flip, twos}
use Rattle.rv_ladder.specs.Ladder.{borrowed_net, flip_net, gate_net, long_net, relative_network, split_net}
use Rattle.rv_ladder.proofs.inside.Fitting.{Fit, all_fit, fit_all}
use Rattle.rv_ladder.proofs.inside.Nets.{HasLength, Runs, runs_as, runs_then}
use Rattle.rv_ladder.proofs.inside.Flips.{runs_borrowed_net, runs_split_net}
use Rattle.rv_ladder.proofs.inside.Clean.{ZeroFrom, runs_clean_net}

-- what a word on all lines is
abbrev pub Held : Aux → ℕ → ℕ → Word → Type 0
Held Borrowed n extra x = HasLength (n + extra) x
Held Clean n extra x = ZeroFrom n (n + extra) x

pub held_length : (aux : Aux) (n extra : ℕ) (x : Word) → Held aux n extra x → length x ≡ n + extra
held_length Borrowed n extra x h = h
held_length Clean n extra x h = h.0

pub held_set : (aux : Aux) (n extra : ℕ) (x : Word) (t : ℕ) (v : Bool) → t < n → Held aux n extra x → Held aux n extra (set x t v)
held_set Borrowed n extra x t v lt h = length-set x t v ∙ h
held_set Clean n extra x t v lt h = (length-set x t v ∙ h.0, λ z le. get_or-set_other x t z v false (λ e. omega arith) ∙ h.1 z le)

-- ---- a flip with at most two controls

plain_fits : (m care want t : ℕ) → IsGate (Flip care want t) → Within care m → t < m → count_lines care ≤ 2 → All (λ o. OpFitsIn o m) (flip_ops (controls_of care want) t)
unfolding network_of
plain_fits m care want t is within lt plain =
    let g : Shape = Flip care want t in
    let fits : FitsIn g m = λ line on. elim (or_cases (has care line) (eqb line t) on) [ inl x ↦ within line x | inr x ↦ (let e : line ≡ t = eqb-true line t x in omega (arith, e, lt)) ] in
    subst (All (λ o. OpFitsIn o m)) (append-nil (flip_ops (controls_of care want) t))
    (network_fits m (g ∷ []) (All-cons IsGate g [] is (All-nil IsGate), All-cons (λ h. FitsIn h m) g [] fits (All-nil (λ h. FitsIn h m)), All-cons IsPlain g [] plain (All-nil IsPlain)))

pub runs_plain : (aux : Aux) (n extra care want t : ℕ) → n + extra ≤ 64 → IsFlipOn n (Flip care want t) → count_lines care ≤ 2 → Runs (Held aux n extra) (flip_ops (controls_of care want) t) (act (Flip care want t))
runs_plain aux n extra care want t few own plain =
    let cs : List Control = controls_of care want in
    let all : ℕ = n + extra in
    let lt : t < n = fits_flip (Flip care want t) care want t n refl own.2 in
    let within : Within care all = λ line on. let l : line < n = own.2 line (or_left (has care line) (eqb line t) on) in omega arith in
    let fits : Fits all cs t = fits_controls all care want t within (omega arith) own.1.1 plain in
    record {
      twos = twos cs;
      each = λ k x h.
          let e = held_length aux n extra x h in
          through-flip k x cs t (subst (λ m. Fits m cs t) (sym e) fits)
          ∙ ap (λ w. doubled (twos cs) (k w)) (sym (act_put care want t all x e few within));
      counted = count_h-flip cs t all fits;
      fitting = λ x h. subst (λ m. Fit m (flip_ops cs t)) (sym (held_length aux n extra x h)) (all_fit all (flip_ops cs t) (plain_fits all care want t own.1 within (omega arith) plain));
    }

-- ---- a flip

runs_long : (aux : Aux) (n extra care want t : ℕ) → Ready aux n extra care want t → 3 ≤ count_lines care → Runs (Held aux n extra) (long_net aux n extra care want t) (act (Flip care want t))
runs_long Clean n extra care want t r many =
    let e : count_lines care - 2 ≤ extra = r.enough in
    runs_clean_net n extra care want t r.few (λ line on. r.own.2 line (or_left (has care line) (eqb line t) on)) (fits_flip (Flip care want t) care want t n refl r.own.2) r.own.1.1 (omega arith) (omega arith)
runs_long Borrowed n extra care want t r many =
    let long = long_of Borrowed n extra care want t r in
    let N : ℕ = n + extra in
    let f = first_free (is_free care t) N (free_some n extra care want t r many) in
    elim (cases_lt (count (is_free care t) N + 2) (count_lines care)) [
      | inl lt ↦
          subst (λ b. Runs (HasLength N) (cond b (split_net N care want t (get_or (rising (is_free care t) N) 0 0)) (borrowed_net N care want t)) (act (Flip care want t))) (sym (lt-ltb _ _ lt))
          (runs_split_net N care want t (get_or (rising (is_free care t) N) 0 0) long many f.0 f.1)
      | inr ge ↦
          subst (λ b. Runs (HasLength N) (cond b (split_net N care want t (get_or (rising (is_free care t) N) 0 0)) (borrowed_net N care want t)) (act (Flip care want t))) (sym (le-ltb _ _ ge))
          (runs_borrowed_net N care want t long (omega arith) ge)
    ]

pub runs_flip : (aux : Aux) (n extra : ℕ) (g : Shape) → n + extra ≤ 64 → IsFlipOn n g → flip_wish aux n g ≤ extra → Runs (Held aux n extra) (flip_net aux n extra g) (act g)
runs_flip aux n extra (Flip care want t) few own enough =
    elim (cases_lt (count_lines care) 3) [
      | inl lt ↦
          subst (λ b. Runs (Held aux n extra) (cond b (flip_ops (controls_of care want) t) (long_net aux n extra care want t)) (act (Flip care want t))) (sym (lt-ltb (count_lines care) 3 lt))
          (runs_plain aux n extra care want t few own (omega arith))
      | inr ge ↦
          subst (λ b. Runs (Held aux n extra) (cond b (flip_ops (controls_of care want) t) (long_net aux n extra care want t)) (act (Flip care want t))) (sym (le-ltb (count_lines care) 3 ge))
          (runs_long aux n extra care want t (record { few = few; own = own; enough = enough }) ge)
    ]
runs_flip aux n extra (Swap care want a b) few own enough = absurd (false≢true own.0)
runs_flip aux n extra (Peres a b c) few own enough = absurd (false≢true own.0)

pub held_act : (aux : Aux) (n extra : ℕ) (g : Shape) (x : Word) → IsFlipOn n g → Held aux n extra x → Held aux n extra (act g x)
held_act aux n extra (Flip care want t) x own h =
    let lt : t < n = fits_flip (Flip care want t) care want t n refl own.2 in
    subst (Held aux n extra) (sym (flip_if (holds care want x) x t)) (held_set aux n extra x t _ lt h)
held_act aux n extra (Swap care want a b) x own h = absurd (false≢true own.0)
held_act aux n extra (Peres a b c) x own h = absurd (false≢true own.0)

pub held_run : (aux : Aux) (n extra : ℕ) (flips : List Shape) (x : Word) → Every (IsFlipOn n) flips → Held aux n extra x → Held aux n extra (run flips x)
held_run aux n extra [] x own h = h
held_run aux n extra (g ∷ rest) x own h = held_run aux n extra rest (act g x) own.1 (held_act aux n extra g x own.0 h)

-- ---- gates

pub runs_none : (ok : Word → Type 0) → Runs ok [] (λ x. x)
unfolding through doubled count_h
runs_none ok = record { twos = 0; each = λ k x o. refl; counted = refl; fitting = λ x o. tt }

runs_flips : (aux : Aux) (n extra : ℕ) (flips : List Shape) → n + extra ≤ 64 → Every (IsFlipOn n) flips → greatest (flip_wish aux n) flips ≤ extra
    → Runs (Held aux n extra) (flat_map (flip_net aux n extra) flips) (run flips)
unfolding greatest
runs_flips aux n extra [] few own enough = runs_none (Held aux n extra)
runs_flips aux n extra (g ∷ rest) few own enough =
    let l = le-max_left (flip_wish aux n g) (greatest (flip_wish aux n) rest) in
    let r = le-max_right (flip_wish aux n g) (greatest (flip_wish aux n) rest) in
    runs_then (Held aux n extra) (flip_net aux n extra g) (flat_map (flip_net aux n extra) rest) (act g) (run rest)
    (runs_flip aux n extra g few own.0 (omega arith)) (runs_flips aux n extra rest few own.1 (omega arith)) (λ x h. held_act aux n extra g x own.0 h)

pub flips_are : (aux : Aux) (n extra : ℕ) (g : Shape) (x : Word) → IsGate g → FitsIn g n → Held aux n extra x → run (flips_of g) x ≡ act g x
flips_are aux n extra g x is fits h = let e = held_length aux n extra x h in run_flips g x is (λ line on. let l : line < n = fits line on in omega (arith, e, l))

runs_gate : (aux : Aux) (n extra : ℕ) (g : Shape) → n + extra ≤ 64 → IsGate g → FitsIn g n → wish aux n g ≤ extra → Runs (Held aux n extra) (gate_net aux n extra g) (act g)
runs_gate aux n extra g few is fits enough =
    runs_as (Held aux n extra) _ _ _ (runs_flips aux n extra (flips_of g) few (flips_own g n (omega arith) is fits) enough) (λ x h. flips_are aux n extra g x is fits h)

held_gate : (aux : Aux) (n extra : ℕ) (g : Shape) (x : Word) → n ≤ 64 → IsGate g → FitsIn g n → Held aux n extra x → Held aux n extra (act g x)
held_gate aux n extra g x few is fits h = subst (Held aux n extra) (flips_are aux n extra g x is fits h) (held_run aux n extra (flips_of g) x (flips_own g n few is fits) h)

pub runs_network : (aux : Aux) (n extra : ℕ) (gates : List Shape) → n + extra ≤ 64 → All IsGate gates → All (λ g. FitsIn g n) gates → added aux n gates ≤ extra
    → Runs (Held aux n extra) (relative_network aux n extra gates) (run gates)
unfolding greatest
runs_network aux n extra [] few is fits enough = runs_none (Held aux n extra)
runs_network aux n extra (g ∷ rest) few is fits enough =
    let l = le-max_left (wish aux n g) (greatest (wish aux n) rest) in
    let r = le-max_right (wish aux n g) (greatest (wish aux n) rest) in
    let own = All-head IsGate g rest is in
    let fit = All-head (λ h. FitsIn h n) g rest fits in
    runs_then (Held aux n extra) (gate_net aux n extra g) (relative_network aux n extra rest) (act g) (run rest)
    (runs_gate aux n extra g few own fit (omega arith)) (runs_network aux n extra rest few (All-tail IsGate g rest is) (All-tail (λ h. FitsIn h n) g rest fits) (omega arith))
    (λ x h. held_gate aux n extra g x (omega arith) own fit h)

-- ---- in amplitudes

pub amplitudes : (ok : Word → Type 0) (ops : List Op) (p : Word → Word) (x y : Word) → Runs ok ops p → ok x → amplitude ops x y ≡ amplitude_of_map ops (p x) y
unfolding delta
amplitudes ok ops p x y r o =
    sym (same_amp ops x y) ∙ amp-through ops x y ∙ r.each (λ v. delta v y) x o ∙ go (same_word (p x) y)
    ∙ ap (λ u. cond (same_word (p x) y) u nought) (sym (ap (power root2) r.counted ∙ doubled-unity r.twos))
  where
    go : (s : Bool) → doubled r.twos (cond s unity nought) ≡ cond s (doubled r.twos unity) nought
    go true = refl
    go false = doubled-nought r.twos

-- ---- words with further lines

none : (k i : ℕ) → get_or (replicate k false) i false ≡ false
none zero i = refl
none (suc k) zero = refl
none (suc k) (suc i) = none k i

pub held_with : (aux : Aux) (n extra : ℕ) (word held : Word) → length word ≡ n → length held ≡ extra → MayHold aux held → Held aux n extra (word ++ held)
held_with Borrowed n extra word held lw lh may = length-append word held ∙ ap₂ (λ p q. p + q) lw lh
held_with Clean n extra word held lw lh may = (
  length-append word held ∙ ap₂ (λ p q. p + q) lw lh,
  λ z le. get_or-append_right word held n z false lw le ∙ ap (λ l. get_or l (z - n) false) may ∙ none (length held) (z - n),
)

flips_append : (n : ℕ) (flips : List Shape) (word held : Word) → length word ≡ n → Every (IsFlipOn n) flips → run flips (word ++ held) ≡ run flips word ++ held
flips_append n [] word held e own = refl
flips_append n (g ∷ rest) word held e own =
    ap (run rest) (act_append g word held own.0.0 (rw e own.0.2))
    ∙ flips_append n rest (act g word) held (length-act g word ∙ e) own.1

gate_append : (n : ℕ) (g : Shape) (word held : Word) → n ≤ 64 → length word ≡ n → IsGate g → FitsIn g n → act g (word ++ held) ≡ act g word ++ held
gate_append n g word held few e is fits =
    sym (flips_are Borrowed n (length held) g (word ++ held) is fits (length-append word held ∙ ap (λ k. k + length held) e))
    ∙ flips_append n (flips_of g) word held e (flips_own g n few is fits)
    ∙ ap (λ w. w ++ held) (run_flips g word is (rw e fits))

pub run_append : (n : ℕ) (gates : List Shape) (word held : Word) → n ≤ 64 → length word ≡ n → All IsGate gates → All (λ g. FitsIn g n) gates → run gates (word ++ held) ≡ run gates word ++ held
run_append n [] word held few e is fits = refl
run_append n (g ∷ rest) word held few e is fits =
    ap (run rest) (gate_append n g word held few e (All-head IsGate g rest is) (All-head (λ h. FitsIn h n) g rest fits))
    ∙ run_append n rest (act g word) held few (length-act g word ∙ e) (All-tail IsGate g rest is) (All-tail (λ h. FitsIn h n) g rest fits)

-- a network that moves words as a circuit does carries it, with whatever its added lines may hold
pub carries_runs : (aux : Aux) (n extra : ℕ) (gates : List Shape) (ops : List Op) → n ≤ 64 → All IsGate gates → All (λ g. FitsIn g n) gates
    → Runs (Held aux n extra) ops (run gates) → Carries aux n extra ops (run gates)
unfolding Carries
carries_runs aux n extra gates ops few is fits runs word held y lw lh may ly =
    amplitudes (Held aux n extra) ops (run gates) (word ++ held) y runs (held_with aux n extra word held lw lh may)
    ∙ ap (λ image. amplitude_of_map ops image y) (run_append n gates word held few lw is fits)

-- each of its operations fits
pub runs_fitting : (aux : Aux) (n extra : ℕ) (ops : List Op) (p : Word → Word) → Runs (Held aux n extra) ops p → All (λ o. OpFitsIn o (n + extra)) ops
runs_fitting aux n extra ops p runs =
    let x : Word = replicate (n + extra) false in
    let e : length x ≡ n + extra = length-replicate (n + extra) false in
    fit_all (n + extra) ops (subst (λ m. Fit m ops) e (runs.fitting x (ok aux)))
  where
    ok : (a : Aux) → Held a n extra (replicate (n + extra) false)
    ok Borrowed = length-replicate (n + extra) false
    ok Clean = (length-replicate (n + extra) false, λ z le. none (n + extra) z)

pub carries_relative : (aux : Aux) (n extra : ℕ) (gates : List Shape) → n + extra ≤ 64 → All IsGate gates → All (λ g. FitsIn g n) gates → added aux n gates ≤ extra
    → Carries aux n extra (relative_network aux n extra gates) (run gates)
carries_relative aux n extra gates few is fits enough =
    carries_runs aux n extra gates (relative_network aux n extra gates) (omega arith) is fits (runs_network aux n extra gates few is fits enough)

pub network_fitting : (aux : Aux) (n extra : ℕ) (gates : List Shape) → n + extra ≤ 64 → All IsGate gates → All (λ g. FitsIn g n) gates → added aux n gates ≤ extra
    → All (λ o. OpFitsIn o (n + extra)) (relative_network aux n extra gates)
network_fitting aux n extra gates few is fits enough =
    runs_fitting aux n extra (relative_network aux n extra gates) (run gates) (runs_network aux n extra gates few is fits enough)
