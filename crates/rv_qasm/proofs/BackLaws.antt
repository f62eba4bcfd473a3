-- Operations that move words are gates that do so.
use Rattle.std.proofs.lemmas.Grind.{common_steps}
use Rattle.std.proofs.Common.{◌≡◌, ◌≢◌, ℕ, suc, ◌+◌, ◌^◌, ◌<◌, ◌≤◌, Bool, true, false, ◌&&◌, ◌||◌, cond, SomeIff, bit_or, List, [], ◌∷◌, ◌++◌, length, take, get_or, set, option_to_list, Option, Some, None, refl, sym, ap, ◌∙◌, arith, append-nil, eqb, subst}
use Rattle.std.proofs.lemmas.Bool.{ne_eqb, eqb-true}
use Rattle.std.proofs.lemmas.List.{set-get_or, take_more}
use Rattle.std.proofs.lemmas.List.Elements.{All-head, All-tail}
use Rattle.std.proofs.lemmas.List.Sums.{prefix_len-le-length}
use Rattle.std.proofs.lemmas.Grind.{flat_map-append}
use Rattle.std.specs.List.{All}
use Rattle.rv_gate.specs.Gate.{FitsIn, IsGate, act, exchanged, flip, holds, run, xor, same_word}
use Rattle.rv_gate.specs.Word.{bit_of, has}
use Rattle.rv_gate.specs.declared.gate.Shape.{Shape}
use Rattle.rv_gate.specs.declared.gate.Shape.TheVariants as gate
use Rattle.rv_gate.specs.declared.word.TheConstants.{MOST_LINES}
use Rattle.rv_gate.proofs.inside.GateLemmas.{length-act, holds_none}
use Rattle.rv_gate.proofs.InverseLemmas.{holds_one_line, holds_two_lines}
use Rattle.rv_gate.proofs.LineSets.{has-line, has-lines, has-none}
use Rattle.rv_net.specs.Amplitude.{amplitude, count_h}
use Rattle.rv_net.specs.Cyclotomic.{nought, power, root2, times_w_power, unity}
use Rattle.rv_net.specs.Denotes.{Denotes}
use Rattle.rv_net.specs.Op.{OpFitsIn, goes_to}
use Rattle.rv_net.specs.declared.op.Op.{Op}
use Rattle.rv_net.specs.declared.op.Op.TheVariants.{X, Y, Z, H, S, Sdg, T, Tdg, Cx, Cz, Ccx, Swap, Cswap}
use Rattle.rv_qasm.specs.Back.{classical_length, classical_gate, classical_gates, is_classical}
use Rattle.rv_gate.proofs.Bits.{not_not}

-- ---- an operation moves words as its gate does

-- the bit of a line is changed where another bit is 1
turned : (word : List Bool) (line : ℕ) (on : Bool) → cond on (flip word line) word ≡ set word line (xor on (bit_of word line))
turned word line true = refl
turned word line false = sym (ap (set word line) (not_not (bit_of word line)) ∙ set-get_or word line false)

crossed : (word : List Bool) (a b : ℕ) (on : Bool)
    → cond on (exchanged word a b) word
    ≡ set (set word a (cond on (bit_of word b) (bit_of word a))) b (cond on (bit_of word a) (bit_of word b))
crossed word a b true = refl
crossed word a b false = sym (ap (λ (w : List Bool). set w b (bit_of word b)) (set-get_or word a false) ∙ set-get_or word b false)

acts_x : (word : List Bool) (a : ℕ) → act (gate.Flip 0 0 a) word ≡ goes_to (X a) word
acts_x word a = rw (holds_none word) refl

acts_cx : (word : List Bool) (a b : ℕ) → a < length word → act (gate.Flip (2 ^ a) (2 ^ a) b) word ≡ goes_to (Cx a b) word
acts_cx word a b la = ap (λ t. cond t (flip word b) word) (holds_one_line a word la) ∙ turned word b (bit_of word a)

acts_ccx : (word : List Bool) (a b c : ℕ) → a < length word → b < length word
    → act (gate.Flip (bit_or (2 ^ a) (2 ^ b)) (bit_or (2 ^ a) (2 ^ b)) c) word ≡ goes_to (Ccx a b c) word
acts_ccx word a b c la lb = ap (λ t. cond t (flip word c) word) (holds_two_lines a b word la lb) ∙ turned word c (bit_of word a && bit_of word b)

acts_swap : (word : List Bool) (a b : ℕ) → act (gate.Swap 0 0 a b) word ≡ goes_to (Swap a b) word
acts_swap word a b = rw (holds_none word) refl

acts_cswap : (word : List Bool) (c a b : ℕ) → c < length word → act (gate.Swap (2 ^ c) (2 ^ c) a b) word ≡ goes_to (Cswap c a b) word
acts_cswap word c a b lc = ap (λ t. cond t (exchanged word a b) word) (holds_one_line c word lc) ∙ crossed word a b (bit_of word c)

-- ---- its gate fits

pub alone : (a b : ℕ) → a ≢ b → has (2 ^ a) b ≡ false
alone a b apart = has-line a b ∙ ne_eqb b a (λ e. apart (sym e))

pub neither : (a b c : ℕ) → a ≢ c → b ≢ c → has (bit_or (2 ^ a) (2 ^ b)) c ≡ false
neither a b c not_a not_b = has-lines a b c ∙ rw (ne_eqb c a (λ e. not_a (sym e)), ne_eqb c b (λ e. not_b (sym e))) refl

some_same : {A : Type 0} {x y : A} → Some x ≡ Some y → x ≡ y
some_same e = cc e

below_one : (line a n : ℕ) → a < n → eqb line a ≡ true → line < n
below_one line a n la e = let same = eqb-true line a e in omega (arith, same)

below_two : (line a b n : ℕ) → a < n → b < n → (eqb line a || eqb line b) ≡ true → line < n
below_two line a b n la lb e = grind arith

below_three : (line a b c n : ℕ) → a < n → b < n → c < n → ((eqb line a || eqb line b) || eqb line c) ≡ true → line < n
below_three line a b c n la lb lc e = grind arith

pub made : {A : Type 0} (o : Option A) (P : Type 0) (x : A) → SomeIff o P x → P → o ≡ Some x
made None P x is holds = absurd (is holds)
made (Some y) P x is holds = ap Some is.1

-- ---- what the gate of an operation does for it

pub record Moves (op : Op) (n : ℕ) (g : Shape) : Type 0 where
  pub gate : n ≤ MOST_LINES → IsGate g
  pub fits : FitsIn g n
  pub acts : (x : List Bool) → length x ≡ n → act g x ≡ goes_to op x
  pub amp : (rest : List Op) (x y : List Bool) → amplitude (op ∷ rest) x y ≡ amplitude rest (goes_to op x) y
  pub no_h : (rest : List Op) → count_h (op ∷ rest) ≡ count_h rest

pub moves : (op : Op) (n : ℕ) → OpFitsIn op n → (g : Shape) → classical_gate op ≡ Some g → Moves op n g
unfolding amplitude times_w_power count_h
moves (X a) n fits g e = subst (Moves (X a) n) (some_same e) (record {
  gate = λ few. (omega (arith, few, fits), has-none a, λ line on. on);
  fits = λ line there. below_one line a n fits (rw has-none at there);
  acts = λ x len. acts_x x a;
  amp = λ rest x y. refl;
  no_h = λ rest. refl;
})
moves (Cx a b) n fits g e = subst (Moves (Cx a b) n) (some_same e) (record {
  gate = λ few. (omega (arith, few, fits.1), alone a b fits.2, λ line on. on);
  fits = λ line there. below_two line a b n fits.0 fits.1 (rw has-line at there);
  acts = λ x len. acts_cx x a b (omega (arith, fits.0, len));
  amp = λ rest x y. refl;
  no_h = λ rest. refl;
})
moves (Ccx a b c) n fits g e = subst (Moves (Ccx a b c) n) (some_same e) (record {
  gate = λ few. (omega (arith, few, fits.2), neither a b c fits.4 fits.5, λ line on. on);
  fits = λ line there. below_three line a b c n fits.0 fits.1 fits.2 (rw has-lines at there);
  acts = λ x len. acts_ccx x a b c (omega (arith, fits.0, len)) (omega (arith, fits.1, len));
  amp = λ rest x y. refl;
  no_h = λ rest. refl;
})
moves (Swap a b) n fits g e = subst (Moves (Swap a b) n) (some_same e) (record {
  gate = λ few. (omega (arith, few, fits.0), omega (arith, few, fits.1), fits.2, has-none a, has-none b, λ line on. on);
  fits = λ line there. below_two line a b n fits.0 fits.1 (rw has-none at there);
  acts = λ x len. acts_swap x a b;
  amp = λ rest x y. refl;
  no_h = λ rest. refl;
})
moves (Cswap c a b) n fits g e = subst (Moves (Cswap c a b) n) (some_same e) (record {
  gate = λ few. (omega (arith, few, fits.1), omega (arith, few, fits.2), fits.5, alone c a fits.3, alone c b fits.4, λ line on. on);
  fits = λ line there. below_three line c a b n fits.0 fits.1 fits.2 (rw has-line at there);
  acts = λ x len. acts_cswap x c a b (omega (arith, fits.0, len));
  amp = λ rest x y. refl;
  no_h = λ rest. refl;
})
moves (Y a) n fits g e = cc e
moves (Z a) n fits g e = cc e
moves (H a) n fits g e = cc e
moves (S a) n fits g e = cc e
moves (Sdg a) n fits g e = cc e
moves (T a) n fits g e = cc e
moves (Tdg a) n fits g e = cc e
moves (Cz a b) n fits g e = cc e

-- ---- operations that move words denote their gates

-- an operation that is not classical is the first of them
abbrev Classical : List Op → Type 0
Classical ops = classical_length ops ≡ length ops

first_is : (op : Op) (rest : List Op) → Classical (op ∷ rest) → (g : Shape) × (classical_gate op ≡ Some g) × Classical rest
first_is op rest all = by (classical_gate op) refl
  where
    by : (o : Option Shape) → classical_gate op ≡ o → (g : Shape) × (classical_gate op ≡ Some g) × Classical rest
    by (Some g) e = let more = rw e at all in (g, e, omega (arith, more))
    by None e = let none = rw e at all in absurd (omega (arith, none))

amp_classical : (n : ℕ) (ops : List Op) (x y : List Bool) → length x ≡ n → All (λ op. OpFitsIn op n) ops → Classical ops
    → amplitude ops x y ≡ cond (same_word (run (classical_gates ops) x) y) unity nought
unfolding amplitude times_w_power
amp_classical n [] x y len fits all = refl
amp_classical n (op ∷ rest) x y len fits all =
    let s = first_is op rest all in
    let m = moves op n (All-head (λ op. OpFitsIn op n) op rest fits) s.0 s.1 in
    let long : length (goes_to op x) ≡ n = ap length (sym (m.acts x len)) ∙ length-act s.0 x ∙ len in
    m.amp rest x y ∙ amp_classical n rest (goes_to op x) y long (All-tail (λ op. OpFitsIn op n) op rest fits) s.2
    ∙ rw (s.1, m.acts x len) refl

no_h : (n : ℕ) (ops : List Op) → All (λ op. OpFitsIn op n) ops → Classical ops → count_h ops ≡ 0
unfolding count_h
no_h n [] fits all = refl
no_h n (op ∷ rest) fits all =
    let s = first_is op rest all in
    (moves op n (All-head (λ op. OpFitsIn op n) op rest fits) s.0 s.1).no_h rest ∙ no_h n rest (All-tail (λ op. OpFitsIn op n) op rest fits) s.2

pub denotes_gates : (n : ℕ) (ops : List Op) → All (λ op. OpFitsIn op n) ops → Classical ops → Denotes n ops (run (classical_gates ops))
unfolding Denotes power
denotes_gates n ops fits all x y ex ey =
    amp_classical n ops x y ex fits all
    ∙ ap (λ k. cond (same_word (run (classical_gates ops) x) y) (power root2 k) nought) (sym (no_h n ops fits all))

pub one_gate_each : (ops : List Op) → Classical ops → length (classical_gates ops) ≡ length ops
one_gate_each [] all = refl
one_gate_each (op ∷ rest) all = let s = first_is op rest all in rw s.1 (ap suc (one_gate_each rest s.2))

-- ---- gate by gate

pub gates_more : (ops : List Op) (i : ℕ) (d : Op) → i < length ops → classical_gates (take (i + 1) ops) ≡ classical_gates (take i ops) ++ option_to_list (classical_gate (get_or ops i d))
gates_more ops i d lt = grind (arith, common_steps, classical_gates, take_more, flat_map-append, option_to_list, classical_gate, append-nil)

pub at_most_one : (o : Option Shape) → length (option_to_list o) ≤ 1
at_most_one None = omega arith
at_most_one (Some g) = omega arith

pub all_classical : (ops : List Op) → length ops ≤ classical_length ops → classical_length ops ≡ length ops
all_classical ops all = grind (arith, classical_length, prefix_len-le-length, is_classical)
