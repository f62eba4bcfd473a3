-- The operations of a network, counted before it is made, and that each of them fits.
use Rattle.std.proofs.Common.{◌≡◌, ◌≢◌, ℕ, zero, suc, ◌+◌, ◌*◌, ◌<◌, Bool, true, false, cond, not, ◌&&◌, eqb, List, [], ◌∷◌, ◌++◌, length, map, take, get_or, refl, sym, ap, ap₂, ◌∙◌, arith, append_assoc, append-nil}
use Rattle.std.specs.List.{All}
use Rattle.std.proofs.lemmas.Bool.{or_left}
use Rattle.std.proofs.lemmas.List.{length-append, map-append, take_more}
use Rattle.std.proofs.lemmas.List.Elements.{All-append, All-cons, All-head, All-nil, All-tail}
use Rattle.rv_gate.specs.Gate.{FitsIn, IsGate}
use Rattle.rv_gate.specs.Word.{has}
use Rattle.rv_gate.specs.declared.gate.Shape.{Shape}
use Rattle.rv_gate.specs.declared.gate.Shape.TheVariants.{Flip, Swap as SwapGate, Peres}
use Rattle.rv_gate.specs.declared.word.TheConstants.{MOST_LINES}
use Rattle.rv_gate.proofs.inside.GateLemmas.{fits_flip}
use Rattle.rv_mct.proofs.Rising.{rising_zero, rising-suc, count_zero, count-suc}
use Rattle.rv_mct.specs.Blocks.{control, controls_of, count, rising, count_lines}
use Rattle.rv_mct.specs.Extends.{IsPlain}
use Rattle.rv_mct.specs.declared.control.Control.{Control}
use Rattle.rv_mct.proofs.inside.LongFlips.{length-controls_of}
use Rattle.rv_mct.proofs.inside.Splits.{count_same}
use Rattle.rv_gate.proofs.LineSets.{has-and, has-xor}
use Rattle.std.specs.Prelude.{bit_and, bit_xor}
use Rattle.rv_net.specs.declared.op.Op.{Op}
use Rattle.rv_net.specs.declared.op.Op.TheVariants.{X, Cx}
use Rattle.rv_net.specs.Op.{OpFitsIn}
use Rattle.rv_net.specs.Network.{flip_ops, gate_op_count, gate_ops, network_of, on_zero, operation_count, toffoli}
use Rattle.rv_net.proofs.inside.Network.{ArePlain, Fits, fits_controls}

-- ---- gates one after another

pub network_none : network_of [] ≡ []
unfolding network_of
network_none = refl

network_append : (a b : List Shape) → network_of (a ++ b) ≡ network_of a ++ network_of b
unfolding network_of
network_append [] b = refl
network_append (g ∷ a) b = ap (λ l. gate_ops g ++ l) (network_append a b) ∙ sym (append_assoc (gate_ops g) (network_of a) (network_of b))

network_one : (g : Shape) → network_of (g ∷ []) ≡ gate_ops g
unfolding network_of
network_one g = append-nil (gate_ops g)

pub network_more : (gates : List Shape) (i : ℕ) (d : Shape) → i < length gates → network_of (take (i + 1) gates) ≡ network_of (take i gates) ++ gate_ops (get_or gates i d)
network_more gates i d h =
    ap network_of (take_more gates i d h) ∙ network_append (take i gates) (get_or gates i d ∷ []) ∙ ap (λ l. network_of (take i gates) ++ l) (network_one (get_or gates i d))

pub operation_count_none : operation_count [] ≡ 0
unfolding operation_count
operation_count_none = refl

count_append : (a b : List Shape) → operation_count (a ++ b) ≡ operation_count a + operation_count b
unfolding operation_count
count_append [] b = omega arith
count_append (g ∷ a) b = omega (arith, count_append a b)

count_one : (g : Shape) → operation_count (g ∷ []) ≡ gate_op_count g
unfolding operation_count
count_one g = omega arith

pub count_more : (gates : List Shape) (i : ℕ) (d : Shape) → i < length gates → operation_count (take (i + 1) gates) ≡ operation_count (take i gates) + gate_op_count (get_or gates i d)
count_more gates i d h =
    ap operation_count (take_more gates i d h) ∙ count_append (take i gates) (get_or gates i d ∷ []) ∙ ap (λ n. operation_count (take i gates) + n) (count_one (get_or gates i d))

-- ---- how many they are

-- the controls that want 0
zeros : List Control → ℕ
zeros [] = 0
zeros (c ∷ cs) = cond c.wanted 0 1 + zeros cs

length-flip : (cs : List Control) (t n : ℕ) → Fits n cs t → length (flip_ops cs t) ≡ cond (eqb (length cs) 2) 15 1 + 2 * zeros cs
unfolding flip_ops toffoli Fits zeros
length-flip cs t n h = grind arith

zeros-append : (a b : List Control) → zeros (a ++ b) ≡ zeros a + zeros b
unfolding zeros
zeros-append [] b = omega arith
zeros-append (c ∷ a) b = omega (arith, zeros-append a b)

zeros-rising : (care want n : ℕ) → zeros (map (control want) (rising (has care) n)) ≡ count (λ line. has care line && not (has want line)) n
unfolding zeros
zeros-rising care want zero = ap (λ (lines : List ℕ). zeros (map (control want) lines)) (rising_zero (has care)) ∙ sym (count_zero (λ line. has care line && not (has want line)))
zeros-rising care want (suc n) =
    ap (λ (lines : List ℕ). zeros (map (control want) lines)) (rising-suc (has care) n) ∙ go (has care n) (zeros-rising care want n)
    ∙ sym (count-suc (λ line. has care line && not (has want line)) n)
  where
    go : (b : Bool) → zeros (map (control want) (rising (has care) n)) ≡ count (λ line. has care line && not (has want line)) n
        → zeros (map (control want) (rising (has care) n ++ cond b (n ∷ []) [])) ≡ count (λ line. has care line && not (has want line)) n + cond (b && not (has want n)) 1 0
    go true so_far = rw map-append (omega (arith, zeros-append (map (control want) (rising (has care) n)) (control want n ∷ []), so_far, one (has want n)))
      where
        one : (b : Bool) → cond {A = ℕ} b 0 1 ≡ cond (not b) 1 0
        one true = refl
        one false = refl
    go false so_far = rw append-nil (omega (arith, so_far))

parts_of : (n : ℕ) (care want t : ℕ) (gates : List Shape) → ArePlain n (Flip care want t ∷ gates) → Fits n (controls_of care want) t
parts_of n care want t gates h =
    let own = All-head IsGate (Flip care want t) gates h.0 in
    let fits = All-head (λ g. FitsIn g n) (Flip care want t) gates h.1 in
    fits_controls n care want t (λ line on. fits line (or_left (has care line) (eqb line t) on)) (fits_flip (Flip care want t) care want t n refl fits) own.1
    (All-head IsPlain (Flip care want t) gates h.2)

tail_of : (n : ℕ) (g : Shape) (gates : List Shape) → ArePlain n (g ∷ gates) → ArePlain n gates
tail_of n g gates h = (All-tail IsGate g gates h.0, All-tail (λ g. FitsIn g n) g gates h.1, All-tail IsPlain g gates h.2)

pub length-network : (n : ℕ) (gates : List Shape) → ArePlain n gates → length (network_of gates) ≡ operation_count gates
unfolding network_of operation_count
length-network n [] h = refl
length-network n (Flip care want t ∷ gates) h =
    let same : eqb (length (controls_of care want)) 2 ≡ eqb (count_lines care) 2 = ap (λ k. eqb k 2) (length-controls_of care want) in
    length-append (flip_ops (controls_of care want) t) (network_of gates)
    ∙ ap₂ (λ a b. a + b)
    (length-flip (controls_of care want) t n (parts_of n care want t gates h) ∙ ap₂ (λ (b : Bool) z. cond b 15 1 + 2 * z) same (zeros-rising care want MOST_LINES))
    (length-network n gates (tail_of n (Flip care want t) gates h))
length-network n (SwapGate care want a b ∷ gates) h = absurd (All-head IsPlain (SwapGate care want a b) gates h.2)
length-network n (Peres a b c ∷ gates) h = absurd (All-head IsPlain (Peres a b c) gates h.2)

-- ---- each fits

abbrev AllOps : ℕ → List Op → Type 0
AllOps n ops = All (λ op. OpFitsIn op n) ops

one_fits : (n : ℕ) (op : Op) → OpFitsIn op n → AllOps n (op ∷ [])
one_fits n op fits = All-cons (λ op. OpFitsIn op n) op [] fits (All-nil (λ op. OpFitsIn op n))

more_fit : (n : ℕ) (op : Op) (ops : List Op) → OpFitsIn op n → AllOps n ops → AllOps n (op ∷ ops)
more_fit n op ops fits rest = All-cons (λ op. OpFitsIn op n) op ops fits rest

both_fit : (n : ℕ) (a b : List Op) → AllOps n a → AllOps n b → AllOps n (a ++ b)
both_fit n a b fits rest = All-append (λ op. OpFitsIn op n) a b fits rest

on_zero_fits : (n : ℕ) (c : Control) → c.line < n → AllOps n (on_zero c)
on_zero_fits n c below = go c.wanted
  where
    go : (b : Bool) → AllOps n (cond b [] (X c.line ∷ []))
    go true = All-nil (λ op. OpFitsIn op n)
    go false = one_fits n (X c.line) below

abbrev EachFits : ℕ → List Op → Type 0
EachFits n [] = Unit {0}
EachFits n (op ∷ ops) = OpFitsIn op n × EachFits n ops

all_from_each : (n : ℕ) (ops : List Op) → EachFits n ops → AllOps n ops
all_from_each n [] each = All-nil (λ op. OpFitsIn op n)
all_from_each n (op ∷ ops) each = more_fit n op ops each.0 (all_from_each n ops each.1)

toffoli_fits : (n a b c : ℕ) → a < n → b < n → c < n → a ≢ b → a ≢ c → b ≢ c → AllOps n (toffoli a b c)
unfolding toffoli
toffoli_fits n a b c la lb lc ab ac bc =
    all_from_each n (toffoli a b c)
    (lc, ((lb, lc, bc), (lc, ((la, lc, ac), (lc, ((lb, lc, bc), (lc, ((la, lc, ac), (lb, (lc, (lc, ((la, lb, ab), (la, (lb, ((la, lb, ab), tt)))))))))))))))

flip_fits : (n : ℕ) (cs : List Control) (t : ℕ) → Fits n cs t → AllOps n (flip_ops cs t)
unfolding flip_ops Fits
flip_fits n [] t h = one_fits n (X t) h
flip_fits n (a ∷ []) t h = both_fit n (on_zero a) (Cx a.line t ∷ on_zero a) (on_zero_fits n a h.0) (more_fit n (Cx a.line t) (on_zero a) h (on_zero_fits n a h.0))
flip_fits n (a ∷ b ∷ []) t h =
    let zeros = both_fit n (on_zero a) (on_zero b) (on_zero_fits n a h.0) (on_zero_fits n b h.1) in
    both_fit n (on_zero a ++ on_zero b) (toffoli a.line b.line t ++ (on_zero a ++ on_zero b)) zeros
    (both_fit n (toffoli a.line b.line t) (on_zero a ++ on_zero b) (toffoli_fits n a.line b.line t h.0 h.1 h.2 h.3 h.4 h.5) zeros)
flip_fits n (a ∷ b ∷ c ∷ more) t h = absurd h

pub network_fits : (n : ℕ) (gates : List Shape) → ArePlain n gates → All (λ op. OpFitsIn op n) (network_of gates)
unfolding network_of
network_fits n [] h = All-nil (λ op. OpFitsIn op n)
network_fits n (Flip care want t ∷ gates) h =
    both_fit n (flip_ops (controls_of care want) t) (network_of gates) (flip_fits n (controls_of care want) t (parts_of n care want t gates h)) (network_fits n gates (tail_of n (Flip care want t) gates h))
network_fits n (SwapGate care want a b ∷ gates) h = absurd (All-head IsPlain (SwapGate care want a b) gates h.2)
network_fits n (Peres a b c ∷ gates) h = absurd (All-head IsPlain (Peres a b c) gates h.2)

-- ---- the controls that want 0, as a set

pub zeros_of : (care want : ℕ) → count_lines (bit_xor care (bit_and care want)) ≡ count (λ line. has care line && not (has want line)) MOST_LINES
zeros_of care want = grind (arith, count_same, bit_xor, bit_and, MOST_LINES, has-xor, has-and)
