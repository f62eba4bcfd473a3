-- The network of flips with at most two controls is their run.
use Rattle.std.proofs.Common.{◌≡◌, ◌≢◌, ℕ, ◌*◌, ◌+◌, ◌<◌, ◌≤◌, Bool, true, false, cond, ◌&&◌, List, [], ◌∷◌, ◌++◌, map, length, set, refl, sym, ap, ap₂, ◌∙◌, arith, eqb, inl, inr, subst}
use Rattle.std.proofs.lemmas.List.{set_comm, set-get_or}
use Rattle.std.proofs.lemmas.Bool.{false≢true, or_left}
use Rattle.std.proofs.lemmas.List.{length-append}
use Rattle.std.proofs.lemmas.List.Elements.{All-head, All-tail}
use Rattle.std.specs.List.{All}
use Rattle.rv_gate.specs.Gate.{FitsIn, IsGate, Within, act, run, same, xor, same_word}
use Rattle.rv_gate.specs.Word.{has}
use Rattle.rv_gate.specs.declared.gate.Shape.{Shape}
use Rattle.rv_gate.specs.declared.gate.Shape.TheVariants.{Flip, Swap as SwapGate, Peres}
use Rattle.rv_gate.specs.declared.word.TheConstants.{MOST_LINES}
use Rattle.rv_gate.proofs.inside.GateLemmas.{fits_flip, length-act}
use Rattle.rv_mct.specs.Blocks.{control, controls_of, rising, count_lines}
use Rattle.rv_mct.specs.Extends.{IsPlain}
use Rattle.rv_mct.specs.inside.LadderLines.{Distinct, In}
use Rattle.rv_mct.proofs.inside.LongFlips.{act_put, distinct_rising, in_rising, length-rising}
use Rattle.rv_net.specs.Denotes.{Carries, CarriesExtended, Denotes, amplitude_of_map}
use Rattle.rv_mct.specs.declared.control.Control.{Control}
use Rattle.rv_mct.proofs.inside.Ladders.{met, met_all, put}
use Rattle.rv_net.specs.declared.op.Op.{Op}
use Rattle.rv_net.specs.declared.op.Op.TheVariants.{X, Y, Z, H, S, Sdg, T, Tdg, Cx, Cz, Ccx, Swap, Cswap}
use Rattle.rv_net.specs.Cyclotomic.{Cyclotomic, nought, unity, root2, plus, power, times_w_power, doubled}
use Rattle.rv_net.specs.Amplitude.{count_h}
use Rattle.rv_net.specs.Network.{flip_ops, network_of, on_zero, toffoli}
use Rattle.rv_net.proofs.Step.{Word, bit, step, amp, delta, same_amp}
use Rattle.rv_net.proofs.Cyclotomic.{doubled-more, doubled-nought, doubled-unity}
use Rattle.rv_net.proofs.Frame.{through, through-append, puts, relabel, AllWithin, frame-through, two_apart}
use Rattle.rv_net.proofs.Toffoli.{on_three, on_lines, changed}
use Rattle.rv_gate.proofs.Bits.{and_true}

-- a control on a line
abbrev on_line : ℕ → Bool → Control
on_line line wanted = record { line = line; wanted = wanted }

pub amp-through : (net : List Op) (x y : Word) → amp net x y ≡ through net (λ v. delta v y) x
unfolding amp through
amp-through [] x y = refl
amp-through (o ∷ net) x y = λ i. step o (λ v. amp-through net v y i) x

same_twice : (a p : Bool) → same (same a p) p ≡ a
same_twice a p = grind arith

-- X on the controls that want 0
around : Bool → Bool → List Op
around p q = on_zero (on_line 0 p) ++ on_zero (on_line 1 q)

through-around : (k : Word → Cyclotomic) (p q a b c : Bool) → through (around p q) k (a ∷ b ∷ c ∷ []) ≡ k (same a p ∷ same b q ∷ c ∷ [])
unfolding around through times_w_power
through-around k p q a b c = grind arith

block : Bool → Bool → List Op
unfolding around toffoli
block p q = around p q ++ (toffoli 0 1 2 ++ around p q)

through-block : (k : Word → Cyclotomic) (p q a b c : Bool) → through (block p q) k (a ∷ b ∷ c ∷ []) ≡ plus (k (a ∷ b ∷ xor (same a p && same b q) c ∷ [])) (k (a ∷ b ∷ xor (same a p && same b q) c ∷ []))
unfolding block
through-block k p q a b c =
    through-append (around p q) (toffoli 0 1 2 ++ around p q) k _
    ∙ through-around (λ v. through (toffoli 0 1 2 ++ around p q) k v) p q a b c
    ∙ through-append (toffoli 0 1 2) (around p q) k _
    ∙ on_three (λ v. through (around p q) k v) (same a p) (same b q) c
    ∙ ap (λ u. plus u u)
    (through-around k p q (same a p) (same b q) (xor (same a p && same b q) c)
    ∙ ap₂ (λ s t. k (s ∷ t ∷ xor (same a p && same b q) c ∷ [])) (same_twice a p) (same_twice b q))

within_block : (p q : Bool) → AllWithin 3 (block p q)
unfolding block around toffoli
within_block true true = omega arith
within_block true false = omega arith
within_block false true = omega arith
within_block false false = omega arith

same_block : (a b t : ℕ) (p q : Bool) → map (relabel (a ∷ b ∷ t ∷ [])) (block p q) ≡ flip_ops (on_line a p ∷ on_line b q ∷ []) t
unfolding block around toffoli relabel flip_ops
same_block a b t p q = grind arith

-- one control
small_block : Bool → List Op
small_block p = on_zero (on_line 0 p) ++ (Cx 0 1 ∷ on_zero (on_line 0 p))

through-small_block : (k : Word → Cyclotomic) (p a c : Bool) → through (small_block p) k (a ∷ c ∷ []) ≡ k (a ∷ xor (same a p) c ∷ [])
unfolding small_block through times_w_power
through-small_block k p a c = grind arith

within_small : (p : Bool) → AllWithin 2 (small_block p)
unfolding small_block
within_small true = omega arith
within_small false = omega arith

same_small : (a t : ℕ) (p : Bool) → map (relabel (a ∷ t ∷ [])) (small_block p) ≡ flip_ops (on_line a p ∷ []) t
unfolding small_block relabel flip_ops
same_small a t true = refl
same_small a t false = refl

-- the lines of a flip under at most two controls differ, and are below n
unfoldable pub Fits : ℕ → List Control → ℕ → Type 0
Fits n [] t = t < n
Fits n (a ∷ []) t = (a.line < n) × (t < n) × (a.line ≢ t)
Fits n (a ∷ b ∷ []) t = (a.line < n) × (b.line < n) × (t < n) × (a.line ≢ b.line) × (a.line ≢ t) × (b.line ≢ t)
Fits n (a ∷ b ∷ c ∷ more) t = ⊥

-- ---- one flip

through-two : (k : Word → Cyclotomic) (x : Word) (a b : Control) (t : ℕ) → Fits (length x) (a ∷ b ∷ []) t
    → through (flip_ops (a ∷ b ∷ []) t) k x ≡ plus (k (put x t (met_all (a ∷ b ∷ []) x))) (k (put x t (met_all (a ∷ b ∷ []) x)))
unfolding Fits
through-two k x a b t h =
    ap (λ net. through net k x) (sym (same_block a.line b.line t a.wanted b.wanted))
    ∙ on_lines (block a.wanted b.wanted) k x a.line b.line t h.0 h.1 h.2 h.3 h.4 h.5 (within_block a.wanted b.wanted)
    ∙ through-block (λ u. k (puts x (a.line ∷ b.line ∷ t ∷ []) u)) a.wanted b.wanted (bit x a.line) (bit x b.line) (bit x t)
    ∙ ap (λ v. plus (k v) (k v)) (changed x a.line b.line t (xor (same (bit x a.line) a.wanted && same (bit x b.line) b.wanted) (bit x t)) h.4 h.5)
    ∙ ap (λ (m : Bool). plus (k (put x t (met a x && m))) (k (put x t (met a x && m)))) (sym (and_true (met b x)))

through-one : (k : Word → Cyclotomic) (x : Word) (a : Control) (t : ℕ) → Fits (length x) (a ∷ []) t
    → through (flip_ops (a ∷ []) t) k x ≡ k (put x t (met_all (a ∷ []) x))
unfolding Fits
through-one k x a t h =
    ap₂ (λ net v. through net k v) (sym (same_small a.line t a.wanted)) (sym (simp set-get_or))
    ∙ frame-through x (a.line ∷ t ∷ []) (two_apart a.line t h.2) (h.0, (h.1, tt)) (small_block a.wanted) k (bit x a.line ∷ bit x t ∷ []) refl (within_small a.wanted)
    ∙ through-small_block (λ u. k (puts x (a.line ∷ t ∷ []) u)) a.wanted (bit x a.line) (bit x t)
    ∙ ap k (set_comm x t a.line (xor (same (bit x a.line) a.wanted) (bit x t)) (bit x a.line) (λ e. h.2 (sym e)) ∙ ap (λ l. set l t (xor (same (bit x a.line) a.wanted) (bit x t))) (set-get_or x a.line false))
    ∙ ap (λ (m : Bool). k (put x t m)) (sym (and_true (met a x)))

through-not : (k : Word → Cyclotomic) (x : Word) (t : ℕ) → through (flip_ops [] t) k x ≡ k (put x t true)
unfolding through flip_ops times_w_power
through-not k x t = refl

abbrev pub twos : List Control → ℕ
twos [] = 0
twos (a ∷ []) = 0
twos (a ∷ b ∷ more) = 1

pub through-flip : (k : Word → Cyclotomic) (x : Word) (cs : List Control) (t : ℕ) → Fits (length x) cs t
    → through (flip_ops cs t) k x ≡ doubled (twos cs) (k (put x t (met_all cs x)))
unfolding doubled Fits
through-flip k x cs t h = grind (arith, through-not, through-one, through-two)

pub count_h-append : (m n : List Op) → count_h (m ++ n) ≡ count_h m + count_h n
unfolding count_h
count_h-append [] n = omega arith
count_h-append (H q ∷ m) n = omega (arith, count_h-append m n)
count_h-append (X q ∷ m) n = count_h-append m n
count_h-append (Y q ∷ m) n = count_h-append m n
count_h-append (Z q ∷ m) n = count_h-append m n
count_h-append (S q ∷ m) n = count_h-append m n
count_h-append (Sdg q ∷ m) n = count_h-append m n
count_h-append (T q ∷ m) n = count_h-append m n
count_h-append (Tdg q ∷ m) n = count_h-append m n
count_h-append (Cx a b ∷ m) n = count_h-append m n
count_h-append (Cz a b ∷ m) n = count_h-append m n
count_h-append (Ccx a b c ∷ m) n = count_h-append m n
count_h-append (Swap a b ∷ m) n = count_h-append m n
count_h-append (Cswap c a b ∷ m) n = count_h-append m n

pub count_h-flip : (cs : List Control) (t n : ℕ) → Fits n cs t → count_h (flip_ops cs t) ≡ 2 * twos cs
unfolding count_h flip_ops toffoli Fits
count_h-flip cs t n h = grind arith

pub doubled-delta : (n : ℕ) (x y : Word) → doubled n (delta x y) ≡ cond (same_word x y) (doubled n unity) nought
unfolding delta
doubled-delta n x y = grind (arith, same_word, doubled-nought)

-- ---- the gates of a circuit

distinct_two : (x y : ℕ) (rest : List ℕ) → Distinct (x ∷ (y ∷ rest)) → x ≢ y
distinct_two x y rest h e = h.0 y (inl refl) (sym e)

fits_listed : (n care want t : ℕ) (xs : List ℕ) → Distinct xs → ((x : ℕ) → In x xs → has care x ≡ true) → Within care n → t < n → has care t ≡ false → length xs ≤ 2
    → Fits n (map (control want) xs) t
unfolding Fits
fits_listed n care want t [] d there within aimed free few = aimed
fits_listed n care want t (x ∷ []) d there within aimed free few = (within x (there x (inl refl)), aimed, λ e. false≢true (sym free ∙ ap (has care) (sym e) ∙ there x (inl refl)))
fits_listed n care want t (x ∷ y ∷ []) d there within aimed free few = (
  within x (there x (inl refl)),
  within y (there y (inr (inl refl))),
  aimed,
  distinct_two x y [] d,
  (λ e. false≢true (sym free ∙ ap (has care) (sym e) ∙ there x (inl refl))),
  (λ e. false≢true (sym free ∙ ap (has care) (sym e) ∙ there y (inr (inl refl)))),
)
fits_listed n care want t (x ∷ y ∷ z ∷ more) d there within aimed free few = absurd (omega (arith, few))

-- the controls of a plain flip
pub fits_controls : (n care want t : ℕ) → Within care n → t < n → has care t ≡ false → count_lines care ≤ 2 → Fits n (controls_of care want) t
fits_controls n care want t within aimed free few =
    fits_listed n care want t (rising (has care) MOST_LINES) (distinct_rising (has care) MOST_LINES) (λ x there. (in_rising (has care) MOST_LINES x there).1) within aimed free
    (omega (arith, length-rising (has care) MOST_LINES, few))

-- how often two controls stand, in all
pub all_twos : List Shape → ℕ
all_twos [] = 0
all_twos (Flip care want t ∷ gates) = twos (controls_of care want) + all_twos gates
all_twos (g ∷ gates) = all_twos gates

abbrev pub ArePlain : ℕ → List Shape → Type 0
ArePlain n gates = All IsGate gates × All (λ g. FitsIn g n) gates × All IsPlain gates

plain_tail : (n : ℕ) (g : Shape) (gates : List Shape) → ArePlain n (g ∷ gates) → ArePlain n gates
plain_tail n g gates h = (All-tail IsGate g gates h.0, All-tail (λ g. FitsIn g n) g gates h.1, All-tail IsPlain g gates h.2)

pub through-network : (n : ℕ) (gates : List Shape) (k : Word → Cyclotomic) (x : Word) → n ≤ MOST_LINES → length x ≡ n → ArePlain n gates
    → through (network_of gates) k x ≡ doubled (all_twos gates) (k (run gates x))
unfolding network_of doubled through all_twos
through-network n [] k x few lx h = refl
through-network n (Flip care want t ∷ gates) k x few lx h =
    let own = All-head IsGate (Flip care want t) gates h.0 in
    let fits = All-head (λ g. FitsIn g n) (Flip care want t) gates h.1 in
    let within : Within care n = λ line on. fits line (or_left (has care line) (eqb line t) on) in
    let aimed : t < n = fits_flip (Flip care want t) care want t n refl fits in
    let acts : act (Flip care want t) x ≡ put x t (met_all (controls_of care want) x) = act_put care want t n x lx few within in
    through-append (flip_ops (controls_of care want) t) (network_of gates) k x
    ∙ through-flip (λ v. through (network_of gates) k v) x (controls_of care want) t (subst (λ m. Fits m (controls_of care want) t) (sym lx) (fits_controls n care want t within aimed own.1 (All-head IsPlain (Flip care want t) gates h.2)))
    ∙ ap (λ v. doubled (twos (controls_of care want)) (through (network_of gates) k v)) (sym acts)
    ∙ ap (doubled (twos (controls_of care want))) (through-network n gates k (act (Flip care want t) x) few (length-act (Flip care want t) x ∙ lx) (plain_tail n (Flip care want t) gates h))
    ∙ doubled-more (twos (controls_of care want)) (all_twos gates) _
through-network n (SwapGate care want a b ∷ gates) k x few lx h = absurd (All-head IsPlain (SwapGate care want a b) gates h.2)
through-network n (Peres a b c ∷ gates) k x few lx h = absurd (All-head IsPlain (Peres a b c) gates h.2)

pub count_h-network : (n : ℕ) (gates : List Shape) → ArePlain n gates → count_h (network_of gates) ≡ 2 * all_twos gates
unfolding network_of all_twos count_h
count_h-network n [] h = refl
count_h-network n (Flip care want t ∷ gates) h =
    let own = All-head IsGate (Flip care want t) gates h.0 in
    let fits = All-head (λ g. FitsIn g n) (Flip care want t) gates h.1 in
    let within : Within care n = λ line on. fits line (or_left (has care line) (eqb line t) on) in
    let aimed : t < n = fits_flip (Flip care want t) care want t n refl fits in
    omega (
      arith,
      count_h-append (flip_ops (controls_of care want) t) (network_of gates),
      count_h-flip (controls_of care want) t n (fits_controls n care want t within aimed own.1 (All-head IsPlain (Flip care want t) gates h.2)),
      count_h-network n gates (plain_tail n (Flip care want t) gates h),
    )
count_h-network n (SwapGate care want a b ∷ gates) h = absurd (All-head IsPlain (SwapGate care want a b) gates h.2)
count_h-network n (Peres a b c ∷ gates) h = absurd (All-head IsPlain (Peres a b c) gates h.2)

pub denotes-network : (n : ℕ) (gates : List Shape) → n ≤ MOST_LINES → ArePlain n gates → Denotes n (network_of gates) (run gates)
unfolding Denotes
denotes-network n gates few h x y ex ey =
    sym (same_amp (network_of gates) x y)
    ∙ amp-through (network_of gates) x y
    ∙ through-network n gates (λ v. delta v y) x few ex h
    ∙ doubled-delta (all_twos gates) (run gates x) y
    ∙ ap (λ u. cond (same_word (run gates x) y) u nought) (sym (ap (power root2) (count_h-network n gates h) ∙ doubled-unity (all_twos gates)))

-- the network of gates that extend others carries these
pub carries-network : (lines : ℕ) (gates : List Shape) → lines ≤ MOST_LINES → ArePlain lines gates → CarriesExtended lines (network_of gates) gates
unfolding CarriesExtended Carries Denotes
carries-network lines gates few plain aux n extra extended all extends word held y lw lh may ly =
    denotes-network lines gates few plain (word ++ held) y (length-append word held ∙ ap₂ (λ p q. p + q) lw lh ∙ all) (ly ∙ all)
    ∙ ap (λ image. amplitude_of_map (network_of gates) image y) (extends word held lw lh may)
