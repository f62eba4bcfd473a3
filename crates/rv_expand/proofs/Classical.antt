-- Each operation of the network of flips with at most two controls fits, and moves words; so the network denotes their run.
use Rattle.std.proofs.Common.{◌≡◌, ◌∙◌, ℕ, ◌+◌, ◌<◌, ◌≤◌, Bool, true, false, cond, List, [], ◌∷◌, ◌++◌, length, Option}
use Rattle.std.proofs.Common.{Some, None, refl, sym, ap, ap₂, subst}
use Rattle.std.specs.List.{All}
use Rattle.std.proofs.lemmas.List.{length-append}
use Rattle.std.proofs.lemmas.List.Elements.{All-cons, All-nil}
use Rattle.rv_gate.specs.Circuit.{Cascade, IsCascade}
use Rattle.rv_gate.specs.Gate.{run, same_word}
use Rattle.rv_gate.specs.declared.gate.Shape.{Shape}
use Rattle.rv_gate.specs.declared.gate.Shape.TheVariants.{Flip, Swap as SwapGate, Peres}
use Rattle.rv_gate.specs.declared.word.TheConstants.{MOST_LINES}
use Rattle.rv_mct.specs.Blocks.{controls_of}
use Rattle.rv_mct.specs.Widened.{decomposed, helper_count, lines_with_helpers}
use Rattle.rv_mct.specs.declared.aux.Aux.{Aux}
use Rattle.rv_mct.specs.declared.control.Control.{Control}
use Rattle.rv_mct.proofs.Decomposition.{decomposed-lines, decomposes}
use Rattle.rv_net.specs.Amplitude.{count_h}
use Rattle.rv_net.specs.Cyclotomic.{nought, power, root2}
use Rattle.rv_net.specs.Denotes.{Carries, CarriesExtended, Denotes, amplitude_of_map}
use Rattle.rv_net.specs.Network.{flip_ops, on_zero}
use Rattle.rv_net.specs.Op.{OpFitsIn}
use Rattle.rv_net.specs.declared.net.TheConstants.{MOST_OPS}
use Rattle.rv_net.specs.declared.op.Op.{Op}
use Rattle.rv_net.specs.declared.op.Op.TheVariants.{X, Y, Z, H, S, Sdg, T, Tdg, Cx, Cz, Ccx, Swap, Cswap}
use Rattle.rv_net.proofs.Step.{delta, same_amp}
use Rattle.rv_net.proofs.inside.Network.{ArePlain, Fits, amp-through}
use Rattle.rv_expand.specs.Toffoli.{IsClassical, MapsToffoli, as_swap, beside, flip_op, gate_op, swap_else, swap_op}
use Rattle.rv_expand.specs.Toffoli.{toffoli_net, toffoli_ops}
use Rattle.rv_expand.proofs.Moves.{beside-cases, is-swap, on_line, parts_of, tail_of, through-toffolis}

-- fits below n, and moves words
abbrev Good : ℕ → Op → Type 0
Good n op = OpFitsIn op n × IsClassical op

-- ---- a flip, and a swap

abbrev Each : ℕ → List Op → Type 0
Each n [] = Unit {0}
Each n (op ∷ ops) = Good n op × Each n ops

each-append : (n : ℕ) (a b : List Op) → Each n a → Each n b → Each n (a ++ b)
each-append n [] b ea eb = eb
each-append n (op ∷ a) b ea eb = (ea.0, each-append n a b ea.1 eb)

each-zero : (n : ℕ) (c : Control) → c.line < n → Each n (on_zero c)
each-zero n c below = go c.wanted
  where
    go : (b : Bool) → Each n (cond b [] (X c.line ∷ []))
    go true = tt
    go false = ((below, tt), tt)

each-around : (n : ℕ) (c : Control) (op : Op) → c.line < n → Good n op → Each n (on_zero c ++ (op ∷ on_zero c))
each-around n c op below good = each-append n (on_zero c) (op ∷ on_zero c) (each-zero n c below) (good, each-zero n c below)

each-flip : (n : ℕ) (cs : List Control) (t : ℕ) → Fits n cs t → Each n (flip_op cs t)
unfolding flip_op flip_ops Fits
each-flip n [] t h = ((h, tt), tt)
each-flip n (a ∷ []) t h = each-around n a (Cx a.line t) h.0 (h, tt)
each-flip n (a ∷ b ∷ []) t h =
    let both : Each n (on_zero a ++ on_zero b) = each-append n (on_zero a) (on_zero b) (each-zero n a h.0) (each-zero n b h.1) in
    each-append n (on_zero a ++ on_zero b) (Ccx a.line b.line t ∷ (on_zero a ++ on_zero b)) both ((h, tt), both)
each-flip n (a ∷ b ∷ c ∷ more) t h = absurd h

each-beside : (n a b : ℕ) (inner : List Control) (control : Option Control) → beside a inner ≡ Some control → Fits n inner b → Each n (swap_op control a b)
unfolding Fits
each-beside n a b =
    beside-cases a (λ inner control. Fits n inner b → Each n (swap_op control a b)) none after before
  where
    none : Fits n (on_line a true ∷ []) b → Each n (swap_op None a b)
    none h = ((h, tt), tt)

    after : (d : Control) → Fits n (on_line a true ∷ d ∷ []) b → Each n (swap_op (Some d) a b)
    after d h = each-around n d (Cswap d.line a b) h.1 ((h.1, h.0, h.2, (λ e. h.3 (sym e)), h.5, h.4), tt)

    before : (c : Control) → Fits n (c ∷ on_line a true ∷ []) b → Each n (swap_op (Some c) a b)
    before c h = each-around n c (Cswap c.line a b) h.0 (h, tt)

each-gate : (n : ℕ) (g : Shape) (rest : List Shape) → ArePlain n (g ∷ rest) → Each n (gate_op g)
each-gate n (Flip care want t) rest h = each-flip n (controls_of care want) t (parts_of n care want t rest h)
each-gate n (SwapGate care want a b) rest h = tt
each-gate n (Peres a b c) rest h = tt

each-swap : (n : ℕ) (g h l : Shape) (swap : List Op) (rest : List Shape) → as_swap g h l ≡ Some swap → ArePlain n (h ∷ rest) → Each n swap
each-swap n g h l swap rest is plain =
    let s = is-swap g h l swap is in
    subst (Each n) (sym s.swap_is) (each-beside n s.a s.b s.inner s.control s.beside_is (s.fits n rest plain))

each-op : (n : ℕ) (gates : List Shape) → ArePlain n gates → Each n (toffoli_ops gates)
unfolding toffoli_ops
each-op n [] plain = tt
each-op n (g ∷ []) plain = each-gate n g [] plain
each-op n (g ∷ h ∷ []) plain =
    each-append n (gate_op g) (gate_op h) (each-gate n g (h ∷ []) plain) (each-gate n h [] (tail_of n g (h ∷ []) plain))
each-op n (g ∷ h ∷ l ∷ rest) plain =
    go (each-op n rest) (each-op n (h ∷ l ∷ rest)) (as_swap g h l) refl
  where
    one : ArePlain n (h ∷ l ∷ rest)
    one = tail_of n g (h ∷ l ∷ rest) plain

    go : (ArePlain n rest → Each n (toffoli_ops rest)) → (ArePlain n (h ∷ l ∷ rest) → Each n (toffoli_ops (h ∷ l ∷ rest))) → (o : Option (List Op)) → as_swap g h l ≡ o
        → Each n (swap_else o (toffoli_ops rest) (gate_op g ++ toffoli_ops (h ∷ l ∷ rest)))
    go later next None is = each-append n (gate_op g) (toffoli_ops (h ∷ l ∷ rest)) (each-gate n g (h ∷ l ∷ rest) plain) (next one)
    go later next (Some swap) is =
        each-append n swap (toffoli_ops rest) (each-swap n g h l swap (l ∷ rest) is one) (later (tail_of n l rest (tail_of n h (l ∷ rest) one)))

all-fit : (n : ℕ) (ops : List Op) → Each n ops → All (λ op. OpFitsIn op n) ops
all-fit n [] e = All-nil (λ op. OpFitsIn op n)
all-fit n (op ∷ ops) e = All-cons (λ op. OpFitsIn op n) op ops e.0.0 (all-fit n ops e.1)

all-classical : (n : ℕ) (ops : List Op) → Each n ops → All IsClassical ops
all-classical n [] e = All-nil IsClassical
all-classical n (op ∷ ops) e = All-cons IsClassical op ops e.0.1 (all-classical n ops e.1)

no-h : (n : ℕ) (ops : List Op) → Each n ops → count_h ops ≡ 0
unfolding count_h
no-h n [] e = refl
no-h n (X q ∷ ops) e = no-h n ops e.1
no-h n (Cx a b ∷ ops) e = no-h n ops e.1
no-h n (Ccx a b c ∷ ops) e = no-h n ops e.1
no-h n (Swap a b ∷ ops) e = no-h n ops e.1
no-h n (Cswap c a b ∷ ops) e = no-h n ops e.1
no-h n (H q ∷ ops) e = absurd e.0.1
no-h n (Y q ∷ ops) e = absurd e.0.1
no-h n (Z q ∷ ops) e = absurd e.0.1
no-h n (S q ∷ ops) e = absurd e.0.1
no-h n (Sdg q ∷ ops) e = absurd e.0.1
no-h n (T q ∷ ops) e = absurd e.0.1
no-h n (Tdg q ∷ ops) e = absurd e.0.1
no-h n (Cz a b ∷ ops) e = absurd e.0.1

-- ---- of a circuit

module _ (n : ℕ) (gates : List Shape) (plain : ArePlain n gates) where
  pub toffolis-fit : All (λ op. OpFitsIn op n) (toffoli_ops gates)
  toffolis-fit = all-fit n (toffoli_ops gates) (each-op n gates plain)

  pub toffolis-classical : All IsClassical (toffoli_ops gates)
  toffolis-classical = all-classical n (toffoli_ops gates) (each-op n gates plain)

  pub denotes-toffolis : n ≤ MOST_LINES → Denotes n (toffoli_ops gates) (run gates)
  unfolding Denotes delta power
  denotes-toffolis few x y ex ey =
      sym (same_amp (toffoli_ops gates) x y)
      ∙ amp-through (toffoli_ops gates) x y
      ∙ through-toffolis n few gates (λ v. delta v y) x ex plain
      ∙ ap (λ h. cond (same_word (run gates x) y) (power root2 h) nought) (sym (no-h n (toffoli_ops gates) (each-op n gates plain)))

  pub carries-toffolis : n ≤ MOST_LINES → CarriesExtended n (toffoli_ops gates) gates
  unfolding CarriesExtended Carries Denotes
  carries-toffolis few aux m extra extended all extends word held y lw lh may ly =
      denotes-toffolis few (word ++ held) y (length-append word held ∙ ap₂ (λ p q. p + q) lw lh ∙ all) (ly ∙ all)
      ∙ ap (λ image. amplitude_of_map (toffoli_ops gates) image y) (extends word held lw lh may)

-- the law
pub maps-toffoli : (aux : Aux) (c : Cascade) → IsCascade c → lines_with_helpers aux c ≤ MOST_LINES → IsCascade (decomposed aux c)
    → length (toffoli_ops (decomposed aux c).gates) ≤ MOST_OPS → MapsToffoli aux c (toffoli_net (decomposed aux c))
unfolding CarriesExtended
maps-toffoli aux c given few valid short =
    let made : Cascade = decomposed aux c in
    let n : ℕ = length made.names in
    let is = decomposes aux c given few in
    let lines : n ≡ lines_with_helpers aux c = decomposed-lines aux c few in
    let plain : ArePlain n made.gates = (valid.valid, valid.fitting, is.plain) in
    record {
      valid = record { some = valid.some; few = valid.names.few; bounded = short; fitting = toffolis-fit n made.gates plain };
      lines = lines;
      is = refl;
      classical = toffolis-classical n made.gates plain;
      carries = carries-toffolis n made.gates plain valid.names.few aux (length c.names) (helper_count aux c) c.gates (sym lines) is.extends;
    }
