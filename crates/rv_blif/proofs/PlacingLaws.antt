-- What every placing keeps, step by step.
use Rattle.std.proofs.Common.{◌≡◌, ℕ, zero, suc, ◌+◌, ◌-◌, ◌<◌, ◌≤◌, true, false, List, [], ◌∷◌, ◌++◌, length, get_or, set, replicate, drop, slice_get, is_some, All, IfSome, Option, None, Some, refl, sym, ap, ◌∙◌, arith, add-one, drop-cons, length-append}
use Rattle.std.proofs.Common.{eqb}
use Rattle.std.proofs.lemmas.Bool.{and_parts, ne_eqb, true≢false}
use Rattle.std.proofs.lemmas.List.{length-map}
use Rattle.std.specs.Option.{unwrap_or}
use Rattle.rv_blif.specs.Logic.{Node, Output, AreNodes, IsCover, IsNode}
use Rattle.rv_blif.specs.Netlist.{Cover, name_at}
use Rattle.rv_blif.specs.declared.port.Port.{Port}
use Rattle.rv_blif.specs.Placing.{Placing, all_placed, is_placed, outputs_by, over_signals, round, rounds, signal_of, signals_by, with_covers, with_cover_at, with_inputs, IsPlacing}

-- ---- signals

-- each signal is below a number
abbrev pub AreBelow : List (Option ℕ) → ℕ → Type 0
AreBelow signals most = (name : ℕ) → IfSome (signal_of signals name) (λ signal. signal < most)

below_more : (o : Option ℕ) (a b : ℕ) → a ≤ b → IfSome o (λ s. s < a) → IfSome o (λ s. s < b)
below_more None a b le h = h
below_more (Some s) a b le h = omega (arith, h)

pub are_below_more : (signals : List (Option ℕ)) (a b : ℕ) → a ≤ b → AreBelow signals a → AreBelow signals b
are_below_more signals a b le h name = below_more (signal_of signals name) a b le (h name)

pub signal_set : (signals : List (Option ℕ)) (x signal most : ℕ) → signal < most → AreBelow signals most → AreBelow (set signals x (Some signal)) most
signal_set [] x signal most lt h name = h name
signal_set (s ∷ signals) zero signal most lt h zero = lt
signal_set (s ∷ signals) zero signal most lt h (suc name) = h (suc name)
signal_set (s ∷ signals) (suc x) signal most lt h zero = h zero
signal_set (s ∷ signals) (suc x) signal most lt h (suc name) = signal_set signals x signal most lt (λ n. h (suc n)) name

-- the signals of names that are placed
pub operands_below : (signals : List (Option ℕ)) (names : List ℕ) (most : ℕ) → all_placed signals names ≡ true → AreBelow signals most
    → All (λ s. s < most) (signals_by signals names)
operands_below signals [] most placed below k d lt = absurd (omega arith)
operands_below signals (name ∷ names) most placed below zero d lt =
    one (signal_of signals name) (and_parts (is_placed signals name) (all_placed signals names) placed).0 (below name)
  where
    one : (o : Option ℕ) → is_some o ≡ true → IfSome o (λ s. s < most) → unwrap_or o 0 < most
    one None some h = absurd (true≢false (sym some))
    one (Some s) some h = h
operands_below signals (name ∷ names) most placed below (suc k) d lt =
    operands_below signals names most (and_parts (is_placed signals name) (all_placed signals names) placed).1 below k d (omega arith)

-- ---- nodes

pub AreNodes-push : (before : ℕ) (nodes : List Node) (node : Node) → AreNodes before nodes → IsNode (before + length nodes) node
    → AreNodes before (nodes ++ node ∷ [])
AreNodes-push before [] node are is = (rw (let e : before ≡ before + 0 = omega arith in e) is, tt)
AreNodes-push before (first ∷ nodes) node are is =
    (are.0, AreNodes-push (before + 1) nodes node are.1 (rw (let e : before + 1 + length nodes ≡ before + suc (length nodes) = omega arith in e) is))

pub over_signals_is : (signals : List (Option ℕ)) (node : Node) (before : ℕ) → IsCover node → all_placed signals node.operands ≡ true → AreBelow signals before
    → IsNode before (over_signals signals node)
over_signals_is signals node before cover placed below =
    let count = length-map node.operands (λ name. unwrap_or (signal_of signals name) 0) in
    record {
      cover = record { few = rw count cover.few; products = rw count cover.products };
      operands = operands_below signals node.operands before placed below;
    }

-- one cover more
pub placing_more : (p : Placing) (cover : Cover) → IsPlacing p → IsCover cover.node → all_placed p.signals cover.node.operands ≡ true
    → IsPlacing (record p { signals = set p.signals cover.name (Some (p.inputs + length p.nodes)); nodes = p.nodes ++ over_signals p.signals cover.node ∷ [] })
placing_more p cover is cover_is placed =
    let longer = length-append p.nodes (over_signals p.signals cover.node ∷ []) in
    record {
      nodes = AreNodes-push p.inputs p.nodes (over_signals p.signals cover.node) is.nodes (over_signals_is p.signals cover.node (p.inputs + length p.nodes) cover_is placed is.signals);
      signals = signal_set p.signals cover.name (p.inputs + length p.nodes) (p.inputs + length (p.nodes ++ over_signals p.signals cover.node ∷ [])) (omega (arith, longer))
          (are_below_more p.signals (p.inputs + length p.nodes) (p.inputs + length (p.nodes ++ over_signals p.signals cover.node ∷ [])) (omega (arith, longer)) is.signals);
    }

-- ---- loops

pub covers_front : (covers : List Cover) (p : Placing) (numbers : List ℕ) (i d : ℕ) → i < length numbers
    → with_covers covers p (drop i numbers)
    ≡ with_covers covers (with_cover_at p (get_or numbers i d) (slice_get covers (get_or numbers i d))) (drop (i + 1) numbers)
covers_front covers p numbers i d lt = rw (add-one, drop-cons numbers i d) refl

pub rounds_on : (n : ℕ) (covers : List Cover) (p q start : Placing) → 0 < n → q ≡ round covers p → (length q.nodes ≡ length p.nodes → ⊥)
    → rounds n covers p ≡ start → rounds (n - 1) covers q ≡ start
rounds_on zero covers p q start some is other whole = absurd (omega arith)
rounds_on (suc n) covers p q start some is other whole =
    let less : suc n - 1 ≡ n = omega arith in
    let no : eqb (length (round covers p).nodes) (length p.nodes) ≡ false = ne_eqb _ _ (λ e. other (ap (λ (r : Placing). length r.nodes) is ∙ e)) in
    let step : rounds (suc n) covers p ≡ rounds n covers (round covers p) = rw no refl in
    ap (λ m. rounds m covers q) less ∙ ap (rounds n covers) is ∙ sym step ∙ whole

pub ports_front : (names : List (List ℕ)) (signals : List (Option ℕ)) (made : List Output) (ports : List Port) (i signal : ℕ) (d : Port) → i < length ports
    → signal_of signals (get_or ports i d).name ≡ Some signal
    → outputs_by names signals made (drop i ports)
    ≡ outputs_by names signals (made ++ record { name = name_at names (get_or ports i d).name; signal = signal } ∷ []) (drop (i + 1) ports)
ports_front names signals made ports i signal d lt at = rw (add-one, drop-cons ports i d, at) refl

pub port_below : (signals : List (Option ℕ)) (name signal most : ℕ) → signal_of signals name ≡ Some signal → AreBelow signals most → signal < most
port_below signals name signal most at below = let h = below name in rw at at h
