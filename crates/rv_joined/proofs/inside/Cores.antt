-- Blocks on words of three bits, and on any lines.
use Rattle.std.proofs.Common.{◌≡◌, ℕ, ◌*◌, Bool, true, false, ◌&&◌, List, [], ◌∷◌, ◌++◌, map, length, refl, sym, ap, ap₂, ◌∙◌, arith, rules}
use Rattle.std.proofs.lemmas.Int.{ints}
use Rattle.rv_gate.specs.Gate.{same, xor}
use Rattle.rv_gate.proofs.Bits.{and_true}
use Rattle.rv_mct.specs.declared.control.Control.{Control}
use Rattle.rv_mct.proofs.inside.Ladders.{met, met_all, put}
use Rattle.rv_net.specs.Amplitude.{count_h}
use Rattle.rv_net.specs.Cyclotomic.{Cyclotomic, plus, times_w, times_w_power, doubled}
use Rattle.rv_net.specs.Network.{on_zero}
use Rattle.rv_net.specs.declared.op.Op.{Op}
use Rattle.rv_net.proofs.Cyclotomic.{same_cyclotomic}
use Rattle.rv_net.proofs.Frame.{through, through-append, puts, relabel, AllWithin}
use Rattle.rv_net.proofs.Step.{Word, bit}
use Rattle.rv_net.proofs.Toffoli.{on_lines, changed}
use Rattle.rv_net.proofs.inside.Network.{Fits}
use Rattle.rv_ladder.proofs.inside.Fitting.{Fit}
use Rattle.rv_joined.specs.Blocks.{block_ops, core, turn}
use Rattle.rv_joined.specs.declared.block.Block.{Block}
use Rattle.rv_joined.specs.declared.block.Block.TheVariants.{Plus, Minus, Before, After}

-- a core on words of three bits
abbrev Core : Block → Type 0
Core b =
    (k : Word → Cyclotomic) (a c t : Bool)
    → through (core b 0 1 2) k (a ∷ c ∷ t ∷ [])
    ≡ plus (times_w_power (turn b a c t) (k (a ∷ c ∷ xor (a && c) t ∷ []))) (times_w_power (turn b a c t) (k (a ∷ c ∷ xor (a && c) t ∷ [])))

plus_core : Core Plus
unfolding core through plus times_w_power times_w
plus_core k false false false = same_cyclotomic _ _ (omega (arith, ints)) (omega (arith, ints)) (omega (arith, ints)) (omega (arith, ints))
plus_core k false false true = same_cyclotomic _ _ (omega (arith, ints)) (omega (arith, ints)) (omega (arith, ints)) (omega (arith, ints))
plus_core k false true false = same_cyclotomic _ _ (omega (arith, ints)) (omega (arith, ints)) (omega (arith, ints)) (omega (arith, ints))
plus_core k false true true = same_cyclotomic _ _ (omega (arith, ints)) (omega (arith, ints)) (omega (arith, ints)) (omega (arith, ints))
plus_core k true false false = same_cyclotomic _ _ (omega (arith, ints)) (omega (arith, ints)) (omega (arith, ints)) (omega (arith, ints))
plus_core k true false true = same_cyclotomic _ _ (omega (arith, ints)) (omega (arith, ints)) (omega (arith, ints)) (omega (arith, ints))
plus_core k true true false = same_cyclotomic _ _ (omega (arith, ints)) (omega (arith, ints)) (omega (arith, ints)) (omega (arith, ints))
plus_core k true true true = same_cyclotomic _ _ (omega (arith, ints)) (omega (arith, ints)) (omega (arith, ints)) (omega (arith, ints))

minus_core : Core Minus
unfolding core through plus times_w_power times_w
minus_core k false false false = same_cyclotomic _ _ (omega (arith, ints)) (omega (arith, ints)) (omega (arith, ints)) (omega (arith, ints))
minus_core k false false true = same_cyclotomic _ _ (omega (arith, ints)) (omega (arith, ints)) (omega (arith, ints)) (omega (arith, ints))
minus_core k false true false = same_cyclotomic _ _ (omega (arith, ints)) (omega (arith, ints)) (omega (arith, ints)) (omega (arith, ints))
minus_core k false true true = same_cyclotomic _ _ (omega (arith, ints)) (omega (arith, ints)) (omega (arith, ints)) (omega (arith, ints))
minus_core k true false false = same_cyclotomic _ _ (omega (arith, ints)) (omega (arith, ints)) (omega (arith, ints)) (omega (arith, ints))
minus_core k true false true = same_cyclotomic _ _ (omega (arith, ints)) (omega (arith, ints)) (omega (arith, ints)) (omega (arith, ints))
minus_core k true true false = same_cyclotomic _ _ (omega (arith, ints)) (omega (arith, ints)) (omega (arith, ints)) (omega (arith, ints))
minus_core k true true true = same_cyclotomic _ _ (omega (arith, ints)) (omega (arith, ints)) (omega (arith, ints)) (omega (arith, ints))

short_core : Core Before
unfolding core through plus times_w_power times_w
short_core k false false false = same_cyclotomic _ _ (omega (arith, ints)) (omega (arith, ints)) (omega (arith, ints)) (omega (arith, ints))
short_core k false false true = same_cyclotomic _ _ (omega (arith, ints)) (omega (arith, ints)) (omega (arith, ints)) (omega (arith, ints))
short_core k false true false = same_cyclotomic _ _ (omega (arith, ints)) (omega (arith, ints)) (omega (arith, ints)) (omega (arith, ints))
short_core k false true true = same_cyclotomic _ _ (omega (arith, ints)) (omega (arith, ints)) (omega (arith, ints)) (omega (arith, ints))
short_core k true false false = same_cyclotomic _ _ (omega (arith, ints)) (omega (arith, ints)) (omega (arith, ints)) (omega (arith, ints))
short_core k true false true = same_cyclotomic _ _ (omega (arith, ints)) (omega (arith, ints)) (omega (arith, ints)) (omega (arith, ints))
short_core k true true false = same_cyclotomic _ _ (omega (arith, ints)) (omega (arith, ints)) (omega (arith, ints)) (omega (arith, ints))
short_core k true true true = same_cyclotomic _ _ (omega (arith, ints)) (omega (arith, ints)) (omega (arith, ints)) (omega (arith, ints))

core_bits : (b : Block) → Core b
unfolding core
core_bits Plus = plus_core
core_bits Minus = minus_core
core_bits Before = short_core
core_bits After = short_core

-- ---- between X on the controls that want 0

abbrev on_line : ℕ → Bool → Control
on_line line wanted = record { line = line; wanted = wanted }

same_twice : (a p : Bool) → same (same a p) p ≡ a
same_twice a p = grind arith

around : Bool → Bool → List Op
around p q = on_zero (on_line 0 p) ++ on_zero (on_line 1 q)

through-around : (k : Word → Cyclotomic) (p q a b c : Bool) → through (around p q) k (a ∷ b ∷ c ∷ []) ≡ k (same a p ∷ same b q ∷ c ∷ [])
unfolding around through times_w_power
through-around k p q a b c = grind arith

blocked : Block → Bool → Bool → List Op
unfolding around
blocked b p q = around p q ++ (core b 0 1 2 ++ around p q)

through-blocked : (b : Block) (k : Word → Cyclotomic) (p q a c t : Bool)
    → through (blocked b p q) k (a ∷ c ∷ t ∷ [])
    ≡ doubled 1 (times_w_power (turn b (same a p) (same c q) t) (k (a ∷ c ∷ xor (same a p && same c q) t ∷ [])))
unfolding blocked doubled
through-blocked b k p q a c t =
    let m : Bool = xor (same a p && same c q) t in
    let e : ℕ = turn b (same a p) (same c q) t in
    through-append (around p q) (core b 0 1 2 ++ around p q) k _
    ∙ through-around (λ v. through (core b 0 1 2 ++ around p q) k v) p q a c t
    ∙ through-append (core b 0 1 2) (around p q) k _
    ∙ core_bits b (λ v. through (around p q) k v) (same a p) (same c q) t
    ∙ ap (λ u. plus (times_w_power e u) (times_w_power e u))
    (through-around k p q (same a p) (same c q) m
    ∙ ap₂ (λ s r. k (s ∷ r ∷ m ∷ [])) (same_twice a p) (same_twice c q))

within_blocked : (b : Block) (p q : Bool) → AllWithin 3 (blocked b p q)
unfolding blocked around core
within_blocked Plus true true = omega arith
within_blocked Plus true false = omega arith
within_blocked Plus false true = omega arith
within_blocked Plus false false = omega arith
within_blocked Minus true true = omega arith
within_blocked Minus true false = omega arith
within_blocked Minus false true = omega arith
within_blocked Minus false false = omega arith
within_blocked Before true true = omega arith
within_blocked Before true false = omega arith
within_blocked Before false true = omega arith
within_blocked Before false false = omega arith
within_blocked After true true = omega arith
within_blocked After true false = omega arith
within_blocked After false true = omega arith
within_blocked After false false = omega arith

same_blocked : (b : Block) (a c t : ℕ) (p q : Bool) → map (relabel (a ∷ c ∷ t ∷ [])) (blocked b p q) ≡ block_ops b (on_line a p) (on_line c q) t
unfolding blocked around core relabel
same_blocked Plus a c t true true = refl
same_blocked Plus a c t true false = refl
same_blocked Plus a c t false true = refl
same_blocked Plus a c t false false = refl
same_blocked Minus a c t true true = refl
same_blocked Minus a c t true false = refl
same_blocked Minus a c t false true = refl
same_blocked Minus a c t false false = refl
same_blocked Before a c t true true = refl
same_blocked Before a c t true false = refl
same_blocked Before a c t false true = refl
same_blocked Before a c t false false = refl
same_blocked After a c t true true = refl
same_blocked After a c t true false = refl
same_blocked After a c t false true = refl
same_blocked After a c t false false = refl

pub through-block : (b : Block) (k : Word → Cyclotomic) (x : Word) (a c : Control) (t : ℕ) → Fits (length x) (a ∷ c ∷ []) t
    → through (block_ops b a c t) k x
    ≡ doubled 1 (times_w_power (turn b (met a x) (met c x) (bit x t)) (k (put x t (met_all (a ∷ c ∷ []) x))))
unfolding Fits
through-block b k x a c t h =
    let e : ℕ = turn b (met a x) (met c x) (bit x t) in
    ap (λ net. through net k x) (sym (same_blocked b a.line c.line t a.wanted c.wanted))
    ∙ on_lines (blocked b a.wanted c.wanted) k x a.line c.line t h.0 h.1 h.2 h.3 h.4 h.5 (within_blocked b a.wanted c.wanted)
    ∙ through-blocked b (λ u. k (puts x (a.line ∷ c.line ∷ t ∷ []) u)) a.wanted c.wanted (bit x a.line) (bit x c.line) (bit x t)
    ∙ ap (λ v. doubled 1 (times_w_power e (k v))) (changed x a.line c.line t (xor (met a x && met c x) (bit x t)) h.4 h.5)
    ∙ ap (λ (m : Bool). doubled 1 (times_w_power e (k (put x t (met a x && m))))) (sym (and_true (met c x)))

pub count_h-block : (b : Block) (a c : Control) (t : ℕ) → count_h (block_ops b a c t) ≡ 2 * 1
unfolding core count_h
count_h-block b a c t = go b a.wanted c.wanted
  where
    go : (b : Block) (p q : Bool) → count_h (block_ops b (on_line a.line p) (on_line c.line q) t) ≡ 2 * 1
    go Plus true true = refl
    go Plus true false = refl
    go Plus false true = refl
    go Plus false false = refl
    go Minus true true = refl
    go Minus true false = refl
    go Minus false true = refl
    go Minus false false = refl
    go Before true true = refl
    go Before true false = refl
    go Before false true = refl
    go Before false false = refl
    go After true true = refl
    go After true false = refl
    go After false true = refl
    go After false false = refl

pub fit_block : (n : ℕ) (b : Block) (a c : Control) (t : ℕ) → Fits n (a ∷ c ∷ []) t → Fit n (block_ops b a c t)
unfolding Fits core
fit_block n b a c t h = go b a.wanted c.wanted
  where
    go : (b : Block) (p q : Bool) → Fit n (block_ops b (on_line a.line p) (on_line c.line q) t)
    go Plus true true = search rules
    go Plus true false = search rules
    go Plus false true = search rules
    go Plus false false = search rules
    go Minus true true = search rules
    go Minus true false = search rules
    go Minus false true = search rules
    go Minus false false = search rules
    go Before true true = search rules
    go Before true false = search rules
    go Before false true = search rules
    go Before false false = search rules
    go After true true = search rules
    go After true false = search rules
    go After false true = search rules
    go After false false = search rules
