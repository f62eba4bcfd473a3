-- An operation undoes another one: two H side by side double, any other pair leaves all as it is.
use Rattle.std.proofs.Common.{◌≡◌, ◌≢◌, ℕ, ◌<◌, Bool, true, false, cond, ◌&&◌, List, [], ◌∷◌, map, length, refl, sym, ap, ◌∙◌, arith, not-suc-le-zero}
use Rattle.std.proofs.lemmas.List.{set_comm, set-get_or}
use Rattle.std.proofs.lemmas.Int.{ints}
use Rattle.rv_net.specs.declared.op.Op.{Op}
use Rattle.rv_net.specs.declared.op.Op.TheVariants.{X, Y, Z, H, S, Sdg, T, Tdg, Cx, Cz, Ccx, Swap, Cswap}
use Rattle.rv_net.specs.Cyclotomic.{Cyclotomic, plus, times_w, times_w_power, doubled}
use Rattle.rv_net.specs.Op.{OpFitsIn}
use Rattle.rv_net.proofs.Step.{Word, bit, step}
use Rattle.rv_net.proofs.Cyclotomic.{same_cyclotomic, w_eight}
use Rattle.rv_net.proofs.Frame.{through, puts, relabel, AllWithin, frame-through, two_apart}
use Rattle.rv_net.proofs.Toffoli.{on_lines, own}
use Rattle.rv_pairs.specs.Cancelled.{Undoes, inverse, mirrored}
use Rattle.rv_gate.proofs.Bits.{and_comm}

-- how many times 2 two of them bring
abbrev pub twos : Op → ℕ
twos (H q) = 1
twos (X q) = 0
twos (Y q) = 0
twos (Z q) = 0
twos (S q) = 0
twos (Sdg q) = 0
twos (T q) = 0
twos (Tdg q) = 0
twos (Cx a b) = 0
twos (Cz a b) = 0
twos (Ccx a b c) = 0
twos (Swap a b) = 0
twos (Cswap c a b) = 0

-- ---- nets on one line and on two

on_one : (net : List Op) (k : Word → Cyclotomic) (x : Word) (q : ℕ) → q < length x → AllWithin 1 net
    → through (map (relabel (q ∷ [])) net) k x ≡ through net (λ u. k (puts x (q ∷ []) u)) (bit x q ∷ [])
on_one net k x q h w =
    ap (through (map (relabel (q ∷ [])) net) k) (sym (set-get_or x q false))
    ∙ frame-through x (q ∷ []) ((λ i g. absurd (not-suc-le-zero g)), tt) (h, tt) net k (bit x q ∷ []) refl w

own_two : (x : Word) (a b : ℕ) → puts x (a ∷ b ∷ []) (bit x a ∷ bit x b ∷ []) ≡ x
own_two x a b = simp set-get_or

on_two : (net : List Op) (k : Word → Cyclotomic) (x : Word) (a b : ℕ) → a < length x → b < length x → a ≢ b → AllWithin 2 net
    → through (map (relabel (a ∷ b ∷ [])) net) k x ≡ through net (λ u. k (puts x (a ∷ b ∷ []) u)) (bit x a ∷ bit x b ∷ [])
on_two net k x a b ha hb ab w =
    ap (through (map (relabel (a ∷ b ∷ [])) net) k) (sym (own_two x a b))
    ∙ frame-through x (a ∷ b ∷ []) (two_apart a b ab) (ha, (hb, tt)) net k (bit x a ∷ bit x b ∷ []) refl w

-- ---- twice on few bits

twice_x : (k : Word → Cyclotomic) (b : Bool) → through (X 0 ∷ X 0 ∷ []) k (b ∷ []) ≡ k (b ∷ [])
unfolding through times_w_power
twice_x k true = refl
twice_x k false = refl

twice_y : (k : Word → Cyclotomic) (b : Bool) → through (Y 0 ∷ Y 0 ∷ []) k (b ∷ []) ≡ k (b ∷ [])
unfolding through times_w_power
twice_y k true = w_eight (k (true ∷ []))
twice_y k false = w_eight (k (false ∷ []))

twice_h : (k : Word → Cyclotomic) (b : Bool) → through (H 0 ∷ H 0 ∷ []) k (b ∷ []) ≡ plus (k (b ∷ [])) (k (b ∷ []))
unfolding through plus times_w_power times_w
twice_h k true = same_cyclotomic _ _ (omega (arith, ints)) (omega (arith, ints)) (omega (arith, ints)) (omega (arith, ints))
twice_h k false = same_cyclotomic _ _ (omega (arith, ints)) (omega (arith, ints)) (omega (arith, ints)) (omega (arith, ints))

twice_cx : (k : Word → Cyclotomic) (a b : Bool) → through (Cx 0 1 ∷ Cx 0 1 ∷ []) k (a ∷ b ∷ []) ≡ k (a ∷ b ∷ [])
unfolding through times_w_power
twice_cx k a b = grind arith

twice_swap : (k : Word → Cyclotomic) (a b : Bool) → through (Swap 0 1 ∷ Swap 0 1 ∷ []) k (a ∷ b ∷ []) ≡ k (a ∷ b ∷ [])
unfolding through times_w_power
twice_swap k a b = refl

twice_ccx : (k : Word → Cyclotomic) (a b c : Bool) → through (Ccx 0 1 2 ∷ Ccx 0 1 2 ∷ []) k (a ∷ b ∷ c ∷ []) ≡ k (a ∷ b ∷ c ∷ [])
unfolding through times_w_power
twice_ccx k a b c = grind arith

twice_cswap : (k : Word → Cyclotomic) (c a b : Bool) → through (Cswap 0 1 2 ∷ Cswap 0 1 2 ∷ []) k (c ∷ a ∷ b ∷ []) ≡ k (c ∷ a ∷ b ∷ [])
unfolding through times_w_power
twice_cswap k true a b = refl
twice_cswap k false a b = refl

-- ---- phases back and forth

phases : (b : Bool) (u : Cyclotomic) → (times_w_power (cond b 4 0) (times_w_power (cond b 4 0) u) ≡ u) × (times_w_power (cond b 2 0) (times_w_power (cond b 6 0) u) ≡ u)
    × (times_w_power (cond b 6 0) (times_w_power (cond b 2 0) u) ≡ u) × (times_w_power (cond b 1 0) (times_w_power (cond b 7 0) u) ≡ u) × (times_w_power (cond b 7 0) (times_w_power (cond b 1 0) u) ≡ u)
unfolding times_w_power
phases true u = (w_eight u, w_eight u, w_eight u, w_eight u, w_eight u)
phases false u = (refl, refl, refl, refl, refl)

-- ---- an operation before its inverse

pub undone : (o : Op) (k : Word → Cyclotomic) (x : Word) → OpFitsIn o (length x) → step (inverse o) (λ v. step o k v) x ≡ doubled (twos o) (k x)
unfolding doubled through relabel
undone (Z q) k x h = (phases (bit x q) (k x)).0
undone (S q) k x h = (phases (bit x q) (k x)).2
undone (Sdg q) k x h = (phases (bit x q) (k x)).1
undone (T q) k x h = (phases (bit x q) (k x)).4
undone (Tdg q) k x h = (phases (bit x q) (k x)).3
undone (Cz a b) k x h = (phases (bit x a && bit x b) (k x)).0
undone (X q) k x h = on_one (X 0 ∷ X 0 ∷ []) k x q h (omega arith) ∙ twice_x (λ u. k (puts x (q ∷ []) u)) (bit x q) ∙ ap k (set-get_or x q false)
undone (Y q) k x h = on_one (Y 0 ∷ Y 0 ∷ []) k x q h (omega arith) ∙ twice_y (λ u. k (puts x (q ∷ []) u)) (bit x q) ∙ ap k (set-get_or x q false)
undone (H q) k x h =
    on_one (H 0 ∷ H 0 ∷ []) k x q h (omega arith) ∙ twice_h (λ u. k (puts x (q ∷ []) u)) (bit x q) ∙ ap (λ v. plus (k v) (k v)) (set-get_or x q false)
undone (Cx a b) k x h =
    on_two (Cx 0 1 ∷ Cx 0 1 ∷ []) k x a b h.0 h.1 h.2 (omega arith) ∙ twice_cx (λ u. k (puts x (a ∷ b ∷ []) u)) (bit x a) (bit x b) ∙ ap k (own_two x a b)
undone (Swap a b) k x h =
    on_two (Swap 0 1 ∷ Swap 0 1 ∷ []) k x a b h.0 h.1 h.2 (omega arith) ∙ twice_swap (λ u. k (puts x (a ∷ b ∷ []) u)) (bit x a) (bit x b) ∙ ap k (own_two x a b)
undone (Ccx a b c) k x h =
    on_lines (Ccx 0 1 2 ∷ Ccx 0 1 2 ∷ []) k x a b c h.0 h.1 h.2 h.3 h.4 h.5 (omega arith)
    ∙ twice_ccx (λ u. k (puts x (a ∷ b ∷ c ∷ []) u)) (bit x a) (bit x b) (bit x c) ∙ ap k (own x a b c)
undone (Cswap c a b) k x h =
    on_lines (Cswap 0 1 2 ∷ Cswap 0 1 2 ∷ []) k x c a b h.0 h.1 h.2 h.3 h.4 h.5 (omega arith)
    ∙ twice_cswap (λ u. k (puts x (c ∷ a ∷ b ∷ []) u)) (bit x c) (bit x a) (bit x b) ∙ ap k (own x c a b)

-- ---- the order of lines that may be exchanged

pub mirrored_same : (o : Op) (k : Word → Cyclotomic) (x : Word) → OpFitsIn o (length x) → step (mirrored o) k x ≡ step o k x
mirrored_same o k x h = grind (arith, times_w_power, and_comm, set_comm)

pub inverse_fits : (o : Op) (n : ℕ) → OpFitsIn o n → OpFitsIn (inverse o) n
inverse_fits (X q) n h = h
inverse_fits (Y q) n h = h
inverse_fits (Z q) n h = h
inverse_fits (H q) n h = h
inverse_fits (S q) n h = h
inverse_fits (Sdg q) n h = h
inverse_fits (T q) n h = h
inverse_fits (Tdg q) n h = h
inverse_fits (Cx a b) n h = h
inverse_fits (Cz a b) n h = h
inverse_fits (Ccx a b c) n h = h
inverse_fits (Swap a b) n h = h
inverse_fits (Cswap c a b) n h = h

pub undoing : (p o : Op) (k : Word → Cyclotomic) (x : Word) → Undoes p o → OpFitsIn o (length x) → step p (λ v. step o k v) x ≡ doubled (twos o) (k x)
undoing p o k x h h1 = grind (arith, undone, mirrored_same, inverse_fits)
