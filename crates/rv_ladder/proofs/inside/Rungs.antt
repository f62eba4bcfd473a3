-- One rung round an inner part that flips the rung's target under a condition, up to a power of w.
use Rattle.std.proofs.Common.{◌≡◌, ◌≢◌, ℕ, suc, ◌+◌, ◌<◌, Bool, true, false, cond, ◌&&◌, List, [], ◌∷◌, ◌++◌, length, set, refl, sym, ◌∙◌, ap, ap₂, arith, length-set, get_or-set_same, get_or-set_other, set-set}
use Rattle.std.proofs.lemmas.Int.{ints}
use Rattle.rv_gate.specs.Gate.{xor}
use Rattle.rv_net.specs.declared.op.Op.{Op}
use Rattle.rv_net.specs.declared.op.Op.TheVariants.{H}
use Rattle.rv_net.specs.Cyclotomic.{Cyclotomic, plus, times_w, times_w_power, doubled}
use Rattle.rv_net.proofs.Step.{Word, bit}
use Rattle.rv_net.proofs.Cyclotomic.{same_cyclotomic, times_w_power-add, doubled-add, doubled-power, turns_comm}
use Rattle.rv_net.proofs.Frame.{through, through-append}
use Rattle.rv_ladder.specs.Ladder.{half, rung}
use Rattle.rv_ladder.specs.inside.Moved.{level}
use Rattle.rv_ladder.proofs.inside.Moving.{power-sum}

-- ---- doubled, and turned by a power of w

abbrev pub lift : ℕ → ℕ → Cyclotomic → Cyclotomic
lift m e u = doubled m (times_w_power e u)

pub lift-add : (m e : ℕ) (u v : Cyclotomic) → lift m e (plus u v) ≡ plus (lift m e u) (lift m e v)
lift-add m e u v = ap (doubled m) (times_w_power-add e u v) ∙ doubled-add m _ _

pub lift-power : (m e p : ℕ) (u : Cyclotomic) → times_w_power p (lift m e u) ≡ lift m e (times_w_power p u)
lift-power m e p u = doubled-power m p _ ∙ ap (doubled m) (turns_comm p e u)

-- ---- half a rung

-- what it brings where the control and the target are c and t
abbrev pub half_turn : Bool → Bool → Cyclotomic → Cyclotomic
half_turn c t u = times_w_power (cond t 1 0) (times_w_power (cond (xor c t) 7 0) u)

pub half_turn-lift : (c t : Bool) (m e : ℕ) (u : Cyclotomic) → half_turn c t (lift m e u) ≡ lift m e (half_turn c t u)
half_turn-lift c t m e u = ap (times_w_power (cond t 1 0)) (lift-power m e (cond (xor c t) 7 0) u) ∙ lift-power m e (cond t 1 0) _

pub through-half : (k : Word → Cyclotomic) (x : Word) (c t : ℕ) → t < length x
    → through (half c t) k x ≡ half_turn (bit x c) (bit x t) (k (set x t (xor (bit x c) (bit x t))))
unfolding through times_w_power
through-half k x c t lt =
    let e : bit (set x t (xor (bit x c) (bit x t))) t ≡ xor (bit x c) (bit x t) = get_or-set_same x t _ false lt in
    ap (λ b. times_w_power (cond (bit x t) 1 0) (times_w_power (cond b 7 0) (k (set x t (xor (bit x c) (bit x t)))))) e

-- half a rung where the target is put to b
pub half_put : (rest : List Op) (k : Word → Cyclotomic) (x : Word) (c t : ℕ) (b : Bool) → t < length x → c ≢ t
    → through (half c t ++ rest) k (set x t b) ≡ half_turn (bit x c) b (through rest k (set x t (xor (bit x c) b)))
half_put rest k x c t b lt ct =
    let len = length-set x t b in
    let ec : bit (set x t b) c ≡ bit x c = get_or-set_other x t c b false ct in
    let et : bit (set x t b) t ≡ b = get_or-set_same x t b false lt in
    through-append (half c t) rest k (set x t b)
    ∙ through-half (λ v. through rest k v) (set x t b) c t (omega arith)
    ∙ (λ i. half_turn (ec i) (et i) (through rest k (set (set x t b) t (xor (ec i) (et i)))))
    ∙ ap (λ w. half_turn (bit x c) b (through rest k w)) (set-set x t b (xor (bit x c) b))

-- H on a line that is put to d
pub h_put : (k : Word → Cyclotomic) (y : Word) (t : ℕ) (d : Bool) → t < length y
    → through (H t ∷ []) k (set y t d) ≡ plus (k (set y t false)) (times_w_power (cond d 4 0) (k (set y t true)))
unfolding through
h_put k y t d lt =
    ap (λ b. plus (k (set (set y t d) t false)) (times_w_power (cond b 4 0) (k (set (set y t d) t true)))) (get_or-set_same y t d false lt)
    ∙ ap₂ (λ v w. plus (k v) (times_w_power (cond d 4 0) (k w))) (set-set y t d false) (set-set y t d true)

abbrev pub last : Bool → Bool → Cyclotomic → Cyclotomic → Cyclotomic
last c d u v = half_turn c d (plus u (times_w_power (cond (xor c d) 4 0) v))

pub half_h : (k : Word → Cyclotomic) (y : Word) (c t : ℕ) (d : Bool) → t < length y → c ≢ t
    → through (half c t ++ (H t ∷ [])) k (set y t d) ≡ last (bit y c) d (k (set y t false)) (k (set y t true))
half_h k y c t d lt ct =
    half_put (H t ∷ []) k y c t d lt ct
    ∙ ap (half_turn (bit y c) d) (h_put k y t (xor (bit y c) d) lt)

-- ---- a rung, by bits

abbrev pub first : Bool → Bool → Bool → Cyclotomic → Cyclotomic → Cyclotomic
first f c t u v = plus (half_turn c false (last c (xor f (xor c false)) u v)) (times_w_power (cond t 4 0) (half_turn c true (last c (xor f (xor c true)) u v)))

abbrev pub picked : Bool → Cyclotomic → Cyclotomic → Cyclotomic
picked b u v = cond b v u

rung_bits : (f c t : Bool) (u v : Cyclotomic) → first f c t u v ≡ plus (times_w_power (level f c t) (picked (xor (f && c) t) u v)) (times_w_power (level f c t) (picked (xor (f && c) t) u v))
unfolding plus times_w_power times_w
rung_bits false false false u v = same_cyclotomic _ _ (omega (arith, ints)) (omega (arith, ints)) (omega (arith, ints)) (omega (arith, ints))
rung_bits false false true u v = same_cyclotomic _ _ (omega (arith, ints)) (omega (arith, ints)) (omega (arith, ints)) (omega (arith, ints))
rung_bits false true false u v = same_cyclotomic _ _ (omega (arith, ints)) (omega (arith, ints)) (omega (arith, ints)) (omega (arith, ints))
rung_bits false true true u v = same_cyclotomic _ _ (omega (arith, ints)) (omega (arith, ints)) (omega (arith, ints)) (omega (arith, ints))
rung_bits true false false u v = same_cyclotomic _ _ (omega (arith, ints)) (omega (arith, ints)) (omega (arith, ints)) (omega (arith, ints))
rung_bits true false true u v = same_cyclotomic _ _ (omega (arith, ints)) (omega (arith, ints)) (omega (arith, ints)) (omega (arith, ints))
rung_bits true true false u v = same_cyclotomic _ _ (omega (arith, ints)) (omega (arith, ints)) (omega (arith, ints)) (omega (arith, ints))
rung_bits true true true u v = same_cyclotomic _ _ (omega (arith, ints)) (omega (arith, ints)) (omega (arith, ints)) (omega (arith, ints))

pub picked-put : (k : Word → Cyclotomic) (y : Word) (t : ℕ) (b : Bool) → picked b (k (set y t false)) (k (set y t true)) ≡ k (set y t b)
picked-put k y t true = refl
picked-put k y t false = refl

-- ---- a rung

-- With the target put to b, the inner part flips it where f is true, takes the other lines to those of y, and brings 2^m w^e.
pub record Flips (inner : List Op) (x y : Word) (t m e : ℕ) (f : Bool) : Type 0 where
  pub each : (k : Word → Cyclotomic) (b : Bool) → through inner k (set x t b) ≡ lift m e (k (set y t (xor f b)))

pub through-rung : (k : Word → Cyclotomic) (x y : Word) (c t m e : ℕ) (f : Bool) (inner : List Op) → t < length x → length y ≡ length x → c ≢ t → bit y c ≡ bit x c → Flips inner x y t m e f
    → through (rung c t inner) k x ≡ doubled (suc m) (times_w_power (e + level f (bit x c) (bit x t)) (k (set y t (xor (f && bit x c) (bit x t)))))
unfolding through doubled
through-rung k x y c t m e f inner lt ly ct yc flips =
    let u : Cyclotomic = k (set y t false) in
    let v : Cyclotomic = k (set y t true) in
    let r : Cyclotomic = times_w_power (level f (bit x c) (bit x t)) (picked (xor (f && bit x c) (bit x t)) u v) in
    ap₂ (λ p q. plus p (times_w_power (cond (bit x t) 4 0) q)) (branch false) (branch true)
    ∙ ap (plus (lift m e (half_turn (bit x c) false (last (bit x c) (xor f (xor (bit x c) false)) u v)))) (lift-power m e (cond (bit x t) 4 0) _)
    ∙ sym (lift-add m e _ _)
    ∙ ap (lift m e) (rung_bits f (bit x c) (bit x t) u v)
    ∙ lift-add m e r r
    ∙ ap (λ w. plus (doubled m w) (doubled m w)) (sym (power-sum e (level f (bit x c) (bit x t)) _) ∙ ap (times_w_power (e + level f (bit x c) (bit x t))) (picked-put k y t (xor (f && bit x c) (bit x t))))
  where
    branch : (b : Bool) → through (half c t ++ (inner ++ (half c t ++ (H t ∷ [])))) k (set x t b)
        ≡ lift m e (half_turn (bit x c) b (last (bit x c) (xor f (xor (bit x c) b)) (k (set y t false)) (k (set y t true))))
    branch b =
        half_put (inner ++ (half c t ++ (H t ∷ []))) k x c t b lt ct
        ∙ ap (half_turn (bit x c) b) (
        through-append inner (half c t ++ (H t ∷ [])) k (set x t (xor (bit x c) b))
        ∙ flips.each (λ w. through (half c t ++ (H t ∷ [])) k w) (xor (bit x c) b)
        ∙ ap (lift m e) (half_h k y c t (xor f (xor (bit x c) b)) (omega arith) ct ∙ ap (λ p. last p (xor f (xor (bit x c) b)) (k (set y t false)) (k (set y t true))) yc)
        )
        ∙ half_turn-lift (bit x c) b m e _
