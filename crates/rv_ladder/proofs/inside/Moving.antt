-- How the words that a ladder makes hang together.
use Rattle.std.proofs.Common.{◌≡◌, ℕ, zero, suc, ◌+◌, Bool, true, false, ◌&&◌, List, [], ◌∷◌, length, set, refl, sym, ◌∙◌, ap, ap₂, inl, inr, arith, length-set, get_or-set_same, get_or-set_other, set-set}
use Rattle.std.proofs.lemmas.List.{set_comm, set-get_or}
use Rattle.rv_gate.specs.Gate.{xor}
use Rattle.rv_gate.specs.Every.{Every}
use Rattle.rv_net.specs.Cyclotomic.{Cyclotomic, times_w, times_w_power}
use Rattle.rv_net.proofs.Step.{Word, bit}
use Rattle.rv_net.proofs.Cyclotomic.{w_eight, turns_comm}
use Rattle.rv_ladder.specs.inside.Moved.{Divides, IsOn, IsOff, Outside, level, met, moved, turned}
use Rattle.rv_gate.proofs.Bits.{xor_back}
use Rattle.rv_mct.proofs.inside.Ladders.{off_on}

-- a rung taken away
pub lower : (n : ℕ) (on : ℕ → Bool) (a b c : ℕ) (more : List ℕ) (h : ℕ) (hs : List ℕ) (t : ℕ) → Divides n on a b (c ∷ more) (h ∷ hs) t → Divides n on a b more hs h
lower n on a b c more h hs t r = record { first = r.first; second = r.second; others = r.others.1; spots = r.spots.1; distinct = r.distinct.1; enough = omega (arith, r.enough) }

-- ---- a line outside

pub met-set : (n : ℕ) (on : ℕ → Bool) (a b : ℕ) (more : List ℕ) (x : Word) (t : ℕ) (v : Bool) → on a ≡ true → on b ≡ true → Every (IsOn n on) more → on t ≡ false
    → met a b more (set x t v) ≡ met a b more x
met-set n on a b [] x t v oa ob om ot =
    ap₂ (λ p q. p && q) (get_or-set_other x t a v false (off_on on a t oa ot)) (get_or-set_other x t b v false (off_on on b t ob ot))
met-set n on a b (c ∷ more) x t v oa ob om ot =
    ap₂ (λ p q. p && q) (met-set n on a b more x t v oa ob om.1 ot) (get_or-set_other x t c v false (off_on on c t om.0.1 ot))

pub length-moved : (a b : ℕ) (more hs : List ℕ) (t : ℕ) (x : Word) → length (moved a b more hs t x) ≡ length x
length-moved a b [] hs t x = length-set x t _
length-moved a b (c ∷ more) [] t x = refl
length-moved a b (c ∷ more) (h ∷ hs) t x = length-set (moved a b more hs h x) t _ ∙ length-moved a b more hs h x

pub bit-moved : (a b : ℕ) (more hs : List ℕ) (t : ℕ) (x : Word) (q : ℕ) → Outside q (t ∷ hs) → bit (moved a b more hs t x) q ≡ bit x q
bit-moved a b [] hs t x q out = get_or-set_other x t q _ false (λ e. out t (inl refl) (sym e))
bit-moved a b (c ∷ more) [] t x q out = refl
bit-moved a b (c ∷ more) (h ∷ hs) t x q out =
    get_or-set_other (moved a b more hs h x) t q _ false (λ e. out t (inl refl) (sym e)) ∙ bit-moved a b more hs h x q (λ y i. out y (inr i))

pub moved-set : (n : ℕ) (on : ℕ → Bool) (a b : ℕ) (more hs : List ℕ) (t : ℕ) (x : Word) (q : ℕ) (v : Bool) → Divides n on a b more hs t → on q ≡ false → Outside q (t ∷ hs)
    → moved a b more hs t (set x q v) ≡ set (moved a b more hs t x) q v
moved-set n on a b [] hs t x q v r oq out =
    ap (set (set x q v) t) (ap₂ xor (met-set n on a b [] x q v r.first.1 r.second.1 tt oq) (get_or-set_other x q t v false (out t (inl refl))))
    ∙ set_comm x q t v _ (λ e. out t (inl refl) (sym e))
moved-set n on a b (c ∷ more) [] t x q v r oq out = refl
moved-set n on a b (c ∷ more) (h ∷ hs) t x q v r oq out =
    ap₂ (λ w p. set w t p) (moved-set n on a b more hs h x q v (lower n on a b c more h hs t r) oq (λ y i. out y (inr i)))
    (ap₂ xor (met-set n on a b (c ∷ more) x q v r.first.1 r.second.1 r.others oq) (get_or-set_other x q t v false (out t (inl refl))))
    ∙ set_comm (moved a b more hs h x) q t v _ (λ e. out t (inl refl) (sym e))

pub turned-set : (n : ℕ) (on : ℕ → Bool) (a b : ℕ) (more hs : List ℕ) (t : ℕ) (x : Word) (q : ℕ) (v : Bool) → Divides n on a b more hs t → on q ≡ false → Outside q (t ∷ hs)
    → turned a b more hs t (set x q v) ≡ turned a b more hs t x
turned-set n on a b [] hs t x q v r oq out =
    let ea : bit (set x q v) a ≡ bit x a = get_or-set_other x q a v false (off_on on a q r.first.1 oq) in
    let eb : bit (set x q v) b ≡ bit x b = get_or-set_other x q b v false (off_on on b q r.second.1 oq) in
    let et : bit (set x q v) t ≡ bit x t = get_or-set_other x q t v false (out t (inl refl)) in
    λ i. level (ea i) (eb i) (et i)
turned-set n on a b (c ∷ more) [] t x q v r oq out = refl
turned-set n on a b (c ∷ more) (h ∷ hs) t x q v r oq out =
    let e : turned a b more hs h (set x q v) ≡ turned a b more hs h x = turned-set n on a b more hs h x q v (lower n on a b c more h hs t r) oq (λ y i. out y (inr i)) in
    let em : met a b more (set x q v) ≡ met a b more x = met-set n on a b more x q v r.first.1 r.second.1 r.others.1 oq in
    let ec : bit (set x q v) c ≡ bit x c = get_or-set_other x q c v false (off_on on c q r.others.0.1 oq) in
    let et : bit (set x q v) t ≡ bit x t = get_or-set_other x q t v false (out t (inl refl)) in
    λ i. e i + level (em i) (ec i) (et i)

-- ---- the controls stay, and the target is flipped

pub on_outside : (n : ℕ) (on : ℕ → Bool) (q : ℕ) (spots : List ℕ) → on q ≡ true → Every (IsOff n on) spots → Outside q spots
on_outside n on q [] oq off y there = absurd there
on_outside n on q (s ∷ spots) oq off y (inl e) = λ f. off_on on q s oq off.0.1 (sym f ∙ e)
on_outside n on q (s ∷ spots) oq off y (inr i) = on_outside n on q spots oq off.1 y i

pub met-moved : (n : ℕ) (on : ℕ → Bool) (a b : ℕ) (more hs : List ℕ) (t : ℕ) (x : Word) (cs : List ℕ) → Divides n on a b more hs t → Every (IsOn n on) cs
    → met a b cs (moved a b more hs t x) ≡ met a b cs x
met-moved n on a b more hs t x [] r oc =
    ap₂ (λ p q. p && q) (bit-moved a b more hs t x a (on_outside n on a (t ∷ hs) r.first.1 r.spots)) (bit-moved a b more hs t x b (on_outside n on b (t ∷ hs) r.second.1 r.spots))
met-moved n on a b more hs t x (c ∷ cs) r oc =
    ap₂ (λ p q. p && q) (met-moved n on a b more hs t x cs r oc.1) (bit-moved a b more hs t x c (on_outside n on c (t ∷ hs) oc.0.1 r.spots))

pub bit-target : (n : ℕ) (on : ℕ → Bool) (a b : ℕ) (more hs : List ℕ) (t : ℕ) (x : Word) → Divides n on a b more hs t → length x ≡ n
    → bit (moved a b more hs t x) t ≡ xor (met a b more x) (bit x t)
bit-target n on a b [] hs t x r e = get_or-set_same x t _ false (omega (arith, r.spots.0.0))
bit-target n on a b (c ∷ more) [] t x r e = absurd (omega (arith, r.enough))
bit-target n on a b (c ∷ more) (h ∷ hs) t x r e = get_or-set_same (moved a b more hs h x) t _ false (omega (arith, r.spots.0.0, length-moved a b more hs h x))

-- ---- twice

pub moved-moved : (n : ℕ) (on : ℕ → Bool) (a b : ℕ) (more hs : List ℕ) (t : ℕ) (x : Word) → Divides n on a b more hs t → length x ≡ n
    → moved a b more hs t (moved a b more hs t x) ≡ x
moved-moved n on a b [] hs t x r e =
    ap (set (moved a b [] hs t x) t) (ap₂ xor (met-moved n on a b [] hs t x [] r tt) (bit-target n on a b [] hs t x r e) ∙ xor_back (bit x a && bit x b) (bit x t))
    ∙ set-set x t _ (bit x t) ∙ set-get_or x t false
moved-moved n on a b (c ∷ more) [] t x r e = refl
moved-moved n on a b (c ∷ more) (h ∷ hs) t x r e =
    let s : Divides n on a b more hs h = lower n on a b c more h hs t r in
    let y : Word = moved a b more hs h x in
    let v : Bool = xor (met a b more x && bit x c) (bit x t) in
    ap₂ (λ w p. set w t p)
    (moved-set n on a b more hs h y t v s r.spots.0.1 r.distinct.0 ∙ ap (λ w. set w t v) (moved-moved n on a b more hs h x s e))
    (ap₂ xor (met-moved n on a b (c ∷ more) (h ∷ hs) t x (c ∷ more) r r.others) (bit-target n on a b (c ∷ more) (h ∷ hs) t x r e) ∙ xor_back (met a b more x && bit x c) (bit x t))
    ∙ set-set x t v (bit x t) ∙ set-get_or x t false

pub power-sum : (p q : ℕ) (u : Cyclotomic) → times_w_power (p + q) u ≡ times_w_power p (times_w_power q u)
unfolding times_w_power
power-sum zero q u = ap (λ n. times_w_power n u) (let e : 0 + q ≡ q = omega arith in e)
power-sum (suc p) q u = ap (λ n. times_w_power n u) (let e : suc p + q ≡ suc (p + q) = omega arith in e) ∙ ap times_w (power-sum p q u)

pub level_twice : (f c t : Bool) (u : Cyclotomic) → times_w_power (level f c t) (times_w_power (level f c (xor (f && c) t)) u) ≡ u
unfolding times_w_power
level_twice false c t u = refl
level_twice true false false u = refl
level_twice true false true u = w_eight u
level_twice true true false u = w_eight u
level_twice true true true u = w_eight u

pub turned_twice : (n : ℕ) (on : ℕ → Bool) (a b : ℕ) (more hs : List ℕ) (t : ℕ) (x : Word) (u : Cyclotomic) → Divides n on a b more hs t → length x ≡ n
    → times_w_power (turned a b more hs t x) (times_w_power (turned a b more hs t (moved a b more hs t x)) u) ≡ u
unfolding times_w_power
turned_twice n on a b [] hs t x u r e =
    let y : Word = moved a b [] hs t x in
    let ea : bit y a ≡ bit x a = bit-moved a b [] hs t x a (on_outside n on a (t ∷ hs) r.first.1 r.spots) in
    let eb : bit y b ≡ bit x b = bit-moved a b [] hs t x b (on_outside n on b (t ∷ hs) r.second.1 r.spots) in
    (λ i. times_w_power (level (bit x a) (bit x b) (bit x t)) (times_w_power (level (ea i) (eb i) (bit-target n on a b [] hs t x r e i)) u))
    ∙ level_twice (bit x a) (bit x b) (bit x t) u
turned_twice n on a b (c ∷ more) [] t x u r e = refl
turned_twice n on a b (c ∷ more) (h ∷ hs) t x u r e =
    let s : Divides n on a b more hs h = lower n on a b c more h hs t r in
    let y : Word = moved a b more hs h x in
    let v : Bool = xor (met a b more x && bit x c) (bit x t) in
    let z : Word = moved a b (c ∷ more) (h ∷ hs) t x in
    let e1 : turned a b more hs h z ≡ turned a b more hs h y = turned-set n on a b more hs h y t v s r.spots.0.1 r.distinct.0 in
    let em : met a b more z ≡ met a b more x = met-moved n on a b (c ∷ more) (h ∷ hs) t x more r r.others.1 in
    let ec : bit z c ≡ bit x c = bit-moved a b (c ∷ more) (h ∷ hs) t x c (on_outside n on c (t ∷ (h ∷ hs)) r.others.0.1 r.spots) in
    let et : bit z t ≡ v = bit-target n on a b (c ∷ more) (h ∷ hs) t x r e in
    let l1 : ℕ = level (met a b more x) (bit x c) (bit x t) in
    let l2 : ℕ = level (met a b more x) (bit x c) v in
    (λ i. times_w_power (turned a b more hs h x + l1) (times_w_power (e1 i + level (em i) (ec i) (et i)) u))
    ∙ power-sum (turned a b more hs h x) l1 _
    ∙ ap (λ w. times_w_power (turned a b more hs h x) (times_w_power l1 w)) (power-sum (turned a b more hs h y) l2 u)
    ∙ ap (times_w_power (turned a b more hs h x)) (turns_comm l1 (turned a b more hs h y) _)
    ∙ turned_twice n on a b more hs h x _ s e
    ∙ level_twice (met a b more x) (bit x c) (bit x t) u
