-- The ladder up to powers of w, and the flip over lines that hold anything.
use Rattle.std.proofs.Common.{◌≡◌, ◌≢◌, ℕ, suc, ◌+◌, ◌<◌, Bool, true, false, cond, ◌&&◌, List, [], ◌∷◌, ◌++◌, length, map, set, refl, sym, ◌∙◌, ap, ap₂, inl, arith, length-set, get_or-set_same, get_or-set_other, set-set}
use Rattle.std.proofs.lemmas.Int.{ints}
use Rattle.rv_gate.specs.Gate.{xor}
use Rattle.rv_net.specs.declared.op.Op.{Op}
use Rattle.rv_net.specs.declared.op.Op.TheVariants.{H, Cx}
use Rattle.rv_net.specs.Cyclotomic.{Cyclotomic, plus, times_w, times_w_power, doubled}
use Rattle.rv_net.proofs.Step.{Word, bit}
use Rattle.rv_net.proofs.Cyclotomic.{same_cyclotomic, doubled-add, doubled-power, doubled-more}
use Rattle.rv_net.proofs.Frame.{through, through-append, relabel, puts, AllWithin}
use Rattle.rv_net.proofs.Toffoli.{on_lines, own}
use Rattle.rv_ladder.specs.Ladder.{down, quarter, quarter_back, borrowed_flip}
use Rattle.rv_ladder.specs.inside.Moved.{Divides, level, met, moved, turned}
use Rattle.rv_ladder.proofs.inside.Moving.{lower, length-moved, bit-moved, bit-target, moved-set, turned-set, moved-moved, turned_twice, on_outside}
use Rattle.rv_ladder.proofs.inside.Rungs.{Flips, lift, lift-power, h_put, picked, picked-put, through-rung}
use Rattle.rv_mct.proofs.inside.Ladders.{off_on}

-- ---- the ladder

pub cx_put : (rest : List Op) (k : Word → Cyclotomic) (x : Word) (h t : ℕ) (b : Bool) → t < length x → h ≢ t
    → through (Cx h t ∷ rest) k (set x t b) ≡ through rest k (set x t (xor (bit x h) b))
unfolding through times_w_power
cx_put rest k x h t b lt ht =
    let eh : bit (set x t b) h ≡ bit x h = get_or-set_other x t h b false ht in
    let et : bit (set x t b) t ≡ b = get_or-set_same x t b false lt in
    (λ i. through rest k (set (set x t b) t (xor (eh i) (et i))))
    ∙ ap (λ w. through rest k w) (set-set x t b (xor (bit x h) b))

pub flips_first : (x : Word) (a t : ℕ) → t < length x → a ≢ t → Flips (Cx a t ∷ []) x x t 0 0 (bit x a)
unfolding through times_w_power doubled
flips_first x a t lt at = record { each = λ k b. cx_put [] k x a t b lt at }

xor_between : (m h b : Bool) → xor (xor m h) (xor h b) ≡ xor m b
xor_between m h b = grind arith

pub through-down : (n : ℕ) (on : ℕ → Bool) (a b : ℕ) (more hs : List ℕ) (t : ℕ) (k : Word → Cyclotomic) (x : Word) → Divides n on a b more hs t → length x ≡ n
    → through (down a b more hs t) k x ≡ lift (suc (length more)) (turned a b more hs t x) (k (moved a b more hs t x))
unfolding down through
through-down n on a b [] hs t k x r e =
    let lt : t < length x = omega (arith, r.spots.0.0) in
    let at : a ≢ t = off_on on a t r.first.1 r.spots.0.1 in
    let bt : b ≢ t = off_on on b t r.second.1 r.spots.0.1 in
    through-rung k x x b t 0 0 (bit x a) (Cx a t ∷ []) lt refl bt refl (flips_first x a t lt at)
    ∙ ap (λ p. doubled 1 (times_w_power p (k (moved a b [] hs t x)))) (let z : 0 + level (bit x a) (bit x b) (bit x t) ≡ level (bit x a) (bit x b) (bit x t) = omega arith in z)
through-down n on a b (c ∷ more) [] t k x r e = absurd (omega (arith, r.enough))
through-down n on a b (c ∷ more) (h ∷ hs) t k x r e =
    through-rung k x y c t (suc (length more)) (turned a b more hs h x) (met a b more x) inner lt (length-moved a b more hs h x) ct
    (bit-moved a b more hs h x c (on_outside n on c (h ∷ hs) r.others.0.1 r.spots.1)) (record { each = flips (λ f d. through-down n on a b more hs h f (set x t d) s (length-set x t d ∙ e)) })
  where
    s : Divides n on a b more hs h
    s = lower n on a b c more h hs t r

    y : Word
    y = moved a b more hs h x

    inner : List Op
    inner = Cx h t ∷ (down a b more hs h ++ (Cx h t ∷ []))

    lt : t < length x
    lt = omega (arith, r.spots.0.0)

    ct : c ≢ t
    ct = off_on on c t r.others.0.1 r.spots.0.1

    ht : h ≢ t
    ht = r.distinct.0 h (inl refl)

    flips : ((f : Word → Cyclotomic) (d : Bool) → through (down a b more hs h) f (set x t d) ≡ lift (suc (length more)) (turned a b more hs h (set x t d)) (f (moved a b more hs h (set x t d))))
        → (k : Word → Cyclotomic) (b1 : Bool) → through inner k (set x t b1) ≡ lift (suc (length more)) (turned a b more hs h x) (k (set y t (xor (met a b more x) b1)))
    flips before k b1 =
        let d : Bool = xor (bit x h) b1 in
        let ly : t < length y = omega (arith, lt, length-moved a b more hs h x) in
        cx_put (down a b more hs h ++ (Cx h t ∷ [])) k x h t b1 lt ht
        ∙ through-append (down a b more hs h) (Cx h t ∷ []) k (set x t d)
        ∙ before (λ v. through (Cx h t ∷ []) k v) d
        ∙ ap₂ (λ p w. lift (suc (length more)) p (through (Cx h t ∷ []) k w)) (turned-set n on a b more hs h x t d s r.spots.0.1 r.distinct.0) (moved-set n on a b more hs h x t d s r.spots.0.1 r.distinct.0)
        ∙ ap (lift (suc (length more)) (turned a b more hs h x)) (
        cx_put [] k y h t d ly ht
        ∙ ap (λ p. k (set y t p)) (ap (λ p. xor p d) (bit-target n on a b more hs h x s e) ∙ xor_between (met a b more x) (bit x h) b1)
        )

-- ---- the parts that depend on the last helper

abbrev pub quarter_power : Bool → Bool → Bool → ℕ
quarter_power c h t = cond (c && t) (cond h 2 6) 0

abbrev pub back_power : Bool → Bool → Bool → ℕ
back_power c h t = cond (c && t) (cond h 6 2) 0

quarter_bits : (k : Word → Cyclotomic) (c h t : Bool) → through (quarter 0 1 2) k (c ∷ h ∷ t ∷ []) ≡ times_w_power (quarter_power c h t) (k (c ∷ h ∷ t ∷ []))
unfolding through times_w_power times_w
quarter_bits k false false false = same_cyclotomic _ _ (omega (arith, ints)) (omega (arith, ints)) (omega (arith, ints)) (omega (arith, ints))
quarter_bits k false false true = same_cyclotomic _ _ (omega (arith, ints)) (omega (arith, ints)) (omega (arith, ints)) (omega (arith, ints))
quarter_bits k false true false = same_cyclotomic _ _ (omega (arith, ints)) (omega (arith, ints)) (omega (arith, ints)) (omega (arith, ints))
quarter_bits k false true true = same_cyclotomic _ _ (omega (arith, ints)) (omega (arith, ints)) (omega (arith, ints)) (omega (arith, ints))
quarter_bits k true false false = same_cyclotomic _ _ (omega (arith, ints)) (omega (arith, ints)) (omega (arith, ints)) (omega (arith, ints))
quarter_bits k true false true = same_cyclotomic _ _ (omega (arith, ints)) (omega (arith, ints)) (omega (arith, ints)) (omega (arith, ints))
quarter_bits k true true false = same_cyclotomic _ _ (omega (arith, ints)) (omega (arith, ints)) (omega (arith, ints)) (omega (arith, ints))
quarter_bits k true true true = same_cyclotomic _ _ (omega (arith, ints)) (omega (arith, ints)) (omega (arith, ints)) (omega (arith, ints))

back_bits : (k : Word → Cyclotomic) (c h t : Bool) → through (quarter_back 0 1 2) k (c ∷ h ∷ t ∷ []) ≡ times_w_power (back_power c h t) (k (c ∷ h ∷ t ∷ []))
unfolding through times_w_power times_w
back_bits k false false false = same_cyclotomic _ _ (omega (arith, ints)) (omega (arith, ints)) (omega (arith, ints)) (omega (arith, ints))
back_bits k false false true = same_cyclotomic _ _ (omega (arith, ints)) (omega (arith, ints)) (omega (arith, ints)) (omega (arith, ints))
back_bits k false true false = same_cyclotomic _ _ (omega (arith, ints)) (omega (arith, ints)) (omega (arith, ints)) (omega (arith, ints))
back_bits k false true true = same_cyclotomic _ _ (omega (arith, ints)) (omega (arith, ints)) (omega (arith, ints)) (omega (arith, ints))
back_bits k true false false = same_cyclotomic _ _ (omega (arith, ints)) (omega (arith, ints)) (omega (arith, ints)) (omega (arith, ints))
back_bits k true false true = same_cyclotomic _ _ (omega (arith, ints)) (omega (arith, ints)) (omega (arith, ints)) (omega (arith, ints))
back_bits k true true false = same_cyclotomic _ _ (omega (arith, ints)) (omega (arith, ints)) (omega (arith, ints)) (omega (arith, ints))
back_bits k true true true = same_cyclotomic _ _ (omega (arith, ints)) (omega (arith, ints)) (omega (arith, ints)) (omega (arith, ints))

same_quarter : (c h t : ℕ) → map (relabel (c ∷ h ∷ t ∷ [])) (quarter 0 1 2) ≡ quarter c h t
unfolding relabel
same_quarter c h t = refl

same_back : (c h t : ℕ) → map (relabel (c ∷ h ∷ t ∷ [])) (quarter_back 0 1 2) ≡ quarter_back c h t
unfolding relabel
same_back c h t = refl

within_quarter : AllWithin 3 (quarter 0 1 2)
within_quarter = omega arith

within_back : AllWithin 3 (quarter_back 0 1 2)
within_back = omega arith

through-quarter : (k : Word → Cyclotomic) (x : Word) (c h t : ℕ) → c < length x → h < length x → t < length x → c ≢ h → c ≢ t → h ≢ t
    → through (quarter c h t) k x ≡ times_w_power (quarter_power (bit x c) (bit x h) (bit x t)) (k x)
through-quarter k x c h t lc lh lt ch ct ht =
    ap (λ net. through net k x) (sym (same_quarter c h t))
    ∙ on_lines (quarter 0 1 2) k x c h t lc lh lt ch ct ht within_quarter
    ∙ quarter_bits (λ u. k (puts x (c ∷ h ∷ t ∷ []) u)) (bit x c) (bit x h) (bit x t)
    ∙ ap (λ v. times_w_power (quarter_power (bit x c) (bit x h) (bit x t)) (k v)) (own x c h t)

through-back : (k : Word → Cyclotomic) (x : Word) (c h t : ℕ) → c < length x → h < length x → t < length x → c ≢ h → c ≢ t → h ≢ t
    → through (quarter_back c h t) k x ≡ times_w_power (back_power (bit x c) (bit x h) (bit x t)) (k x)
through-back k x c h t lc lh lt ch ct ht =
    ap (λ net. through net k x) (sym (same_back c h t))
    ∙ on_lines (quarter_back 0 1 2) k x c h t lc lh lt ch ct ht within_back
    ∙ back_bits (λ u. k (puts x (c ∷ h ∷ t ∷ []) u)) (bit x c) (bit x h) (bit x t)
    ∙ ap (λ v. times_w_power (back_power (bit x c) (bit x h) (bit x t)) (k v)) (own x c h t)

-- ---- the whole flip

-- what is left of the parts between both H, for each bit of the target
abbrev part : Bool → Bool → Bool → Bool → Cyclotomic → Cyclotomic → Cyclotomic
part m c h b u v = times_w_power (quarter_power c h b) (times_w_power (back_power c (xor m h) b) (plus u (times_w_power (cond b 4 0) v)))

whole_bits : (m c h t : Bool) (u v : Cyclotomic) → plus (part m c h false u v) (times_w_power (cond t 4 0) (part m c h true u v)) ≡ plus (picked (xor (m && c) t) u v) (picked (xor (m && c) t) u v)
unfolding plus times_w_power times_w
whole_bits false false false false u v = same_cyclotomic _ _ (omega (arith, ints)) (omega (arith, ints)) (omega (arith, ints)) (omega (arith, ints))
whole_bits false false false true u v = same_cyclotomic _ _ (omega (arith, ints)) (omega (arith, ints)) (omega (arith, ints)) (omega (arith, ints))
whole_bits false false true false u v = same_cyclotomic _ _ (omega (arith, ints)) (omega (arith, ints)) (omega (arith, ints)) (omega (arith, ints))
whole_bits false false true true u v = same_cyclotomic _ _ (omega (arith, ints)) (omega (arith, ints)) (omega (arith, ints)) (omega (arith, ints))
whole_bits false true false false u v = same_cyclotomic _ _ (omega (arith, ints)) (omega (arith, ints)) (omega (arith, ints)) (omega (arith, ints))
whole_bits false true false true u v = same_cyclotomic _ _ (omega (arith, ints)) (omega (arith, ints)) (omega (arith, ints)) (omega (arith, ints))
whole_bits false true true false u v = same_cyclotomic _ _ (omega (arith, ints)) (omega (arith, ints)) (omega (arith, ints)) (omega (arith, ints))
whole_bits false true true true u v = same_cyclotomic _ _ (omega (arith, ints)) (omega (arith, ints)) (omega (arith, ints)) (omega (arith, ints))
whole_bits true false false false u v = same_cyclotomic _ _ (omega (arith, ints)) (omega (arith, ints)) (omega (arith, ints)) (omega (arith, ints))
whole_bits true false false true u v = same_cyclotomic _ _ (omega (arith, ints)) (omega (arith, ints)) (omega (arith, ints)) (omega (arith, ints))
whole_bits true false true false u v = same_cyclotomic _ _ (omega (arith, ints)) (omega (arith, ints)) (omega (arith, ints)) (omega (arith, ints))
whole_bits true false true true u v = same_cyclotomic _ _ (omega (arith, ints)) (omega (arith, ints)) (omega (arith, ints)) (omega (arith, ints))
whole_bits true true false false u v = same_cyclotomic _ _ (omega (arith, ints)) (omega (arith, ints)) (omega (arith, ints)) (omega (arith, ints))
whole_bits true true false true u v = same_cyclotomic _ _ (omega (arith, ints)) (omega (arith, ints)) (omega (arith, ints)) (omega (arith, ints))
whole_bits true true true false u v = same_cyclotomic _ _ (omega (arith, ints)) (omega (arith, ints)) (omega (arith, ints)) (omega (arith, ints))
whole_bits true true true true u v = same_cyclotomic _ _ (omega (arith, ints)) (omega (arith, ints)) (omega (arith, ints)) (omega (arith, ints))

-- a turn, a ladder, a turn and a ladder whose powers of w cancel
between : (m e f p q : ℕ) (u : Cyclotomic) → times_w_power e (times_w_power f (times_w_power p (times_w_power q u))) ≡ times_w_power p (times_w_power q u)
    → times_w_power p (lift m e (times_w_power q (lift m f u))) ≡ doubled (m + m) (times_w_power p (times_w_power q u))
between m e f p q u cancel =
    lift-power m e p _
    ∙ ap (λ w. lift m e (times_w_power p w)) (lift-power m f q u)
    ∙ ap (lift m e) (lift-power m f p _)
    ∙ ap (doubled m) (doubled-power m e _ ∙ ap (doubled m) cancel)
    ∙ doubled-more m m _

pub through-borrowed : (n : ℕ) (on : ℕ → Bool) (a b c : ℕ) (more : List ℕ) (h : ℕ) (hs : List ℕ) (t : ℕ) (k : Word → Cyclotomic) (x : Word) → Divides n on a b (c ∷ more) (h ∷ hs) t → length x ≡ n
    → through (borrowed_flip a b (c ∷ more) (h ∷ hs) t) k x ≡ doubled (suc (suc (length more) + suc (length more))) (k (set x t (xor (met a b (c ∷ more) x) (bit x t))))
unfolding borrowed_flip through doubled
through-borrowed n on a b c more h hs t k x r e =
    ap₂ (λ p q. plus p (times_w_power (cond (bit x t) 4 0) q)) (branch false) (branch true)
    ∙ ap (plus _) (doubled-power (m + m) (cond (bit x t) 4 0) _)
    ∙ sym (doubled-add (m + m) _ _)
    ∙ ap (doubled (m + m)) (whole_bits (met a b more x) (bit x c) (bit x h) (bit x t) u v)
    ∙ doubled-add (m + m) _ _
    ∙ ap (λ w. plus (doubled (m + m) w) (doubled (m + m) w)) (picked-put k x t (xor (met a b more x && bit x c) (bit x t)))
  where
    m : ℕ
    m = suc (length more)

    u : Cyclotomic
    u = k (set x t false)

    v : Cyclotomic
    v = k (set x t true)

    V : List Op
    V = down a b more hs h

    s : Divides n on a b more hs h
    s = lower n on a b c more h hs t r

    y : Word
    y = moved a b more hs h x

    ly : length y ≡ n
    ly = length-moved a b more hs h x ∙ e

    ct : c ≢ t
    ct = off_on on c t r.others.0.1 r.spots.0.1

    ch : c ≢ h
    ch = off_on on c h r.others.0.1 r.spots.1.0.1

    ht : h ≢ t
    ht = r.distinct.0 h (inl refl)

    branch : (d : Bool) → through (quarter c h t ++ (V ++ (quarter_back c h t ++ (V ++ (H t ∷ []))))) k (set x t d) ≡ doubled (m + m) (part (met a b more x) (bit x c) (bit x h) d u v)
    branch d =
        let z : Word = set x t d in
        let z2 : Word = set y t d in
        let lz : length z ≡ n = length-set x t d ∙ e in
        let lz2 : length z2 ≡ n = length-set y t d ∙ ly in
        let zc : bit z c ≡ bit x c = get_or-set_other x t c d false ct in
        let zh : bit z h ≡ bit x h = get_or-set_other x t h d false ht in
        let zt : bit z t ≡ d = get_or-set_same x t d false (omega (arith, r.spots.0.0)) in
        let yc : bit z2 c ≡ bit x c = get_or-set_other y t c d false ct ∙ bit-moved a b more hs h x c (on_outside n on c (h ∷ hs) r.others.0.1 r.spots.1) in
        let yh : bit z2 h ≡ xor (met a b more x) (bit x h) = get_or-set_other y t h d false ht ∙ bit-target n on a b more hs h x s e in
        let yt : bit z2 t ≡ d = get_or-set_same y t d false (omega (arith, ly, r.spots.0.0)) in
        let e1 : ℕ = turned a b more hs h x in
        let e2 : ℕ = turned a b more hs h y in
        let p : ℕ = quarter_power (bit x c) (bit x h) d in
        let q : ℕ = back_power (bit x c) (xor (met a b more x) (bit x h)) d in
        let w : Cyclotomic = plus u (times_w_power (cond d 4 0) v) in
        through-append (quarter c h t) (V ++ (quarter_back c h t ++ (V ++ (H t ∷ [])))) k z
        ∙ through-quarter (λ o. through (V ++ (quarter_back c h t ++ (V ++ (H t ∷ [])))) k o) z c h t (omega (arith, lz, r.others.0.0)) (omega (arith, lz, r.spots.1.0.0)) (omega (arith, lz, r.spots.0.0)) ch ct ht
        ∙ (λ i. times_w_power (quarter_power (zc i) (zh i) (zt i)) (through-append V (quarter_back c h t ++ (V ++ (H t ∷ []))) k z i))
        ∙ ap (times_w_power p) (
        through-down n on a b more hs h (λ o. through (quarter_back c h t ++ (V ++ (H t ∷ []))) k o) z s lz
        ∙ ap₂ (λ f o. lift m f (through (quarter_back c h t ++ (V ++ (H t ∷ []))) k o)) (turned-set n on a b more hs h x t d s r.spots.0.1 r.distinct.0) (moved-set n on a b more hs h x t d s r.spots.0.1 r.distinct.0)
        ∙ ap (lift m e1) (
        through-append (quarter_back c h t) (V ++ (H t ∷ [])) k z2
        ∙ through-back (λ o. through (V ++ (H t ∷ [])) k o) z2 c h t (omega (arith, lz2, r.others.0.0)) (omega (arith, lz2, r.spots.1.0.0)) (omega (arith, lz2, r.spots.0.0)) ch ct ht
        ∙ (λ i. times_w_power (back_power (yc i) (yh i) (yt i)) (through-append V (H t ∷ []) k z2 i))
        ∙ ap (times_w_power q) (
        through-down n on a b more hs h (λ o. through (H t ∷ []) k o) z2 s lz2
        ∙ ap₂ (λ f o. lift m f (through (H t ∷ []) k o)) (turned-set n on a b more hs h y t d s r.spots.0.1 r.distinct.0)
        (moved-set n on a b more hs h y t d s r.spots.0.1 r.distinct.0 ∙ ap (λ o. set o t d) (moved-moved n on a b more hs h x s e))
        ∙ ap (lift m e2) (h_put k x t d (omega (arith, r.spots.0.0)))
        )
        )
        )
        ∙ between m e1 e2 p q w (turned_twice n on a b more hs h x _ s e)
