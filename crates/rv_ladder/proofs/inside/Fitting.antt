-- The operations of a ladder fit.
use Rattle.std.proofs.Common.{◌≢◌, ℕ, ◌<◌, Bool, true, false, cond, List, [], ◌∷◌, ◌++◌, refl, sym, inl}
use Rattle.std.proofs.lemmas.List.Elements.{All-cons, All-head, All-nil, All-tail}
use Rattle.std.specs.List.{All}
use Rattle.rv_mct.specs.declared.control.Control.{Control}
use Rattle.rv_gate.specs.Every.{Every}
use Rattle.rv_mct.specs.inside.LadderLines.{Divides as Division}
use Rattle.rv_mct.proofs.inside.Ladders.{higher, with_line, off_on}
use Rattle.rv_mct.specs.Blocks.{positive}
use Rattle.rv_net.specs.declared.op.Op.{Op}
use Rattle.rv_net.specs.declared.op.Op.TheVariants.{X, H, Cx}
use Rattle.rv_net.specs.Network.{on_zero, toffoli}
use Rattle.rv_net.specs.Op.{OpFitsIn}
use Rattle.rv_ladder.specs.Ladder.{borrowed_flip, clean_flip, down, half, lines_of, quarter_back, rung, zeros}
use Rattle.rv_ladder.specs.inside.Moved.{Divides}
use Rattle.rv_ladder.proofs.inside.Moving.{lower}

abbrev pub Fit : ℕ → List Op → Type 0
Fit m [] = Unit {0}
Fit m (o ∷ ops) = OpFitsIn o m × Fit m ops

pub fit_append : (m : ℕ) (a b : List Op) → Fit m a → Fit m b → Fit m (a ++ b)
fit_append m [] b fa fb = fb
fit_append m (o ∷ a) b fa fb = (fa.0, fit_append m a b fa.1 fb)

pub fit_all : (m : ℕ) (ops : List Op) → Fit m ops → All (λ o. OpFitsIn o m) ops
fit_all m [] f = All-nil (λ o. OpFitsIn o m)
fit_all m (o ∷ ops) f = All-cons (λ o. OpFitsIn o m) o ops f.0 (fit_all m ops f.1)

pub all_fit : (m : ℕ) (ops : List Op) → All (λ o. OpFitsIn o m) ops → Fit m ops
all_fit m [] f = tt
all_fit m (o ∷ ops) f = (All-head (λ o. OpFitsIn o m) o ops f, all_fit m ops (All-tail (λ o. OpFitsIn o m) o ops f))

pub fit_zeros : (m : ℕ) (cs : List Control) → Every (λ c. c.line < m) cs → Fit m (zeros cs)
fit_zeros m [] h = tt
fit_zeros m (c ∷ cs) h = fit_append m (on_zero c) (zeros cs) (one c.wanted) (fit_zeros m cs h.1)
  where
    one : (w : Bool) → Fit m (cond w [] (X c.line ∷ []))
    one true = tt
    one false = (h.0, tt)

pub fit_toffoli : (m a b t : ℕ) → a < m → b < m → t < m → a ≢ b → a ≢ t → b ≢ t → Fit m (toffoli a b t)
unfolding toffoli
fit_toffoli m a b t la lb lt ab at bt =
    let xa : OpFitsIn (Cx a t) m = (la, lt, at) in
    let xb : OpFitsIn (Cx b t) m = (lb, lt, bt) in
    let xc : OpFitsIn (Cx a b) m = (la, lb, ab) in
    (lt, (xb, (lt, (xa, (lt, (xb, (lt, (xa, (lb, (lt, (lt, (xc, (la, (lb, (xc, tt)))))))))))))))

pub fit_rung : (m c t : ℕ) (inner : List Op) → c < m → t < m → c ≢ t → Fit m inner → Fit m (rung c t inner)
fit_rung m c t inner lc lt ct f =
    let x : OpFitsIn (Cx c t) m = (lc, lt, ct) in
    (lt, (lt, (x, (lt, fit_append m inner (half c t ++ (H t ∷ [])) f (lt, (x, (lt, (lt, tt))))))))

pub fit_down : (n : ℕ) (on : ℕ → Bool) (a b : ℕ) (more hs : List ℕ) (t : ℕ) → Divides n on a b more hs t → Fit n (down a b more hs t)
unfolding down
fit_down n on a b [] hs t r =
    fit_rung n b t (Cx a t ∷ []) r.second.0 r.spots.0.0 (off_on on b t r.second.1 r.spots.0.1) ((r.first.0, r.spots.0.0, off_on on a t r.first.1 r.spots.0.1), tt)
fit_down n on a b (c ∷ more) [] t r = tt
fit_down n on a b (c ∷ more) (h ∷ hs) t r =
    let x : OpFitsIn (Cx h t) n = (r.spots.1.0.0, r.spots.0.0, r.distinct.0 h (inl refl)) in
    fit_rung n c t (Cx h t ∷ (down a b more hs h ++ (Cx h t ∷ []))) r.others.0.0 r.spots.0.0 (off_on on c t r.others.0.1 r.spots.0.1)
    (x, fit_append n (down a b more hs h) (Cx h t ∷ []) (fit_down n on a b more hs h (lower n on a b c more h hs t r)) (x, tt))

pub fit_borrowed : (n : ℕ) (on : ℕ → Bool) (a b : ℕ) (more hs : List ℕ) (t : ℕ) → Divides n on a b more hs t → a ≢ b → Fit n (borrowed_flip a b more hs t)
unfolding borrowed_flip
fit_borrowed n on a b [] hs t r ab =
    fit_toffoli n a b t r.first.0 r.second.0 r.spots.0.0 ab (off_on on a t r.first.1 r.spots.0.1) (off_on on b t r.second.1 r.spots.0.1)
fit_borrowed n on a b (c ∷ more) [] t r ab = tt
fit_borrowed n on a b (c ∷ more) (h ∷ hs) t r ab =
    let V : List Op = down a b more hs h in
    let lt = r.spots.0.0 in
    let lh = r.spots.1.0.0 in
    let th : OpFitsIn (Cx t h) n = (lt, lh, λ e. r.distinct.0 h (inl refl) (sym e)) in
    let ch : OpFitsIn (Cx c h) n = (r.others.0.0, lh, off_on on c h r.others.0.1 r.spots.1.0.1) in
    let v : Fit n V = fit_down n on a b more hs h (lower n on a b c more h hs t r) in
    let end : Fit n (V ++ (H t ∷ [])) = fit_append n V (H t ∷ []) v (lt, tt) in
    let back : Fit n (quarter_back c h t ++ (V ++ (H t ∷ []))) = (th, (lh, (ch, (lh, (th, (lh, (ch, (lh, end)))))))) in
    (lt, (lh, (ch, (lh, (th, (lh, (ch, (lh, (th, fit_append n V (quarter_back c h t ++ (V ++ (H t ∷ []))) v back)))))))))

pub fit_clean : (n : ℕ) (on : ℕ → Bool) (a b : Control) (more : List Control) (hs : List ℕ) (t : ℕ) → Division n on a b more (t ∷ hs) → Fit n (clean_flip a.line b.line (lines_of more) hs t)
unfolding clean_flip
fit_clean n on a b [] hs t r =
    fit_toffoli n a.line b.line t r.first.0 r.second.0 r.spots.0.0 r.apart (off_on on a.line t r.first.1 r.spots.0.1) (off_on on b.line t r.second.1 r.spots.0.1)
fit_clean n on a b (c ∷ more) [] t r = tt
fit_clean n on a b (c ∷ more) (z ∷ hs) t r =
    let V : List Op = rung b.line z (Cx a.line z ∷ []) in
    let L : List Op = clean_flip z c.line (lines_of more) hs t in
    let lz = r.spots.1.0.0 in
    let v : Fit n V = fit_rung n b.line z (Cx a.line z ∷ []) r.second.0 lz (off_on on b.line z r.second.1 r.spots.1.0.1) ((r.first.0, lz, off_on on a.line z r.first.1 r.spots.1.0.1), tt) in
    fit_append n V (L ++ V) v (fit_append n L V (fit_clean n (with_line on z) (positive z) c more hs t (higher n on a b c more t z hs r)) v)
