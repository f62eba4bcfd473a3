-- Each operation fits, and is on neighbours where each gate touches consecutive lines.
use Rattle.std.proofs.Common.{◌≡◌, ◌≢◌, ◌∙◌, ℕ, ◌+◌, ◌<◌, ◌≤◌, Bool, true, false, cond, ◌||◌, eqb, List, [], ◌∷◌, ◌++◌, ◌⊎◌, inl, inr, length, map, refl, sym, ap, subst, arith, eq-eqb}
use Rattle.std.specs.List.{All}
use Rattle.std.proofs.lemmas.Bool.{cases_order, eqb-true, or_left, or_right}
use Rattle.std.proofs.lemmas.List.Elements.{All-append, All-cons, All-head, All-nil, All-tail}
use Rattle.rv_gate.specs.Gate.{FitsIn, IsGate, Within, touches}
use Rattle.rv_gate.specs.Word.{has}
use Rattle.rv_gate.specs.declared.gate.Shape.{Shape}
use Rattle.rv_gate.specs.declared.gate.Shape.TheVariants.{Flip, Swap as SwapGate, Peres}
use Rattle.rv_gate.specs.declared.word.TheConstants.{MOST_LINES}
use Rattle.rv_mct.specs.Blocks.{control, controls_of, rising}
use Rattle.rv_mct.specs.Extends.{IsPlain}
use Rattle.rv_mct.specs.declared.control.Control.{Control}
use Rattle.rv_mct.specs.inside.LadderLines.{In}
use Rattle.rv_mct.proofs.inside.LongFlips.{in_rising, rising_in}
use Rattle.rv_route.specs.Placement.{IsNear}
use Rattle.rv_net.specs.Network.{flip_ops, on_zero, toffoli}
use Rattle.rv_net.specs.Op.{OpFitsIn}
use Rattle.rv_net.specs.declared.op.Op.{Op}
use Rattle.rv_net.specs.declared.op.Op.TheVariants.{X, H, T, Tdg, Cx}
use Rattle.rv_net.proofs.inside.Network.{ArePlain, Fits}
use Rattle.rv_near.specs.Near.{IsOnNeighbours, is_row, near_block, near_flip, near_ops, row_block}
use Rattle.rv_near.proofs.Flips.{parts_of, tail_of}
use Rattle.rv_near.proofs.Rows.{AreNext, OneOf, are-row, row-next}

abbrev Each : (Op → Type 0) → List Op → Type 0
Each P [] = Unit {0}
Each P (op ∷ ops) = P op × Each P ops

module _ (P : Op → Type 0) where
  each-append : (a b : List Op) → Each P a → Each P b → Each P (a ++ b)
  each-append [] b ea eb = eb
  each-append (op ∷ a) b ea eb = (ea.0, each-append a b ea.1 eb)

  all-of : (ops : List Op) → Each P ops → All P ops
  all-of [] e = All-nil P
  all-of (op ∷ ops) e = All-cons P op ops e.0 (all-of ops e.1)

  each-zero : (c : Control) → P (X c.line) → Each P (on_zero c)
  each-zero c p = go c.wanted
    where
      go : (b : Bool) → Each P (cond b [] (X c.line ∷ []))
      go true = tt
      go false = (p, tt)

  -- a flip under two controls
  each-two : (a b : Control) (t : ℕ) → P (X a.line) → P (X b.line) → Each P (near_block a.line b.line t) → Each P (near_flip (a ∷ b ∷ []) t)
  unfolding near_flip
  each-two a b t pa pb block =
      let zeros = each-append (on_zero a) (on_zero b) (each-zero a pa) (each-zero b pb) in
      each-append (on_zero a ++ on_zero b) (near_block a.line b.line t ++ (on_zero a ++ on_zero b)) zeros
      (each-append (near_block a.line b.line t) (on_zero a ++ on_zero b) block zeros)

  each-one : (a : Control) (t : ℕ) → P (X a.line) → P (Cx a.line t) → Each P (near_flip (a ∷ []) t)
  unfolding near_flip flip_ops
  each-one a t pa flip = each-append (on_zero a) (Cx a.line t ∷ on_zero a) (each-zero a pa) (flip, each-zero a pa)

-- ---- each fits

abbrev Good : ℕ → Op → Type 0
Good n op = OpFitsIn op n

row-fits : (n p q r t : ℕ) → p < n → q < n → r < n → t < n → p ≢ q → q ≢ r → Each (Good n) (row_block p q r t)
unfolding row_block
row-fits n p q r t hp hq hr ht pq qr =
    let up : OpFitsIn (Cx p q) n = (hp, hq, pq) in
    let down : OpFitsIn (Cx q r) n = (hq, hr, qr) in
    (ht, (hp, (hq, (hr, (up, (hq, (down, (hr, (up, (down, (hr, (up, (down, (hr, (up, (down, (ht, tt)))))))))))))))))

toffoli-fits : (n a b c : ℕ) → a < n → b < n → c < n → a ≢ b → a ≢ c → b ≢ c → Each (Good n) (toffoli a b c)
unfolding toffoli
toffoli-fits n a b c la lb lc ab ac bc =
    (lc, ((lb, lc, bc), (lc, ((la, lc, ac), (lc, ((lb, lc, bc), (lc, ((la, lc, ac), (lb, (lc, (lc, ((la, lb, ab), (la, (lb, ((la, lb, ab), tt)))))))))))))))

block-fits : (n a b c : ℕ) → a < n → b < n → c < n → a ≢ b → a ≢ c → b ≢ c → Each (Good n) (near_block a b c)
block-fits n a b c la lb lc ab ac bc = go (is_row a b c) (is_row a c b) (is_row b a c)
  where
    go : (s t u : Bool) → Each (Good n) (cond s (row_block a b c c) (cond t (row_block a c b c) (cond u (row_block b a c c) (toffoli a b c))))
    go true t u = row-fits n a b c c la lb lc lc ab bc
    go false true u = row-fits n a c b c la lc lb lc ac (λ e. bc (sym e))
    go false false true = row-fits n b a c c lb la lc lc (λ e. ab (sym e)) ac
    go false false false = toffoli-fits n a b c la lb lc ab ac bc

flip-fits : (n : ℕ) (cs : List Control) (t : ℕ) → Fits n cs t → Each (Good n) (near_flip cs t)
unfolding near_flip flip_ops Fits
flip-fits n [] t h = (h, tt)
flip-fits n (a ∷ []) t h = each-one (Good n) a t h.0 h
flip-fits n (a ∷ b ∷ []) t h = each-two (Good n) a b t h.0 h.1 (block-fits n a.line b.line t h.0 h.1 h.2 h.3 h.4 h.5)
flip-fits n (a ∷ b ∷ c ∷ more) t h = absurd h

each-fits : (n : ℕ) (gates : List Shape) → ArePlain n gates → Each (Good n) (near_ops gates)
each-fits n [] h = tt
each-fits n (Flip care want t ∷ gates) h =
    each-append (Good n) (near_flip (controls_of care want) t) (near_ops gates) (flip-fits n (controls_of care want) t (parts_of n care want t gates h))
    (each-fits n gates (tail_of n (Flip care want t) gates h))
each-fits n (SwapGate care want a b ∷ gates) h = absurd (All-head IsPlain (SwapGate care want a b) gates h.2)
each-fits n (Peres a b c ∷ gates) h = absurd (All-head IsPlain (Peres a b c) gates h.2)

pub near-fits : (n : ℕ) (gates : List Shape) → ArePlain n gates → All (λ op. OpFitsIn op n) (near_ops gates)
near-fits n gates plain = all-of (Good n) (near_ops gates) (each-fits n gates plain)

-- ---- each is on neighbours

row-near : (p q r t : ℕ) → is_row p q r ≡ true → Each IsOnNeighbours (row_block p q r t)
unfolding row_block
row-near p q r t row =
    let next = row-next p q r row in
    (tt, (tt, (tt, (tt, (next.0, (tt, (next.1, (tt, (next.0, (next.1, (tt, (next.0, (next.1, (tt, (next.0, (next.1, (tt, tt)))))))))))))))))

block-near : (a b c : ℕ) → (is_row a b c ≡ true) ⊎ ((is_row a c b ≡ true) ⊎ (is_row b a c ≡ true)) → Each IsOnNeighbours (near_block a b c)
block-near a b c = go (is_row a b c) (is_row a c b) (is_row b a c) refl refl refl
  where
    go : (s t u : Bool) → is_row a b c ≡ s → is_row a c b ≡ t → is_row b a c ≡ u → (s ≡ true) ⊎ ((t ≡ true) ⊎ (u ≡ true))
        → Each IsOnNeighbours (cond s (row_block a b c c) (cond t (row_block a c b c) (cond u (row_block b a c c) (toffoli a b c))))
    go true t u es et eu one = row-near a b c c es
    go false true u es et eu one = row-near a c b c et
    go false false true es et eu one = row-near b a c c eu
    go false false false es et eu (inl e) = absurd (let z = e in cc)
    go false false false es et eu (inr (inl e)) = absurd (let z = e in cc)
    go false false false es et eu (inr (inr e)) = absurd (let z = e in cc)

-- a control or the target
abbrev Touched : List ℕ → ℕ → ℕ → Type 0
Touched lines t x = In x lines ⊎ (x ≡ t)

-- each line between two of them is one of them
abbrev IsClosed : List ℕ → ℕ → Type 0
IsClosed lines t = (first line last : ℕ) → Touched lines t first → Touched lines t last → first ≤ line → line ≤ last → Touched lines t line

one-near : (a t : ℕ) → a ≢ t → IsClosed (a ∷ []) t → AreNext a t
one-near a t at closed = go (cases_order a t)
  where
    go : (a ≡ t) ⊎ ((a < t) ⊎ (t < a)) → AreNext a t
    go (inl e) = absurd (at e)
    go (inr (inl lt)) = up (closed a (a + 1) t (inl (inl refl)) (inr refl) (omega arith) (omega (arith, lt)))
      where
        up : Touched (a ∷ []) t (a + 1) → AreNext a t
        up (inl (inl e)) = absurd (omega (arith, e))
        up (inl (inr e)) = absurd e
        up (inr e) = inl e
    go (inr (inr lt)) = down (closed t (t + 1) a (inr refl) (inl (inl refl)) (omega arith) (omega (arith, lt)))
      where
        down : Touched (a ∷ []) t (t + 1) → AreNext a t
        down (inl (inl e)) = inr e
        down (inl (inr e)) = absurd e
        down (inr e) = absurd (omega (arith, e))

two-near : (a b t : ℕ) → a ≢ b → a ≢ t → b ≢ t → IsClosed (a ∷ b ∷ []) t → (is_row a b t ≡ true) ⊎ ((is_row a t b ≡ true) ⊎ (is_row b a t ≡ true))
two-near a b t ab at bt closed = are-row a b t between ab at bt
  where
    listed : (x : ℕ) → OneOf a b t x → Touched (a ∷ b ∷ []) t x
    listed x (inl e) = inl (inl e)
    listed x (inr (inl e)) = inl (inr (inl e))
    listed x (inr (inr e)) = inr e

    one : (x : ℕ) → Touched (a ∷ b ∷ []) t x → OneOf a b t x
    one x (inl (inl e)) = inl e
    one x (inl (inr (inl e))) = inr (inl e)
    one x (inl (inr (inr e))) = absurd e
    one x (inr e) = inr (inr e)

    between : (first line last : ℕ) → OneOf a b t first → OneOf a b t last → first ≤ line → line ≤ last → OneOf a b t line
    between first line last f l low high = one line (closed first line last (listed first f) (listed last l) low high)

listed-near : (n want t : ℕ) (lines : List ℕ) → Fits n (map (control want) lines) t → IsClosed lines t → Each IsOnNeighbours (near_flip (map (control want) lines) t)
unfolding near_flip flip_ops Fits
listed-near n want t [] h closed = (tt, tt)
listed-near n want t (a ∷ []) h closed = each-one IsOnNeighbours (control want a) t tt (one-near a t h.2 closed)
listed-near n want t (a ∷ b ∷ []) h closed = each-two IsOnNeighbours (control want a) (control want b) t tt tt (block-near a b t (two-near a b t h.3 h.4 h.5 closed))
listed-near n want t (a ∷ b ∷ c ∷ more) h closed = absurd h

flip-near : (n care want t : ℕ) → n ≤ MOST_LINES → Within care n → Fits n (controls_of care want) t → IsNear (Flip care want t) → Each IsOnNeighbours (near_flip (controls_of care want) t)
flip-near n care want t few within fits near = listed-near n want t (rising (has care) MOST_LINES) fits closed
  where
    there : (x : ℕ) → Touched (rising (has care) MOST_LINES) t x → touches (Flip care want t) x ≡ true
    there x (inl i) = or_left (has care x) (eqb x t) (in_rising (has care) MOST_LINES x i).1
    there x (inr e) = or_right (has care x) (eqb x t) (eq-eqb x t e)

    back : (x : ℕ) → touches (Flip care want t) x ≡ true → Touched (rising (has care) MOST_LINES) t x
    back x = go (has care x) refl
      where
        go : (b : Bool) → has care x ≡ b → (b || eqb x t) ≡ true → Touched (rising (has care) MOST_LINES) t x
        go true on e = inl (rising_in (has care) MOST_LINES x (omega (arith, within x on, few)) on)
        go false on e = inr (eqb-true x t e)

    closed : IsClosed (rising (has care) MOST_LINES) t
    closed first line last f l low high = back line (near first line last (there first f) (there last l) low high)

each-near : (n : ℕ) (gates : List Shape) → n ≤ MOST_LINES → ArePlain n gates → All IsNear gates → Each IsOnNeighbours (near_ops gates)
each-near n [] few h near = tt
each-near n (Flip care want t ∷ gates) few h near =
    let fits = All-head (λ g. FitsIn g n) (Flip care want t) gates h.1 in
    let within : Within care n = λ line on. fits line (or_left (has care line) (eqb line t) on) in
    each-append IsOnNeighbours (near_flip (controls_of care want) t) (near_ops gates)
    (flip-near n care want t few within (parts_of n care want t gates h) (All-head IsNear (Flip care want t) gates near))
    (each-near n gates few (tail_of n (Flip care want t) gates h) (All-tail IsNear (Flip care want t) gates near))
each-near n (SwapGate care want a b ∷ gates) few h near = absurd (All-head IsPlain (SwapGate care want a b) gates h.2)
each-near n (Peres a b c ∷ gates) few h near = absurd (All-head IsPlain (Peres a b c) gates h.2)

pub on-neighbours : (n : ℕ) (gates : List Shape) → n ≤ MOST_LINES → ArePlain n gates → All IsNear gates → All IsOnNeighbours (near_ops gates)
on-neighbours n gates few plain near = all-of IsOnNeighbours (near_ops gates) (each-near n gates few plain near)
