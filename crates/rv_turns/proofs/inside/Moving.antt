-- A turn moves past operations that take Z on its line to Z on another line, and joins a turn there.
use Rattle.std.proofs.Common.{◌≡◌, ℕ, zero, suc, ◌<◌, Bool, true, false, cond, Option, None, Some, List, [], ◌∷◌, ◌++◌, length, get_or, set, take, drop, replicate, refl, sym, ap, ap₂, ◌∙◌, arith}
use Rattle.std.proofs.lemmas.List.{append_assoc, get_or-replicate, length-replicate}
use Rattle.std.proofs.lemmas.Int.{ints}
use Rattle.rv_gate.specs.Gate.{xor}
use Rattle.rv_net.specs.declared.op.Op.{Op}
use Rattle.rv_net.specs.declared.op.Op.TheVariants.{Z}
use Rattle.rv_net.specs.Cyclotomic.{Cyclotomic, plus, times_w, times_w_power}
use Rattle.rv_net.specs.Op.{OpFitsIn}
use Rattle.rv_net.proofs.Step.{Word, bit, step}
use Rattle.rv_net.proofs.Cyclotomic.{same_cyclotomic, halved}
use Rattle.rv_net.proofs.Frame.{through, through-append, step-local, through-local, through-one}
use Rattle.rv_net.proofs.Matrix.{step-sum}
use Rattle.rv_fold.proofs.Turning.{step-turn}
use Rattle.rv_turns.specs.inside.Pauli.{Pauli, IsOn, flipped, overlap, passed, stops, sign_on, turn, summed, kept}
use Rattle.rv_turns.proofs.inside.Bits.{overlap-signs}
use Rattle.rv_turns.proofs.inside.Passing.{before, ex, passes}

-- ---- lists of operations that do the same, on words of n bits

pub record Same (n : ℕ) (a b : List Op) : Type 0 where
  pub each : (k : Word → Cyclotomic) (v : Word) → length v ≡ n → through a k v ≡ through b k v

pub same_lists : (n : ℕ) (a b : List Op) → a ≡ b → Same n a b
same_lists n a b e = record { each = λ k v _. ap (λ l. through l k v) e }

pub same_then : (n : ℕ) (a b c : List Op) → Same n a b → Same n b c → Same n a c
same_then n a b c s t = record { each = λ k v e. s.each k v e ∙ t.each k v e }

pub same_back : (n : ℕ) (a b : List Op) → Same n a b → Same n b a
same_back n a b s = record { each = λ k v e. sym (s.each k v e) }

pub same_after : (n : ℕ) (a b c : List Op) → Same n a b → Same n (a ++ c) (b ++ c)
same_after n a b c s = record { each = λ k v e. through-append a c k v ∙ s.each (λ u. through c k u) v e ∙ sym (through-append b c k v) }

pub same_before : (n : ℕ) (a b c : List Op) → Same n a b → Same n (c ++ a) (c ++ b)
same_before n a b c s = record {
  each = λ k v e. through-append c a k v ∙ through-local c _ _ v (λ u f. s.each k u (f ∙ e)) ∙ sym (through-append c b k v);
}

-- ---- Z on a line, as a product

pub record IsSign (n : ℕ) (p : Pauli) (q : ℕ) : Type 0 where
  pub each : (k : Word → Cyclotomic) (v : Word) → before p k v ≡ step (Z q) k v

flipped-none : (n : ℕ) (v : Word) → flipped (replicate n false) v ≡ v
flipped-none zero v = refl
flipped-none (suc n) [] = refl
flipped-none (suc n) (b ∷ v) = ap₂ (λ c l. c ∷ l) (go b) (flipped-none n v)
  where
    go : (b : Bool) → xor false b ≡ b
    go true = refl
    go false = refl

overlap-none : (n : ℕ) (v : Word) → overlap (replicate n false) v ≡ false
overlap-none zero v = refl
overlap-none (suc n) [] = refl
overlap-none (suc n) (b ∷ v) = ap (xor false) (overlap-none n v)

overlap-sign : (n q : ℕ) (v : Word) → q < n → overlap (set (replicate n false) q true) v ≡ bit v q
overlap-sign n q v h = grind (arith, overlap-signs, length-replicate, overlap-none, get_or-replicate)

pub is_sign : (n q : ℕ) → q < n → IsSign n (sign_on n q) q
is_sign n q h = record { each = λ k v. rw (overlap-sign n q v h, flipped-none n v) (go (bit v q) (k v)) }
  where
    go : (b : Bool) (u : Cyclotomic) → times_w_power (ex false false b) u ≡ times_w_power (cond b 4 0) u
    go true u = refl
    go false u = refl

-- ---- what Z on a line becomes after operations

pub record Carries (n q : ℕ) (ops : List Op) (p : Pauli) : Type 0 where
  pub each : (k : Word → Cyclotomic) (v : Word) → length v ≡ n → step (Z q) (λ u. through ops k u) v ≡ through ops (λ u. before p k u) v

pub carries_none : (n q : ℕ) → q < n → Carries n q [] (sign_on n q)
unfolding through
carries_none n q h = record { each = λ k v e. sym ((is_sign n q h).each k v) }

pub carries_more : (n q : ℕ) (ops : List Op) (o : Op) (p : Pauli) → Carries n q ops p → IsOn n p → OpFitsIn o n → stops o p ≡ false → Carries n q (ops ++ o ∷ []) (passed o p)
carries_more n q ops o p c on fits free = record {
  each = λ k v e.
      (λ i. step (Z q) (λ u. through-append ops (o ∷ []) k u i) v)
      ∙ (λ i. step (Z q) (λ u. through ops (λ w. through-one o k w i) u) v)
      ∙ c.each (λ w. step o k w) v e
      ∙ through-local ops _ _ v (λ u f. passes n o p k u fits on (f ∙ e) free)
      ∙ (λ i. through ops (λ w. sym (through-one o (before (passed o p) k) w) i) v)
      ∙ sym (through-append ops (o ∷ []) (before (passed o p) k) v);
}

pub carries_same : (n q : ℕ) (a b : List Op) (p : Pauli) → Carries n q a p → Same n a b → Carries n q b p
carries_same n q a b p c s = record {
  each = λ k v e. step-local (Z q) _ _ v (λ u f. sym (s.each k u (f ∙ e))) ∙ c.each k v e ∙ s.each (λ u. before p k u) v e;
}

-- ---- sums pass operations

through-plus : (ops : List Op) (f g : Word → Cyclotomic) (x : Word) → through ops (λ v. plus (f v) (g v)) x ≡ plus (through ops f x) (through ops g x)
unfolding through
through-plus [] f g x = refl
through-plus (o ∷ ops) f g x = (λ i. step o (λ v. through-plus ops f g v i) x) ∙ step-sum o _ _ x

through-power : (ops : List Op) (p : ℕ) (k : Word → Cyclotomic) (x : Word) → through ops (λ v. times_w_power p (k v)) x ≡ times_w_power p (through ops k x)
unfolding through
through-power [] p k x = refl
through-power (o ∷ ops) p k x = (λ i. step o (λ v. through-power ops p k v i) x) ∙ step-turn o p _ x

-- twice a turn by e is (1 + w^e) + (1 - w^e) Z
pub mixed : ℕ → Cyclotomic → Cyclotomic → Cyclotomic
mixed e u z = plus (plus u (times_w_power e u)) (plus z (times_w_power e (times_w_power 4 z)))

through-mixed : (ops : List Op) (e : ℕ) (f g : Word → Cyclotomic) (x : Word) → through ops (λ v. mixed e (f v) (g v)) x ≡ mixed e (through ops f x) (through ops g x)
unfolding mixed
through-mixed ops e f g x =
    through-plus ops _ _ x
    ∙ ap₂ plus
    (through-plus ops _ _ x ∙ ap (plus _) (through-power ops e f x))
    (through-plus ops _ _ x ∙ ap (plus _) (through-power ops e _ x ∙ ap (times_w_power e) (through-power ops 4 g x)))

-- the power of w of a turn
abbrev pub eighth : Bool → ℕ
eighth b = cond b 7 1

step-turned : (b : Bool) (q : ℕ) (k : Word → Cyclotomic) (v : Word) → step (turn b q) k v ≡ times_w_power (cond (bit v q) (eighth b) 0) (k v)
step-turned false q k v = refl
step-turned true q k v = refl

twice : (b t : Bool) (u : Cyclotomic) → plus (times_w_power (cond t (eighth b) 0) u) (times_w_power (cond t (eighth b) 0) u) ≡ mixed (eighth b) u (times_w_power (cond t 4 0) u)
unfolding mixed plus times_w_power times_w
twice false false u = same_cyclotomic _ _ (omega (arith, ints)) (omega (arith, ints)) (omega (arith, ints)) (omega (arith, ints))
twice false true u = same_cyclotomic _ _ (omega (arith, ints)) (omega (arith, ints)) (omega (arith, ints)) (omega (arith, ints))
twice true false u = same_cyclotomic _ _ (omega (arith, ints)) (omega (arith, ints)) (omega (arith, ints)) (omega (arith, ints))
twice true true u = same_cyclotomic _ _ (omega (arith, ints)) (omega (arith, ints)) (omega (arith, ints)) (omega (arith, ints))

two_turns : (b : Bool) (q : ℕ) (k : Word → Cyclotomic) (v : Word) → plus (step (turn b q) k v) (step (turn b q) k v) ≡ mixed (eighth b) (k v) (step (Z q) k v)
two_turns b q k v = ap₂ plus (step-turned b q k v) (step-turned b q k v) ∙ twice b (bit v q) (k v)

-- ---- a turn moves

pub turn_moves : (n q r : ℕ) (ops : List Op) (p : Pauli) (b : Bool) → Carries n q ops p → IsSign n p r → Same n (turn b q ∷ ops) (ops ++ turn b r ∷ [])
unfolding through
turn_moves n q r ops p b c is = record {
  each = λ k v e.
      halved _ _
      (two_turns b q (λ u. through ops k u) v
      ∙ ap (mixed (eighth b) (through ops k v)) (c.each k v e ∙ (λ i. through ops (λ u. is.each k u i) v))
      ∙ sym (through-mixed ops (eighth b) k (λ u. step (Z r) k u) v)
      ∙ (λ i. through ops (λ u. sym (two_turns b r k u) i) v)
      ∙ through-plus ops _ _ v)
      ∙ (λ i. through ops (λ u. sym (through-one (turn b r) k u) i) v)
      ∙ sym (through-append ops (turn b r ∷ []) k v);
}

two_powers : (b c t : Bool) (q : ℕ) (k : Word → Cyclotomic) (v : Word) → bit v q ≡ t → through (turn b q ∷ turn c q ∷ []) k v ≡ through (kept (summed b c q ∷ [])) k v
unfolding through times_w_power
two_powers b c t q k v h = grind arith

pub two_ops : (n : ℕ) (b c : Bool) (q : ℕ) → Same n (turn b q ∷ turn c q ∷ []) (kept (summed b c q ∷ []))
two_ops n b c q = record { each = λ k v e. two_powers b c (bit v q) q k v refl }

-- ---- what is left of operations

pub kept-append : (a b : List (Option Op)) → kept (a ++ b) ≡ kept a ++ kept b
kept-append [] b = refl
kept-append (None ∷ a) b = kept-append a b
kept-append (Some o ∷ a) b = ap (λ l. o ∷ l) (kept-append a b)

pub kept-at : (l : List (Option Op)) (r : ℕ) (o : Op) → get_or l r None ≡ Some o → kept l ≡ kept (take r l) ++ o ∷ kept (drop (suc r) l)
kept-at [] r o e = absurd (cc)
kept-at (m ∷ l) zero o e = rw e refl
kept-at (None ∷ l) (suc r) o e = kept-at l r o e
kept-at (Some p ∷ l) (suc r) o e = ap (λ t. p ∷ t) (kept-at l r o e)

pub kept-hole : (l : List (Option Op)) (r : ℕ) → kept (set l r None) ≡ kept (take r l) ++ kept (drop (suc r) l)
kept-hole [] zero = refl
kept-hole [] (suc r) = refl
kept-hole (m ∷ l) zero = refl
kept-hole (None ∷ l) (suc r) = kept-hole l r
kept-hole (Some p ∷ l) (suc r) = ap (λ t. p ∷ t) (kept-hole l r)

-- the second of two turns that carry over to each other is joined by the first
pub joins : (n q r : ℕ) (b c : Bool) (l : List (Option Op)) (i : ℕ) (p : Pauli) → get_or l i None ≡ Some (turn b q) → Carries n q (kept (drop (suc i) l)) p → IsSign n p r → Same n (kept l ++ turn c r ∷ []) (kept (set l i None ++ summed b c r ∷ []))
joins n q r b c l i p e carried is =
    let pre : List Op = kept (take i l) in
    let post : List Op = kept (drop (suc i) l) in
    same_then n _ _ _
    (same_lists n _ _ (ap (λ m. m ++ turn c r ∷ []) (kept-at l i (turn b q) e)))
    (same_then n _ _ _
    (same_after n (pre ++ turn b q ∷ post) (pre ++ (post ++ turn b r ∷ [])) (turn c r ∷ []) (same_before n _ _ pre (turn_moves n q r post p b carried is)))
    (same_then n _ _ _
    (same_lists n _ ((pre ++ post) ++ (turn b r ∷ turn c r ∷ []))
    (append_assoc pre (post ++ turn b r ∷ []) (turn c r ∷ []) ∙ ap (λ m. pre ++ m) (append_assoc post (turn b r ∷ []) (turn c r ∷ [])) ∙ sym (append_assoc pre post (turn b r ∷ turn c r ∷ []))))
    (same_then n _ _ _
    (same_before n _ _ (pre ++ post) (two_ops n b c r))
    (same_lists n _ _ (ap (λ m. m ++ kept (summed b c r ∷ [])) (sym (kept-hole l i)) ∙ sym (kept-append (set l i None) (summed b c r ∷ [])))))))
