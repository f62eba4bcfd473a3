-- A net that touches only some lines acts as on words of those lines alone.
use Rattle.std.proofs.Common.{arith}
use Rattle.std.proofs.Common.{◌≡◌, ◌≢◌, ℕ, zero, suc, ◌<◌, Bool, true, false, cond, not, ◌&&◌, List, [], ◌∷◌, ◌++◌, map, length, get_or, set, refl, sym, ap, ◌∙◌, length-set, get_or-set_same, get_or-set_other, set-set, le_of_suc-le-suc, not-suc-le-zero, subst}
use Rattle.std.proofs.lemmas.List.{set_comm}
use Rattle.rv_gate.specs.Gate.{xor}
use Rattle.rv_net.specs.declared.op.Op.{Op}
use Rattle.rv_net.specs.declared.op.Op.TheVariants.{X, Y, Z, H, S, Sdg, T, Tdg, Cx, Cz, Ccx, Swap, Cswap}
use Rattle.rv_net.specs.Cyclotomic.{Cyclotomic, times_w_power}
use Rattle.rv_net.proofs.Step.{Word, bit, step, amp}

-- a net before what follows
unfoldable pub through : List Op → (Word → Cyclotomic) → Word → Cyclotomic
through [] k x = k x
through (o ∷ r) k x = step o (λ v. through r k v) x

pub through-one : (o : Op) (k : Word → Cyclotomic) (x : Word) → through (o ∷ []) k x ≡ step o k x
unfolding through
through-one o k x = refl

pub amp-append : (m n : List Op) (x y : Word) → amp (m ++ n) x y ≡ through m (λ v. amp n v y) x
unfolding amp through
amp-append [] n x y = refl
amp-append (o ∷ m) n x y = λ i. step o (λ v. amp-append m n v y i) x

pub through-append : (m n : List Op) (k : Word → Cyclotomic) (x : Word) → through (m ++ n) k x ≡ through m (λ v. through n k v) x
unfolding through
through-append [] n k x = refl
through-append (o ∷ m) n k x = λ i. step o (λ v. through-append m n k v i) x

-- the bits of v on the lines
abbrev pub puts : Word → List ℕ → Word → Word
puts x [] v = x
puts x (q ∷ lines) [] = x
puts x (q ∷ lines) (b ∷ v) = set (puts x lines v) q b

abbrev pub Apart : List ℕ → Type 0
Apart [] = Unit {0}
Apart (q ∷ lines) = ((i : ℕ) → i < length lines → get_or lines i 0 ≢ q) × Apart lines

pub two_apart : (a b : ℕ) → a ≢ b → Apart (a ∷ b ∷ [])
two_apart a b differ = (first, (λ i h. absurd (not-suc-le-zero h), tt))
  where
    first : (i : ℕ) → i < 1 → get_or (b ∷ []) i 0 ≢ a
    first zero h e = differ (sym e)
    first (suc i) h e = absurd (not-suc-le-zero (le_of_suc-le-suc h))

abbrev pub Below : ℕ → List ℕ → Type 0
Below n [] = Unit {0}
Below n (q ∷ lines) = (q < n) × Below n lines

length-puts : (x : Word) (lines : List ℕ) (v : Word) → length (puts x lines v) ≡ length x
length-puts x [] v = refl
length-puts x (q ∷ lines) [] = refl
length-puts x (q ∷ lines) (b ∷ v) = length-set (puts x lines v) q b ∙ length-puts x lines v

pub bit-puts : (x : Word) (lines : List ℕ) (v : Word) (i : ℕ) → Apart lines → Below (length x) lines → i < length lines → i < length v → bit (puts x lines v) (get_or lines i 0) ≡ bit v i
bit-puts x [] v i apart below h g = absurd (not-suc-le-zero h)
bit-puts x (q ∷ lines) [] i apart below h g = absurd (not-suc-le-zero g)
bit-puts x (q ∷ lines) (b ∷ v) zero apart below h g = get_or-set_same (puts x lines v) q b false (subst (λ n. q < n) (sym (length-puts x lines v)) below.0)
bit-puts x (q ∷ lines) (b ∷ v) (suc i) apart below h g =
    get_or-set_other (puts x lines v) q (get_or lines i 0) b false (apart.0 i (le_of_suc-le-suc h))
    ∙ bit-puts x lines v i apart.1 below.1 (le_of_suc-le-suc h) (le_of_suc-le-suc g)

pub set-puts : (x : Word) (lines : List ℕ) (v : Word) (i : ℕ) (b : Bool) → Apart lines → i < length lines → i < length v → set (puts x lines v) (get_or lines i 0) b ≡ puts x lines (set v i b)
set-puts x [] v i b apart h g = absurd (not-suc-le-zero h)
set-puts x (q ∷ lines) [] i b apart h g = absurd (not-suc-le-zero g)
set-puts x (q ∷ lines) (a ∷ v) zero b apart h g = set-set (puts x lines v) q a b
set-puts x (q ∷ lines) (a ∷ v) (suc i) b apart h g =
    set_comm (puts x lines v) q (get_or lines i 0) a b (λ e. apart.0 i (le_of_suc-le-suc h) (sym e))
    ∙ ap (λ l. set l q a) (set-puts x lines v i b apart.1 (le_of_suc-le-suc h) (le_of_suc-le-suc g))

-- the operation on the lines with these numbers
unfoldable pub relabel : List ℕ → Op → Op
relabel l (X q) = X (get_or l q 0)
relabel l (Y q) = Y (get_or l q 0)
relabel l (Z q) = Z (get_or l q 0)
relabel l (H q) = H (get_or l q 0)
relabel l (S q) = S (get_or l q 0)
relabel l (Sdg q) = Sdg (get_or l q 0)
relabel l (T q) = T (get_or l q 0)
relabel l (Tdg q) = Tdg (get_or l q 0)
relabel l (Cx a b) = Cx (get_or l a 0) (get_or l b 0)
relabel l (Cz a b) = Cz (get_or l a 0) (get_or l b 0)
relabel l (Ccx a b c) = Ccx (get_or l a 0) (get_or l b 0) (get_or l c 0)
relabel l (Swap a b) = Swap (get_or l a 0) (get_or l b 0)
relabel l (Cswap a b c) = Cswap (get_or l a 0) (get_or l b 0) (get_or l c 0)

abbrev pub Within : ℕ → Op → Type 0
Within n (X q) = q < n
Within n (Y q) = q < n
Within n (Z q) = q < n
Within n (H q) = q < n
Within n (S q) = q < n
Within n (Sdg q) = q < n
Within n (T q) = q < n
Within n (Tdg q) = q < n
Within n (Cx a b) = (a < n) × (b < n)
Within n (Cz a b) = (a < n) × (b < n)
Within n (Ccx a b c) = (a < n) × (b < n) × (c < n)
Within n (Swap a b) = (a < n) × (b < n)
Within n (Cswap a b c) = (a < n) × (b < n) × (c < n)

abbrev pub AllWithin : ℕ → List Op → Type 0
AllWithin n [] = Unit {0}
AllWithin n (o ∷ net) = Within n o × AllWithin n net

-- an operation looks at no word of another length
pub step-local : (o : Op) (k m : Word → Cyclotomic) (x : Word) → ((v : Word) → length v ≡ length x → k v ≡ m v) → step o k x ≡ step o m x
step-local o k m x h = grind (arith, times_w_power, length-set)

-- nets before what is the same on words as long
pub through-local : (ops : List Op) (k m : Word → Cyclotomic) (x : Word) → ((v : Word) → length v ≡ length x → k v ≡ m v) → through ops k x ≡ through ops m x
unfolding through
through-local [] k m x h = h x refl
through-local (o ∷ ops) k m x h = step-local o _ _ x (λ v e. through-local ops k m v (λ u f. h u (f ∙ e)))

module _ (x : Word) (lines : List ℕ) (apart : Apart lines) (below : Below (length x) lines) where
  at : (v : Word) (i : ℕ) → length v ≡ length lines → i < length lines → bit (puts x lines v) (get_or lines i 0) ≡ bit v i
  at v i e h = bit-puts x lines v i apart below h (subst (λ n. i < n) (sym e) h)

  on : (v : Word) (i : ℕ) (b : Bool) → length v ≡ length lines → i < length lines → set (puts x lines v) (get_or lines i 0) b ≡ puts x lines (set v i b)
  on v i b e h = set-puts x lines v i b apart h (subst (λ n. i < n) (sym e) h)

  pub frame-step : (o : Op) (k : Word → Cyclotomic) (v : Word) → length v ≡ length lines → Within (length lines) o → step (relabel lines o) k (puts x lines v) ≡ step o (λ u. k (puts x lines u)) v
  unfolding relabel
  frame-step (X q) k v e h = rw (at v q e h) (rw (on v q (not (bit v q)) e h))
  frame-step (Y q) k v e h = rw (at v q e h) (rw (on v q (not (bit v q)) e h))
  frame-step (Z q) k v e h = rw (at v q e h)
  frame-step (H q) k v e h = rw (at v q e h) (rw (on v q false e h, on v q true e h))
  frame-step (S q) k v e h = rw (at v q e h)
  frame-step (Sdg q) k v e h = rw (at v q e h)
  frame-step (T q) k v e h = rw (at v q e h)
  frame-step (Tdg q) k v e h = rw (at v q e h)
  frame-step (Cx a b) k v e h = rw (at v a e h.0, at v b e h.1) (rw (on v b (xor (bit v a) (bit v b)) e h.1))
  frame-step (Cz a b) k v e h = rw (at v a e h.0, at v b e h.1)
  frame-step (Ccx a b c) k v e h = rw (at v a e h.0, at v b e h.1, at v c e h.2) (rw (on v c (xor (bit v a && bit v b) (bit v c)) e h.2))
  frame-step (Swap a b) k v e h = rw (at v a e h.0, at v b e h.1) (rw (on v a (bit v b) e h.0, on (set v a (bit v b)) b (bit v a) (length-set _ _ _ ∙ e) h.1))
  frame-step (Cswap c a b) k v e h = rw (at v c e h.0, at v a e h.1, at v b e h.2) (rw (on v a (cond (bit v c) (bit v b) (bit v a)) e h.1, on (set v a (cond (bit v c) (bit v b) (bit v a))) b (cond (bit v c) (bit v a) (bit v b)) (length-set _ _ _ ∙ e) h.2))

  pub frame-through : (net : List Op) (k : Word → Cyclotomic) (v : Word) → length v ≡ length lines → AllWithin (length lines) net → through (map (relabel lines) net) k (puts x lines v) ≡ through net (λ u. k (puts x lines u)) v
  unfolding through
  frame-through [] k v e h = refl
  frame-through (o ∷ net) k v e h =
      frame-step o (λ u. through (map (relabel lines) net) k u) v e h.0
      ∙ step-local o _ _ v (λ u g. frame-through net k u (g ∙ e) h.1)
