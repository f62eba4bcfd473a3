-- The values of parities, and what an operation makes of them.
use Rattle.rv_gate.proofs.Bits.{xor_and, false_xor, or_true, xor_false}
use Rattle.std.proofs.Common.{◌≡◌, ℕ, zero, suc, ◌<◌, ◌^◌, Bool, true, false, cond, not, ◌&&◌, eqb, length, set, refl, sym, ap, ap₂, ◌∙◌, arith, length-set, get_or-set_same, get_or-set_other, eq-eqb, ne_eqb, inl, inr, ◌⊎◌, not-suc-le-zero}
use Rattle.std.specs.Prelude.{◌||◌, bit_or, bit_xor}
use Rattle.std.proofs.lemmas.Bool.{cases_eq, eqb-true}
use Rattle.rv_gate.specs.Gate.{xor}
use Rattle.rv_gate.specs.Word.{has}
use Rattle.rv_gate.proofs.LineSets.{has-line, has-lines, has-none, has-and, has-xor}
use Rattle.rv_net.specs.declared.op.Op.{Op}
use Rattle.rv_net.specs.declared.op.Op.TheVariants.{X, Y, Z, H, S, Sdg, T, Tdg, Cx, Cz, Ccx, Swap, Cswap}
use Rattle.rv_net.specs.Op.{goes_to, OpFitsIn}
use Rattle.rv_net.proofs.Step.{Word, bit}
use Rattle.rv_fold.specs.Parities.{Parities, alone, parities_after, with_parity, are_apart, direct, restart_set, restarted, IsClosed, Parity}

-- the exclusive or of the values of the lines below n that a set has
abbrev pub sum_of : ℕ → (ℕ → Bool) → (ℕ → Bool) → Bool
sum_of zero s v = false
sum_of (suc n) s v = xor (s n && v n) (sum_of n s v)

abbrev pub value : ℕ → (ℕ → Bool) → Parity → Bool
value n v f = xor (sum_of n (has f.lines) v) f.flipped

-- each line of the word has the value of its parity
abbrev pub Holds : ℕ → Parities → (ℕ → Bool) → Word → Type 0
Holds n parities v x = (l : ℕ) → l < n → bit x l ≡ value n v (parities l)

-- ---- parities
xor_rot : (a b c d : Bool) → xor (xor a b) (xor c d) ≡ xor (xor a c) (xor b d)
xor_rot a b c d = grind arith

xor-not : (a b : Bool) → not (xor a b) ≡ xor a (not b)
xor-not a b = grind arith

pub sum_of-same : (n : ℕ) (s t v w : ℕ → Bool) → ((j : ℕ) → j < n → (s j && v j) ≡ (t j && w j)) → sum_of n s v ≡ sum_of n t w
sum_of-same zero s t v w h = refl
sum_of-same (suc n) s t v w h = ap₂ xor (h n (omega arith)) (sum_of-same n s t v w (λ j k. h j (omega arith)))

sum_of-xor : (n : ℕ) (s t v : ℕ → Bool) → sum_of n (λ l. xor (s l) (t l)) v ≡ xor (sum_of n s v) (sum_of n t v)
sum_of-xor zero s t v = sym (xor_false false)
sum_of-xor (suc n) s t v = ap₂ xor (xor_and (s n) (t n) (v n)) (sum_of-xor n s t v) ∙ xor_rot (s n && v n) (t n && v n) (sum_of n s v) (sum_of n t v)

sum_of-bit_xor : (n a b : ℕ) (v : ℕ → Bool) → sum_of n (has (bit_xor a b)) v ≡ xor (sum_of n (has a) v) (sum_of n (has b) v)
sum_of-bit_xor n a b v = (λ i. sum_of n (λ l. has-xor a b l i) v) ∙ sum_of-xor n (has a) (has b) v

sum_of-none : (n q : ℕ) (v : ℕ → Bool) → ((j : ℕ) → j < n → eqb j q ≡ false) → sum_of n (λ l. eqb l q) v ≡ false
sum_of-none zero q v h = refl
sum_of-none (suc n) q v h = ap₂ xor (ap (λ b. b && v n) (h n (omega arith))) (sum_of-none n q v (λ j k. h j (omega arith))) ∙ xor_false false

sum_of-alone : (n q : ℕ) (v : ℕ → Bool) → q < n → sum_of n (λ l. eqb l q) v ≡ v q
sum_of-alone zero q v h = absurd (not-suc-le-zero h)
sum_of-alone (suc n) q v h = go (cases_eq n q) (λ d. sum_of-alone n q v (omega arith))
  where
    go : (n ≡ q) ⊎ (n ≡ q → ⊥) → ((n ≡ q → ⊥) → sum_of n (λ l. eqb l q) v ≡ v q) → xor (eqb n q && v n) (sum_of n (λ l. eqb l q) v) ≡ v q
    go (inl e) ih = ap₂ xor (ap (λ b. b && v n) (eq-eqb n q e)) (sum_of-none n q v (λ j k. ne_eqb j q (omega arith))) ∙ xor_false (v n) ∙ ap v e
    go (inr d) ih = ap₂ xor (ap (λ b. b && v n) (ne_eqb n q d)) (ih d) ∙ false_xor (v q)

pub value-alone : (n q : ℕ) (v : ℕ → Bool) → q < n → value n v (alone q) ≡ v q
value-alone n q v h = xor_false _ ∙ (λ i. sum_of n (λ l. has-line q l i) v) ∙ sum_of-alone n q v h

pub holds-start : (n : ℕ) (x : Word) → Holds n alone (bit x) x
holds-start n x = λ l h. sym (value-alone n l (bit x) h)

-- ---- sets
pub apart_at : (a b : ℕ) → are_apart a b ≡ true → (line : ℕ) → (has a line && has b line) ≡ false
apart_at a b h line = sym (has-and a b line) ∙ ap (λ s. has s line) (eqb-true _ _ h) ∙ has-none line

-- ---- one operation
bit-set : (x : Word) (q l : ℕ) (b : Bool) → q < length x → bit (set x q b) l ≡ cond (eqb l q) b (bit x l)
bit-set x q l b h = grind (arith, cases_eq, get_or-set_same, eq-eqb, get_or-set_other, ne_eqb)

both : (n : ℕ) (v : ℕ → Bool) (t b c : Bool) (f g : Parity) → b ≡ value n v f → c ≡ value n v g → cond t b c ≡ value n v (cond t f g)
both n v t b c f g h h2 = grind arith

holds-set : (n : ℕ) (parities : Parities) (v : ℕ → Bool) (x : Word) (q : ℕ) (b : Bool) (f : Parity) → q < length x → Holds n parities v x → b ≡ value n v f → Holds n (with_parity parities q f) v (set x q b)
holds-set n parities v x q b f h hold e = λ l k. bit-set x q l b h ∙ both n v (eqb l q) b (bit x l) f (parities l) e (hold l k)

-- the values after a restart: the bits of the word on the lines that are restarted
abbrev pub revalued : (ℕ → Bool) → Word → (ℕ → Bool) → ℕ → Bool
revalued r y v l = cond (r l) (bit y l) (v l)

left_alone : (r s b c : Bool) → (s && r) ≡ false → (s && cond r b c) ≡ (s && c)
left_alone r s b c h = grind arith

-- a line outside a closed set has a parity apart from it
abbrev pub Closed : ℕ → (ℕ → Bool) → Parities → Type 0
Closed n r parities = (l : ℕ) → l < n → r l ≡ false → (j : ℕ) → (has (parities l).lines j && r j) ≡ false

pub closed_from : (n : ℕ) (parities : Parities) (first set : ℕ) → IsClosed n parities first set → Closed n (has set) parities
closed_from n parities first set is l h out j = go (are_apart (parities l).lines set) refl
  where
    go : (b : Bool) → are_apart (parities l).lines set ≡ b → (has (parities l).lines j && has set j) ≡ false
    go true e = apart_at (parities l).lines set e j
    go false e = absurd (let inside : has set l ≡ true = is.closed l h e in let f : true ≡ false = sym inside ∙ out in cc)

holds-restarted : (n set : ℕ) (parities : Parities) (v : ℕ → Bool) (x y : Word) → Closed n (has set) parities → ((l : ℕ) → has set l ≡ false → bit y l ≡ bit x l) → Holds n parities v x → Holds n (restarted set parities) (revalued (has set) y v) y
holds-restarted n set parities v x y closed same hold = λ l k. go l k (has set l) refl
  where
    go : (l : ℕ) → l < n → (r : Bool) → has set l ≡ r → bit y l ≡ value n (revalued (has set) y v) (cond r (alone l) (parities l))
    go l k true e = sym (value-alone n l (revalued (has set) y v) k ∙ ap (λ t. cond t (bit y l) (v l)) e)
    go l k false e = same l e ∙ hold l k ∙ ap (λ p. xor p (parities l).flipped) (sum_of-same n (has (parities l).lines) (has (parities l).lines) v (revalued (has set) y v) (λ j m. sym (left_alone (has set j) (has (parities l).lines j) (bit y j) (v j) (closed l k e j))))

-- ---- what an operation may lead to
abbrev pub Next : Op → Word → Word → Type 0
Next (H q) x y = (b : Bool) × (y ≡ set x q b)
Next (X q) x y = y ≡ goes_to (X q) x
Next (Y q) x y = y ≡ goes_to (Y q) x
Next (Z q) x y = y ≡ goes_to (Z q) x
Next (S q) x y = y ≡ goes_to (S q) x
Next (Sdg q) x y = y ≡ goes_to (Sdg q) x
Next (T q) x y = y ≡ goes_to (T q) x
Next (Tdg q) x y = y ≡ goes_to (Tdg q) x
Next (Cx a b) x y = y ≡ goes_to (Cx a b) x
Next (Cz a b) x y = y ≡ goes_to (Cz a b) x
Next (Ccx a b c) x y = y ≡ goes_to (Ccx a b c) x
Next (Swap a b) x y = y ≡ goes_to (Swap a b) x
Next (Cswap c a b) x y = y ≡ goes_to (Cswap c a b) x

other : (x : Word) (q l : ℕ) (b : Bool) (set' : ℕ) → has set' q ≡ true → has set' l ≡ false → bit (set x q b) l ≡ bit x l
other x q l b set' hq hl = get_or-set_other x q l b false (λ e. let f : true ≡ false = sym hq ∙ ap (has set') (sym e) ∙ hl in cc)

-- values that hold afterwards, the same off the set
abbrev pub Held : ℕ → ℕ → Parities → (ℕ → Bool) → Word → Type 0
Held n r parities v y = (w : ℕ → Bool) × Holds n parities w y × ((j : ℕ) → has r j ≡ false → w j ≡ v j)

revalued-left : (r : ℕ) (y : Word) (v : ℕ → Bool) (j : ℕ) → has r j ≡ false → revalued (has r) y v j ≡ v j
revalued-left r y v j h = ap (λ t. cond t (bit y j) (v j)) h

-- a set that holds the lines whose bits an operation makes new
abbrev pub Restarts : ℕ → Op → Parities → Type 0
Restarts n o parities = IsClosed n parities (direct o) (restart_set n parities (direct o))

on_line : (n q r : ℕ) (parities : Parities) → IsClosed n parities (2 ^ q) r → has r q ≡ true
on_line n q r parities is = is.holds q (has-line q q ∙ eq-eqb q q refl)

on_first : (n a b r : ℕ) (parities : Parities) → IsClosed n parities (bit_or (2 ^ a) (2 ^ b)) r → has r a ≡ true
on_first n a b r parities is = is.holds a (has-lines a b a ∙ ap (λ t. t || eqb a b) (eq-eqb a a refl))

on_second : (n a b r : ℕ) (parities : Parities) → IsClosed n parities (bit_or (2 ^ a) (2 ^ b)) r → has r b ≡ true
on_second n a b r parities is = is.holds b (has-lines a b b ∙ ap (λ t. eqb b a || t) (eq-eqb b b refl) ∙ or_true (eqb b a))

-- what an operation leads to has the values of the parities afterwards; those off the lines that it restarts stay
pub holds-next : (n : ℕ) (o : Op) (parities : Parities) (v : ℕ → Bool) (x y : Word) → length x ≡ n → OpFitsIn o n → Restarts n o parities → Holds n parities v x → Next o x y → Held n (restart_set n parities (direct o)) (parities_after n o parities) v y
holds-next n (X q) parities v x y e w r hold next = (v, rw next (holds-set n parities v x q (not (bit x q)) _ (rw e w) hold (ap not (hold q w) ∙ xor-not _ _)), λ j h. refl)
holds-next n (Y q) parities v x y e w r hold next = (v, rw next (holds-set n parities v x q (not (bit x q)) _ (rw e w) hold (ap not (hold q w) ∙ xor-not _ _)), λ j h. refl)
holds-next n (Z q) parities v x y e w r hold next = (v, rw next hold, λ j h. refl)
holds-next n (S q) parities v x y e w r hold next = (v, rw next hold, λ j h. refl)
holds-next n (Sdg q) parities v x y e w r hold next = (v, rw next hold, λ j h. refl)
holds-next n (T q) parities v x y e w r hold next = (v, rw next hold, λ j h. refl)
holds-next n (Tdg q) parities v x y e w r hold next = (v, rw next hold, λ j h. refl)
holds-next n (Cz a b) parities v x y e w r hold next = (v, rw next hold, λ j h. refl)
holds-next n (Cx a b) parities v x y e w r hold next = (
  v,
  rw next (holds-set n parities v x b (xor (bit x a) (bit x b)) _ (rw e w.1) hold
      (ap₂ xor (hold a w.0) (hold b w.1)
      ∙ xor_rot (sum_of n (has (parities a).lines) v) (parities a).flipped (sum_of n (has (parities b).lines) v) (parities b).flipped
      ∙ ap (λ p. xor p (xor (parities a).flipped (parities b).flipped)) (sym (sum_of-bit_xor n (parities a).lines (parities b).lines v)))),
  λ j h. refl,
)
holds-next n (Swap a b) parities v x y e w r hold next = (v, rw next (holds-set n _ v _ b (bit x a) (parities a) (rw (length-set, e) w.1) (holds-set n parities v x a (bit x b) (parities b) (rw e w.0) hold (hold b w.1)) (hold a w.0)), λ j h. refl)
holds-next n (H q) parities v x y e w r hold next =
    let set' = restart_set n parities (2 ^ q) in
    (revalued (has set') y v, holds-restarted n set' parities v x y (closed_from n parities (2 ^ q) set' r) (λ l h. ap (λ z. bit z l) next.1 ∙ other x q l next.0 set' (on_line n q set' parities r) h) hold, revalued-left set' y v)
holds-next n (Ccx a b c) parities v x y e w r hold next =
    let set' = restart_set n parities (2 ^ c) in
    (revalued (has set') y v, holds-restarted n set' parities v x y (closed_from n parities (2 ^ c) set' r) (λ l h. ap (λ z. bit z l) next ∙ other x c l _ set' (on_line n c set' parities r) h) hold, revalued-left set' y v)
holds-next n (Cswap c a b) parities v x y e w r hold next =
    let set' = restart_set n parities (bit_or (2 ^ a) (2 ^ b)) in
    (revalued (has set') y v, holds-restarted n set' parities v x y (closed_from n parities (bit_or (2 ^ a) (2 ^ b)) set' r) (λ l h. ap (λ z. bit z l) next ∙ other _ b l _ set' (on_second n a b set' parities r) h ∙ other x a l _ set' (on_first n a b set' parities r) h) hold, revalued-left set' y v)

pub length-next : (o : Op) (x y : Word) → Next o x y → length y ≡ length x
length-next o x y h = grind (arith, length, length-set)

-- values that are the same off a set have the same parities of a parity apart from it
pub value-held : (n r : ℕ) (f : Parity) (v w : ℕ → Bool) → are_apart f.lines r ≡ true → ((j : ℕ) → has r j ≡ false → w j ≡ v j) → value n w f ≡ value n v f
value-held n r f v w apart same = grind (arith, sum_of-same, apart_at)
