-- Operations commute where neither writes what the other reads.
use Rattle.std.proofs.Common.{arith}
use Rattle.std.proofs.Common.{◌≡◌, ◌≢◌, ℕ, ◌<◌, ◌^◌, Bool, true, false, cond, ◌&&◌, eqb, length, set, refl, sym, ap, ap₂, ◌∙◌, length-set, get_or-set_other, eq-eqb, ne_eqb, inl, inr, ◌⊎◌, subst}
use Rattle.std.specs.Prelude.{bit_and}
use Rattle.std.proofs.lemmas.Bool.{cases_eq, eqb-true, and_parts}
use Rattle.std.proofs.lemmas.List.{set_comm, ext_get_or}
use Rattle.rv_gate.specs.Gate.{xor}
use Rattle.rv_gate.specs.Word.{has}
use Rattle.rv_gate.proofs.LineSets.{has-and, has-none, has_self}
use Rattle.rv_net.specs.declared.op.Op.{Op}
use Rattle.rv_net.specs.declared.op.Op.TheVariants.{X, Y, Z, H, S, Sdg, T, Tdg, Cx, Cz, Ccx, Swap, Cswap}
use Rattle.rv_net.specs.Cyclotomic.{Cyclotomic, plus, times_w_power}
use Rattle.rv_net.specs.Op.{goes_to, phase_of, OpFitsIn}
use Rattle.rv_net.proofs.Step.{Word, bit, step}
use Rattle.rv_net.proofs.Cyclotomic.{times_w_power-add, plus_swap, turns_comm}
use Rattle.rv_pairs.specs.Commuting.{commute, reads, writes}
use Rattle.rv_pairs.proofs.Bits.{Agree, phase_agrees, flips, flips_agrees, flips_unwritten, goes-bit, goes-length}
use Rattle.rv_gate.proofs.Acting.{bit_of-set}
use Rattle.rv_gate.proofs.Bits.{false_xor}

-- ---- phases

-- ---- an operation that is no H moves a word, with a phase

pub record Moves (o : Op) : Type 0 where
  pub steps : (k : Word → Cyclotomic) (x : Word) → step o k x ≡ times_w_power (phase_of o x) (k (goes_to o x))

pub kind : (o : Op) → ((q : ℕ) × (o ≡ H q)) ⊎ Moves o
kind (H q) = inl (q, refl)
kind (X q) = inr (record { steps = λ k x. refl })
kind (Y q) = inr (record { steps = λ k x. refl })
kind (Z q) = inr (record { steps = λ k x. refl })
kind (S q) = inr (record { steps = λ k x. refl })
kind (Sdg q) = inr (record { steps = λ k x. refl })
kind (T q) = inr (record { steps = λ k x. refl })
kind (Tdg q) = inr (record { steps = λ k x. refl })
kind (Cx a b) = inr (record { steps = λ k x. refl })
kind (Cz a b) = inr (record { steps = λ k x. refl })
kind (Ccx a b c) = inr (record { steps = λ k x. refl })
kind (Swap a b) = inr (record { steps = λ k x. refl })
kind (Cswap c a b) = inr (record { steps = λ k x. refl })

-- ---- sets that are apart

apart_at : (a b : ℕ) → eqb (bit_and a b) 0 ≡ true → (l : ℕ) → has a l ≡ true → has b l ≡ false
apart_at a b h l on = ap (λ s. s && has b l) (sym on) ∙ sym (has-and a b l) ∙ ap (λ s. has s l) (eqb-true _ _ h) ∙ has-none l

apart_back : (a b : ℕ) → eqb (bit_and a b) 0 ≡ true → (l : ℕ) → has b l ≡ true → has a l ≡ false
apart_back a b h l on = go (has a l) (ap (λ s. has a l && s) (sym on) ∙ sym (has-and a b l) ∙ ap (λ s. has s l) (eqb-true _ _ h) ∙ has-none l)
  where
    go : (t : Bool) → (t && true) ≡ false → t ≡ false
    go true e = e
    go false e = refl

pub record Apart (p o : Op) : Type 0 where
  pub unwritten : (l : ℕ) → has (reads p) l ≡ true → has (writes o) l ≡ false
  pub unread : (l : ℕ) → has (writes p) l ≡ true → has (reads o) l ≡ false
  pub kept : (l : ℕ) → has (reads o) l ≡ true → has (writes p) l ≡ false
  pub unseen : (l : ℕ) → has (writes o) l ≡ true → has (reads p) l ≡ false

pub apart_from : (p o : Op) → commute p o ≡ true → Apart p o
apart_from p o h =
    let both = and_parts (eqb (bit_and (reads p) (writes o)) 0) (eqb (bit_and (writes p) (reads o)) 0) h in record {
      unwritten = apart_at (reads p) (writes o) both.0;
      unread = apart_at (writes p) (reads o) both.1;
      kept = apart_back (writes p) (reads o) both.1;
      unseen = apart_back (reads p) (writes o) both.0;
    }

-- ---- two moves

agree_after : (p o : Op) (x : Word) → OpFitsIn o (length x) → ((l : ℕ) → has (reads p) l ≡ true → has (writes o) l ≡ false) → Agree (reads p) (goes_to o x) x
agree_after p o x fit h = record { each = λ l on. goes-bit o x l fit ∙ ap (λ t. xor t (bit x l)) (flips_unwritten o x l (h l on)) ∙ false_xor (bit x l) }

xor_swap : (a b c : Bool) → xor a (xor b c) ≡ xor b (xor a c)
xor_swap a b c = grind arith

fits_after : (p o : Op) (x : Word) → OpFitsIn p (length x) → OpFitsIn p (length (goes_to o x))
fits_after p o x h = subst (OpFitsIn p) (sym (goes-length o x)) h

moves_bit : (p o : Op) (x : Word) (l : ℕ) → OpFitsIn p (length x) → OpFitsIn o (length x) → Agree (reads p) (goes_to o x) x
    → bit (goes_to p (goes_to o x)) l ≡ xor (flips p x l) (xor (flips o x l) (bit x l))
moves_bit p o x l fp fo agree =
    goes-bit p (goes_to o x) l (fits_after p o x fp) ∙ ap₂ xor (flips_agrees p (goes_to o x) x l agree) (goes-bit o x l fo)

same_word_moved : (p o : Op) (x : Word) → OpFitsIn p (length x) → OpFitsIn o (length x) → Agree (reads p) (goes_to o x) x → Agree (reads o) (goes_to p x) x
    → goes_to p (goes_to o x) ≡ goes_to o (goes_to p x)
same_word_moved p o x fp fo ap' ao =
    ext_get_or false (goes_to p (goes_to o x)) (goes_to o (goes_to p x))
    (goes-length p (goes_to o x) ∙ goes-length o x ∙ sym (goes-length o (goes_to p x) ∙ goes-length p x))
    (λ l lt. moves_bit p o x l fp fo ap' ∙ xor_swap (flips p x l) (flips o x l) (bit x l) ∙ sym (moves_bit o p x l fo fp ao))

two_moves : (p o : Op) (k : Word → Cyclotomic) (x : Word) → Moves p → Moves o → Apart p o → OpFitsIn p (length x) → OpFitsIn o (length x)
    → step p (λ v. step o k v) x ≡ step o (λ v. step p k v) x
two_moves p o k x mp mo apart fp fo =
    grind (arith, agree_after, times_w_power, phase_of, goes_to, phase_agrees, turns_comm, same_word_moved)

-- ---- an H and a move

agree_set : (o : Op) (x : Word) (q : ℕ) (b : Bool) → has (reads o) q ≡ false → Agree (reads o) (set x q b) x
agree_set o x q b unread = record { each = λ l on. get_or-set_other x q l b false (λ e. both (sym on ∙ ap (has (reads o)) e ∙ unread)) }
  where
    both : true ≡ false → ⊥
    both e = cc

fits_set : (o : Op) (x : Word) (q : ℕ) (b : Bool) → OpFitsIn o (length x) → OpFitsIn o (length (set x q b))
fits_set o x q b h = subst (OpFitsIn o) (sym (length-set x q b)) h

set_moved : (o : Op) (x : Word) (q : ℕ) (b : Bool) → q < length x → OpFitsIn o (length x) → has (reads o) q ≡ false → has (writes o) q ≡ false
    → goes_to o (set x q b) ≡ set (goes_to o x) q b
set_moved o x q b hq fo unread unwritten =
    ext_get_or false (goes_to o (set x q b)) (set (goes_to o x) q b)
    (goes-length o (set x q b) ∙ length-set x q b ∙ sym (length-set (goes_to o x) q b ∙ goes-length o x))
    (λ l lt.
    goes-bit o (set x q b) l (fits_set o x q b fo)
    ∙ ap₂ xor (flips_agrees o (set x q b) x l (agree_set o x q b unread)) (bit_of-set x q l b hq)
    ∙ go l (cases_eq l q)
    ∙ ap (λ t. cond (eqb l q) b t) (sym (goes-bit o x l fo))
    ∙ sym (bit_of-set (goes_to o x) q l b (subst (λ n. q < n) (sym (goes-length o x)) hq)))
  where
    go : (l : ℕ) → (l ≡ q) ⊎ (l ≡ q → ⊥) → xor (flips o x l) (cond (eqb l q) b (bit x l)) ≡ cond (eqb l q) b (xor (flips o x l) (bit x l))
    go l (inl e) =
        ap₂ (λ f t. xor f (cond t b (bit x l))) (flips_unwritten o x l (ap (has (writes o)) e ∙ unwritten)) (eq-eqb l q e)
        ∙ false_xor b
        ∙ ap (λ t. cond t b (xor (flips o x l) (bit x l))) (sym (eq-eqb l q e))
    go l (inr d) =
        ap (λ t. xor (flips o x l) (cond t b (bit x l))) (ne_eqb l q d) ∙ ap (λ t. cond t b (xor (flips o x l) (bit x l))) (sym (ne_eqb l q d))

h_move : (q : ℕ) (o : Op) (k : Word → Cyclotomic) (x : Word) → Moves o → has (reads o) q ≡ false → has (writes o) q ≡ false → q < length x → OpFitsIn o (length x)
    → step (H q) (λ v. step o k v) x ≡ step o (λ v. step (H q) k v) x
h_move q o k x mo unread unwritten hq fo =
    ap₂ (λ u v. plus u (times_w_power (cond (bit x q) 4 0) v)) (at false) (at true)
    ∙ ap (plus (times_w_power (phase_of o x) (k (set (goes_to o x) q false)))) (turns_comm (cond (bit x q) 4 0) (phase_of o x) (k (set (goes_to o x) q true)))
    ∙ sym (times_w_power-add (phase_of o x) (k (set (goes_to o x) q false)) (times_w_power (cond (bit x q) 4 0) (k (set (goes_to o x) q true))))
    ∙ ap (λ b. times_w_power (phase_of o x) (plus (k (set (goes_to o x) q false)) (times_w_power (cond b 4 0) (k (set (goes_to o x) q true))))) (sym same)
    ∙ sym (mo.steps (λ v. step (H q) k v) x)
  where
    same : bit (goes_to o x) q ≡ bit x q
    same = goes-bit o x q fo ∙ ap (λ f. xor f (bit x q)) (flips_unwritten o x q unwritten) ∙ false_xor (bit x q)

    at : (b : Bool) → step o k (set x q b) ≡ times_w_power (phase_of o x) (k (set (goes_to o x) q b))
    at b =
        mo.steps k (set x q b)
        ∙ ap₂ (λ n y. times_w_power n (k y)) (phase_agrees o (set x q b) x (agree_set o x q b unread)) (set_moved o x q b hq fo unread unwritten)

-- ---- two H

two_h : (p q : ℕ) (k : Word → Cyclotomic) (x : Word) → p ≢ q → step (H p) (λ v. step (H q) k v) x ≡ step (H q) (λ v. step (H p) k v) x
two_h p q k x apart =
    ap₂ (λ s t. plus (plus (k (w false false)) (times_w_power s (k (w false true)))) (times_w_power (cond (bit x p) 4 0) (plus (k (w true false)) (times_w_power t (k (w true true))))))
    (ap (λ b. cond {A = ℕ} b 4 0) (get_or-set_other x p q false false (λ e. apart (sym e))))
    (ap (λ b. cond {A = ℕ} b 4 0) (get_or-set_other x p q true false (λ e. apart (sym e))))
    ∙ ap (plus (plus (k (w false false)) (times_w_power m (k (w false true))))) (times_w_power-add n _ _ ∙ ap (plus (times_w_power n (k (w true false)))) (turns_comm n m _))
    ∙ plus_swap (k (w false false)) (times_w_power m (k (w false true))) (times_w_power n (k (w true false))) (times_w_power m (times_w_power n (k (w true true))))
    ∙ ap (plus (plus (k (w false false)) (times_w_power n (k (w true false))))) (sym (times_w_power-add m (k (w false true)) (times_w_power n (k (w true true)))))
    ∙ back
  where
    w : Bool → Bool → Word
    w a b = set (set x p a) q b

    m : ℕ
    m = cond (bit x q) 4 0

    n : ℕ
    n = cond (bit x p) 4 0

    turned : (a b : Bool) → set (set x p a) q b ≡ set (set x q b) p a
    turned a b = set_comm x p q a b apart

    back : plus (plus (k (w false false)) (times_w_power n (k (w true false)))) (times_w_power m (plus (k (w false true)) (times_w_power n (k (w true true)))))
        ≡ step (H q) (λ v. step (H p) k v) x
    back =
        (λ i. plus (plus (k (turned false false i)) (times_w_power n (k (turned true false i)))) (times_w_power m (plus (k (turned false true i)) (times_w_power n (k (turned true true i))))))
        ∙ ap₂ (λ s t. plus (plus (k (set (set x q false) p false)) (times_w_power s (k (set (set x q false) p true)))) (times_w_power m (plus (k (set (set x q true) p false)) (times_w_power t (k (set (set x q true) p true))))))
        (ap (λ b. cond {A = ℕ} b 4 0) (sym (get_or-set_other x q p false false apart)))
        (ap (λ b. cond {A = ℕ} b 4 0) (sym (get_or-set_other x q p true false apart)))

-- ---- the law

other_line : (p q : ℕ) → has (2 ^ q) p ≡ false → p ≢ q
other_line p q off e = both (sym (ap (has (2 ^ q)) e ∙ has_self q) ∙ off)
  where
    both : true ≡ false → ⊥
    both h = cc

h_first : (q : ℕ) (o : Op) (k : Word → Cyclotomic) (x : Word) → commute (H q) o ≡ true → q < length x → OpFitsIn o (length x)
    → step (H q) (λ v. step o k v) x ≡ step o (λ v. step (H q) k v) x
h_first q o k x h hq fo =
    let apart = apart_from (H q) o h in
    elim (kind o) [
      | inr mo ↦ h_move q o k x mo (apart.unread q (has_self q)) (apart.unwritten q (has_self q)) hq fo
      | inl ho ↦
          (let none : has (writes (H ho.0)) q ≡ false = ap (λ a. has (writes a) q) (sym ho.1) ∙ apart.unwritten q (has_self q) in
          subst (λ (a : Op). step (H q) (λ v. step a k v) x ≡ step a (λ v. step (H q) k v) x) (sym ho.1) (two_h q ho.0 k x (other_line q ho.0 none)))
    ]

pub passing : (p o : Op) (k : Word → Cyclotomic) (x : Word) → commute p o ≡ true → OpFitsIn p (length x) → OpFitsIn o (length x)
    → step p (λ v. step o k v) x ≡ step o (λ v. step p k v) x
passing p o k x h fp fo = grind (arith, apart_from, kind, h_first, two_moves, h_move, has_self)
