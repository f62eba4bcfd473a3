-- Products of Pauli operators pass operations.
use Rattle.std.proofs.Common.{arith}
use Rattle.std.proofs.Common.{◌≡◌, ◌≢◌, ℕ, ◌+◌, ◌%◌, ◌<◌, Bool, true, false, cond, not, ◌&&◌, ◌||◌, eqb, length, set, refl, sym, ap, ap₂, ◌∙◌, subst, length-set, get_or-set_same, get_or-set_other, set-set}
use Rattle.std.proofs.lemmas.Bool.{eqb-true, or_parts}
use Rattle.std.proofs.lemmas.List.{set_comm}
use Rattle.rv_gate.specs.Gate.{xor}
use Rattle.rv_net.specs.declared.op.Op.{Op}
use Rattle.rv_net.specs.declared.op.Op.TheVariants.{X, Y, Z, H, S, Sdg, T, Tdg, Cx, Cz, Ccx, Swap, Cswap}
use Rattle.rv_net.specs.Cyclotomic.{Cyclotomic, plus, times_w_power}
use Rattle.rv_net.specs.Op.{OpFitsIn}
use Rattle.rv_net.proofs.Step.{Word, bit, step}
use Rattle.rv_net.proofs.Cyclotomic.{plus_comm, times_w_power-add}
use Rattle.rv_fold.proofs.Turning.{turns_add, turns_mod}
use Rattle.rv_turns.specs.inside.Pauli.{Pauli, IsOn, flipped, overlap, passed, stops}
use Rattle.rv_turns.proofs.inside.Bits.{at3, at6, at9, alike, same_bits, bit-flipped, flipped-word, flipped-flips, overlap-word, overlap-signs}

-- ---- what a product does before what follows

abbrev pub ex : Bool → Bool → Bool → ℕ
ex i h d = cond i 2 0 + (cond h 4 0 + cond d 4 0)

abbrev pub before : Pauli → (Word → Cyclotomic) → Word → Cyclotomic
before p k v = times_w_power (ex p.quarter p.half (overlap p.signs v)) (k (flipped p.flips v))

-- ---- powers of w that are the same

same_turn : (p q : ℕ) (u : Cyclotomic) → eqb (p % 8) (q % 8) ≡ true → times_w_power p u ≡ times_w_power q u
same_turn p q u h = sym (turns_mod p u) ∙ ap (λ n. times_w_power n u) (eqb-true _ _ h) ∙ turns_mod q u

pub two_one : (p q r : ℕ) (u : Cyclotomic) → eqb ((p + q) % 8) (r % 8) ≡ true → times_w_power p (times_w_power q u) ≡ times_w_power r u
two_one p q r u h = turns_add p q u ∙ same_turn _ _ u h

plain : (p q r s : ℕ) (u t : Cyclotomic) → eqb ((p + q) % 8) ((r + s) % 8) ≡ true → u ≡ t → times_w_power p (times_w_power q u) ≡ times_w_power r (times_w_power s t)
plain p q r s u t h e = turns_add p q u ∙ same_turn _ _ u h ∙ sym (turns_add r s u) ∙ ap (λ l. times_w_power r (times_w_power s l)) e

hadamard : (i h d x z v : Bool) (f : Bool → Cyclotomic) → times_w_power (ex i h d) (plus (f false) (times_w_power (cond (xor x v) 4 0) (f true))) ≡ plus (times_w_power (ex i (xor h (x && z)) (xor (xor d (z && xor v false)) (xor z x && false))) (f (xor z false))) (times_w_power (cond v 4 0) (times_w_power (ex i (xor h (x && z)) (xor (xor d (z && xor v true)) (xor z x && true))) (f (xor z true))))
hadamard i h d x false v f =
    times_w_power-add _ _ _
    ∙ ap₂ plus
    (same_turn _ _ _ (at6 (λ i h d x v o. eqb (ex i h d % 8) (ex i (xor h (x && false)) (xor (xor d (false && xor v false)) (xor false x && false)) % 8)) refl i h d x v true))
    (plain _ _ _ _ _ _ (at6 (λ i h d x v o. eqb ((ex i h d + cond (xor x v) 4 0) % 8) ((cond v 4 0 + ex i (xor h (x && false)) (xor (xor d (false && xor v true)) (xor false x && true))) % 8)) refl i h d x v true) refl)
hadamard i h d x true v f =
    times_w_power-add _ _ _
    ∙ plus_comm _ _
    ∙ ap₂ plus
    (two_one _ _ _ _ (at6 (λ i h d x v o. eqb ((ex i h d + cond (xor x v) 4 0) % 8) (ex i (xor h (x && true)) (xor (xor d (true && xor v false)) (xor true x && false)) % 8)) refl i h d x v true))
    (sym (two_one _ _ _ _ (at6 (λ i h d x v o. eqb ((cond v 4 0 + ex i (xor h (x && true)) (xor (xor d (true && xor v true)) (xor true x && true))) % 8) (ex i h d % 8)) refl i h d x v true)))

-- ---- words

no_xor : (a b : Bool) → xor a b ≡ false → a ≡ b
no_xor a b h = grind arith

set_again : (f : Word) (a b : ℕ) (p q r s : Bool) → a ≢ b → set (set (set (set f a p) b q) a r) b s ≡ set (set f a r) b s
set_again f a b p q r s ne = grind (arith, set_comm, set-set)

-- ---- one operation

module _ (i h : Bool) (x z v : Word) (k : Word → Cyclotomic) where
  abbrev product : Pauli
  product = record { quarter = i; half = h; flips = x; signs = z }

  abbrev Pass : Op → Type 0
  Pass o = before product (step o k) v ≡ step o (before (passed o product) k) v

  pass_x : (q : ℕ) → q < length v → Pass (X q)
  pass_x q lv =
      rw (bit-flipped x v q lv, overlap-word z v q (not (bit v q)) lv, flipped-word x v q (not (bit v q)))
      (plain _ _ _ _ _ _
      (at6 (λ i h d x z v. eqb ((ex i h d + 0) % 8) ((0 + ex i (xor h z) (xor d (z && xor v (not v)))) % 8)) refl i h (overlap z v) (bit x q) (bit z q) (bit v q))
      (ap (λ t. k (set (flipped x v) q t)) (same_bits _ _ (at3 (λ x v o. alike (not (xor x v)) (xor x (not v))) refl (bit x q) (bit v q) true))))

  pass_y : (q : ℕ) → q < length v → Pass (Y q)
  pass_y q lv =
      rw (bit-flipped x v q lv, overlap-word z v q (not (bit v q)) lv, flipped-word x v q (not (bit v q)))
      (plain _ _ _ _ _ _
      (at6 (λ i h d x z v. eqb ((ex i h d + cond (xor x v) 6 2) % 8) ((cond v 6 2 + ex i (xor h (xor x z)) (xor d (z && xor v (not v)))) % 8)) refl i h (overlap z v) (bit x q) (bit z q) (bit v q))
      (ap (λ t. k (set (flipped x v) q t)) (same_bits _ _ (at3 (λ x v o. alike (not (xor x v)) (xor x (not v))) refl (bit x q) (bit v q) true))))

  pass_z : (q : ℕ) → q < length v → Pass (Z q)
  pass_z q lv =
      rw (bit-flipped x v q lv)
      (plain _ _ _ _ _ _
      (at6 (λ i h d x v o. eqb ((ex i h d + cond (xor x v) 4 0) % 8) ((cond v 4 0 + ex i (xor h x) d) % 8)) refl i h (overlap z v) (bit x q) (bit v q) true)
      refl)

  pass_s : (q : ℕ) → q < length v → q < length z → Pass (S q)
  pass_s q lv lz =
      rw (bit-flipped x v q lv, overlap-signs z v q (xor (bit z q) (bit x q)) lz)
      (plain _ _ _ _ _ _
      (at6 (λ i h d x z v. eqb ((ex i h d + cond (xor x v) 2 0) % 8) ((cond v 2 0 + ex (xor i x) (xor h (i && x)) (xor d (xor z (xor z x) && v))) % 8)) refl i h (overlap z v) (bit x q) (bit z q) (bit v q))
      refl)

  pass_sdg : (q : ℕ) → q < length v → q < length z → Pass (Sdg q)
  pass_sdg q lv lz =
      rw (bit-flipped x v q lv, overlap-signs z v q (xor (bit z q) (bit x q)) lz)
      (plain _ _ _ _ _ _
      (at6 (λ i h d x z v. eqb ((ex i h d + cond (xor x v) 6 0) % 8) ((cond v 6 0 + ex (xor i x) (xor h (xor x (i && x))) (xor d (xor z (xor z x) && v))) % 8)) refl i h (overlap z v) (bit x q) (bit z q) (bit v q))
      refl)

  pass_t : (q : ℕ) → q < length v → bit x q ≡ false → Pass (T q)
  pass_t q lv e =
      rw (bit-flipped x v q lv, e)
      (plain _ _ _ _ _ _
      (at6 (λ i h d v o m. eqb ((ex i h d + cond (xor false v) 1 0) % 8) ((cond v 1 0 + ex i h d) % 8)) refl i h (overlap z v) (bit v q) true true)
      refl)

  pass_tdg : (q : ℕ) → q < length v → bit x q ≡ false → Pass (Tdg q)
  pass_tdg q lv e =
      rw (bit-flipped x v q lv, e)
      (plain _ _ _ _ _ _
      (at6 (λ i h d v o m. eqb ((ex i h d + cond (xor false v) 7 0) % 8) ((cond v 7 0 + ex i h d) % 8)) refl i h (overlap z v) (bit v q) true true)
      refl)

  -- the word that is flipped by changed flips
  flipped-both : (q : ℕ) (c d : Bool) → q < length v → q < length x → flipped (set x q c) (set v q d) ≡ set (flipped x v) q (xor c d)
  flipped-both q c d lv lx =
      flipped-flips x (set v q d) q c lx
      ∙ ap (λ b. set (flipped x (set v q d)) q (xor c b)) (get_or-set_same v q d false lv)
      ∙ ap (λ l. set l q (xor c d)) (flipped-word x v q d)
      ∙ set-set (flipped x v) q (xor (bit x q) d) (xor c d)

  overlap-both : (q : ℕ) (c d : Bool) → q < length v → q < length z → overlap (set z q c) (set v q d) ≡ xor (xor (overlap z v) (bit z q && xor (bit v q) d)) (xor (bit z q) c && d)
  overlap-both q c d lv lz =
      overlap-signs z (set v q d) q c lz
      ∙ ap₂ (λ a b. xor a (xor (bit z q) c && b)) (overlap-word z v q d lv) (get_or-set_same v q d false lv)

  pass_h : (q : ℕ) → q < length v → q < length x → q < length z → Pass (H q)
  pass_h q lv lx lz =
      rw (bit-flipped x v q lv, flipped-both q (bit z q) false lv lx, flipped-both q (bit z q) true lv lx, overlap-both q (bit x q) false lv lz, overlap-both q (bit x q) true lv lz)
      (hadamard i h (overlap z v) (bit x q) (bit z q) (bit v q) (λ b. k (set (flipped x v) q b)))

  pass_cx : (a b : ℕ) → a < length v → b < length v → b < length x → a < length z → a ≢ b → Pass (Cx a b)
  pass_cx a b la lb lx lz ne =
      rw (bit-flipped x v a la, bit-flipped x v b lb, flipped-both b (xor (bit x b) (bit x a)) (xor (bit v a) (bit v b)) lb lx, overlap-signs z (set v b (xor (bit v a) (bit v b))) a (xor (bit z a) (bit z b)) lz, overlap-word z v b (xor (bit v a) (bit v b)) lb, get_or-set_other v b a (xor (bit v a) (bit v b)) false ne)
      (plain _ _ _ _ _ _
      (at9 (λ i h d r s v w o m. eqb ((ex i h d + 0) % 8) ((0 + ex i h (xor (xor d (s && xor w (xor v w))) (xor r (xor r s) && v))) % 8)) refl i h (overlap z v) (bit z a) (bit z b) (bit v a) (bit v b) true true)
      (ap (λ t. k (set (flipped x v) b t)) (same_bits _ _ (at6 (λ x y v w o m. alike (xor (xor x v) (xor y w)) (xor (xor y x) (xor v w))) refl (bit x a) (bit x b) (bit v a) (bit v b) true true))))

  pass_cz : (a b : ℕ) → a < length v → b < length v → a < length z → b < length z → a ≢ b → Pass (Cz a b)
  pass_cz a b la lb za zb ne =
      rw (bit-flipped x v a la, bit-flipped x v b lb, overlap-signs (set z a (xor (bit z a) (bit x b))) v b (xor (bit z b) (bit x a)) (subst (λ n. b < n) (sym (length-set z a _)) zb), get_or-set_other z a b (xor (bit z a) (bit x b)) false (λ e. ne (sym e)), overlap-signs z v a (xor (bit z a) (bit x b)) za)
      (plain _ _ _ _ _ _
      (at9 (λ i h d x y r s v w. eqb ((ex i h d + cond (xor x v && xor y w) 4 0) % 8) ((cond (v && w) 4 0 + ex i (xor h (x && y)) (xor (xor d (xor r (xor r y) && v)) (xor s (xor s x) && w))) % 8)) refl i h (overlap z v) (bit x a) (bit x b) (bit z a) (bit z b) (bit v a) (bit v b))
      refl)

  pass_ccx : (a b c : ℕ) → a < length v → b < length v → c < length v → bit x a ≡ false → bit x b ≡ false → bit z c ≡ false → Pass (Ccx a b c)
  pass_ccx a b c la lb lc ea eb ec =
      rw (bit-flipped x v a la, bit-flipped x v b lb, bit-flipped x v c lc, overlap-word z v c (xor (bit v a && bit v b) (bit v c)) lc, flipped-word x v c (xor (bit v a && bit v b) (bit v c)), ea, eb, ec)
      (plain _ _ _ _ _ _
      (at3 (λ i h d. eqb ((ex i h d + 0) % 8) ((0 + ex i h (xor d (false && true))) % 8)) refl i h (overlap z v))
      (ap (λ t. k (set (flipped x v) c t)) (same_bits _ _ (at6 (λ x u v w o m. alike (xor (xor false u && xor false v) (xor x w)) (xor x (xor (u && v) w))) refl (bit x c) (bit v a) (bit v b) (bit v c) true true))))

  -- two lines of the word are set
  module _ (a b : ℕ) (ne : a ≢ b) (la : a < length v) (lb : b < length v) (c d : Bool) where
    flipped-two : flipped x (set (set v a c) b d) ≡ set (set (flipped x v) a (xor (bit x a) c)) b (xor (bit x b) d)
    flipped-two = flipped-word x (set v a c) b d ∙ ap (λ l. set l b (xor (bit x b) d)) (flipped-word x v a c)

    overlap-two : overlap z (set (set v a c) b d) ≡ xor (xor (overlap z v) (bit z a && xor (bit v a) c)) (bit z b && xor (bit v b) d)
    overlap-two =
        overlap-word z (set v a c) b d (subst (λ n. b < n) (sym (length-set v a c)) lb)
        ∙ ap₂ (λ p q. xor p (bit z b && xor q d)) (overlap-word z v a c la) (get_or-set_other v a b c false (λ e. ne (sym e)))

    first-two : bit (set (set v a c) b d) a ≡ c
    first-two = get_or-set_other (set v a c) b a d false ne ∙ get_or-set_same v a c false la

    second-two : bit (set (set v a c) b d) b ≡ d
    second-two = get_or-set_same (set v a c) b d false (subst (λ n. b < n) (sym (length-set v a c)) lb)

  pass_swap : (a b : ℕ) → a < length v → b < length v → a < length x → b < length x → a < length z → b < length z → a ≢ b → Pass (Swap a b)
  pass_swap a b la lb xa xb za zb ne =
      rw (bit-flipped x v a la, bit-flipped x v b lb, word, signs)
      (plain _ _ _ _ _ _
      (at9 (λ i h d r s v w o m. eqb ((ex i h d + 0) % 8) ((0 + ex i h (xor (xor (xor (xor d (r && xor v w)) (s && xor w v)) (xor r s && w)) (xor s r && v))) % 8)) refl i h (overlap z v) (bit z a) (bit z b) (bit v a) (bit v b) true true)
      refl)
    where
      word : flipped (set (set x a (bit x b)) b (bit x a)) (set (set v a (bit v b)) b (bit v a)) ≡ set (set (flipped x v) a (xor (bit x b) (bit v b))) b (xor (bit x a) (bit v a))
      word =
          flipped-flips (set x a (bit x b)) (set (set v a (bit v b)) b (bit v a)) b (bit x a) (subst (λ n. b < n) (sym (length-set x a (bit x b))) xb)
          ∙ ap₂ (λ l t. set l b (xor (bit x a) t))
          (flipped-flips x (set (set v a (bit v b)) b (bit v a)) a (bit x b) xa
          ∙ ap₂ (λ l t. set l a (xor (bit x b) t)) (flipped-two a b ne la lb (bit v b) (bit v a)) (first-two a b ne la lb (bit v b) (bit v a)))
          (second-two a b ne la lb (bit v b) (bit v a))
          ∙ set_again (flipped x v) a b _ _ _ _ ne

      signs : overlap (set (set z a (bit z b)) b (bit z a)) (set (set v a (bit v b)) b (bit v a)) ≡ xor (xor (xor (xor (overlap z v) (bit z a && xor (bit v a) (bit v b))) (bit z b && xor (bit v b) (bit v a))) (xor (bit z a) (bit z b) && bit v b)) (xor (bit z b) (bit z a) && bit v a)
      signs =
          overlap-signs (set z a (bit z b)) (set (set v a (bit v b)) b (bit v a)) b (bit z a) (subst (λ n. b < n) (sym (length-set z a (bit z b))) zb)
          ∙ ap₂ (λ l t. xor l (xor t (bit z a) && bit (set (set v a (bit v b)) b (bit v a)) b))
          (overlap-signs z (set (set v a (bit v b)) b (bit v a)) a (bit z b) za
          ∙ ap₂ (λ l t. xor l (xor (bit z a) (bit z b) && t)) (overlap-two a b ne la lb (bit v b) (bit v a)) (first-two a b ne la lb (bit v b) (bit v a)))
          (get_or-set_other z a b (bit z b) false (λ e. ne (sym e)))
          ∙ ap (λ t. xor (xor (xor (xor (overlap z v) (bit z a && xor (bit v a) (bit v b))) (bit z b && xor (bit v b) (bit v a))) (xor (bit z a) (bit z b) && bit v b)) (xor (bit z b) (bit z a) && t)) (second-two a b ne la lb (bit v b) (bit v a))

  pass_cswap : (c a b : ℕ) → c < length v → a < length v → b < length v → a ≢ b → bit x c ≡ false → bit x a ≡ bit x b → bit z a ≡ bit z b → Pass (Cswap c a b)
  pass_cswap c a b lc la lb ne ec ex_is ez =
      rw (bit-flipped x v c lc, bit-flipped x v a la, bit-flipped x v b lb, flipped-two a b ne la lb (cond (bit v c) (bit v b) (bit v a)) (cond (bit v c) (bit v a) (bit v b)), overlap-two a b ne la lb (cond (bit v c) (bit v b) (bit v a)) (cond (bit v c) (bit v a) (bit v b)), ec, ex_is, ez)
      (plain _ _ _ _ _ _
      (at9 (λ i h d s u v w o m. eqb ((ex i h d + 0) % 8) ((0 + ex i h (xor (xor d (s && xor v (cond u w v))) (s && xor w (cond u v w)))) % 8)) refl i h (overlap z v) (bit z b) (bit v c) (bit v a) (bit v b) true true)
      (ap₂ (λ p q. k (set (set (flipped x v) a p) b q))
      (same_bits _ _ (at6 (λ y u v w o m. alike (cond (xor false u) (xor y w) (xor y v)) (xor y (cond u w v))) refl (bit x b) (bit v c) (bit v a) (bit v b) true true))
      (same_bits _ _ (at6 (λ y u v w o m. alike (cond (xor false u) (xor y v) (xor y w)) (xor y (cond u v w))) refl (bit x b) (bit v c) (bit v a) (bit v b) true true))))

-- an operation that does not stop the product lets it pass, on words of n bits
pub passes : (n : ℕ) (o : Op) (p : Pauli) (k : Word → Cyclotomic) (v : Word) → OpFitsIn o n → IsOn n p → length v ≡ n → stops o p ≡ false → before p (step o k) v ≡ step o (before (passed o p) k) v
passes n o p k v fits on e free = go o fits free
  where
    on_v : (q : ℕ) → q < n → q < length v
    on_v q h = subst (λ m. q < m) (sym e) h

    on_x : (q : ℕ) → q < n → q < length p.flips
    on_x q h = subst (λ m. q < m) (sym on.flips) h

    on_z : (q : ℕ) → q < n → q < length p.signs
    on_z q h = subst (λ m. q < m) (sym on.signs) h

    go : (o : Op) → OpFitsIn o n → stops o p ≡ false → before p (step o k) v ≡ step o (before (passed o p) k) v
    go (X q) f s = pass_x p.quarter p.half p.flips p.signs v k q (on_v q f)
    go (Y q) f s = pass_y p.quarter p.half p.flips p.signs v k q (on_v q f)
    go (Z q) f s = pass_z p.quarter p.half p.flips p.signs v k q (on_v q f)
    go (H q) f s = pass_h p.quarter p.half p.flips p.signs v k q (on_v q f) (on_x q f) (on_z q f)
    go (S q) f s = pass_s p.quarter p.half p.flips p.signs v k q (on_v q f) (on_z q f)
    go (Sdg q) f s = pass_sdg p.quarter p.half p.flips p.signs v k q (on_v q f) (on_z q f)
    go (T q) f s = pass_t p.quarter p.half p.flips p.signs v k q (on_v q f) s
    go (Tdg q) f s = pass_tdg p.quarter p.half p.flips p.signs v k q (on_v q f) s
    go (Cx a b) f s = pass_cx p.quarter p.half p.flips p.signs v k a b (on_v a f.0) (on_v b f.1) (on_x b f.1) (on_z a f.0) f.2
    go (Cz a b) f s = pass_cz p.quarter p.half p.flips p.signs v k a b (on_v a f.0) (on_v b f.1) (on_z a f.0) (on_z b f.1) f.2
    go (Swap a b) f s = pass_swap p.quarter p.half p.flips p.signs v k a b (on_v a f.0) (on_v b f.1) (on_x a f.0) (on_x b f.1) (on_z a f.0) (on_z b f.1) f.2
    go (Ccx a b c) f s =
        let two = or_parts (bit p.flips a || bit p.flips b) (bit p.signs c) s in
        let one = or_parts (bit p.flips a) (bit p.flips b) two.0 in
        pass_ccx p.quarter p.half p.flips p.signs v k a b c (on_v a f.0) (on_v b f.1) (on_v c f.2) one.0 one.1 two.1
    go (Cswap c a b) f s =
        let two = or_parts (bit p.flips c || xor (bit p.flips a) (bit p.flips b)) (xor (bit p.signs a) (bit p.signs b)) s in
        let one = or_parts (bit p.flips c) (xor (bit p.flips a) (bit p.flips b)) two.0 in
        pass_cswap p.quarter p.half p.flips p.signs v k c a b (on_v c f.0) (on_v a f.1) (on_v b f.2) f.5 one.0 (no_xor _ _ one.1) (no_xor _ _ two.1)
