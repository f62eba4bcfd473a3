-- Products side by side: each slot's product passes an operation.
use Rattle.std.proofs.Common.{arith}
use Rattle.std.proofs.Common.{◌≡◌, ℕ, ◌<◌, Bool, true, false, not, ◌&&◌, ◌||◌, List, length, map, get_or, set, refl, sym, ap, ap₂, ◌∙◌, subst, length-set}
use Rattle.std.specs.Prelude.{bit_and, bit_or, bit_xor}
use Rattle.std.proofs.lemmas.Bool.{and_parts, not-true}
use Rattle.std.proofs.lemmas.List.{get_or-map, map-set}
use Rattle.rv_gate.specs.Gate.{xor}
use Rattle.rv_gate.specs.Word.{has}
use Rattle.rv_gate.proofs.LineSets.{has-and, has-or, has-xor}
use Rattle.rv_net.specs.declared.op.Op.{Op}
use Rattle.rv_net.specs.declared.op.Op.TheVariants.{X, Y, Z, H, S, Sdg, T, Tdg, Cx, Cz, Ccx, Swap, Cswap}
use Rattle.rv_net.specs.Op.{OpFitsIn}
use Rattle.rv_turns.specs.inside.Pauli.{Pauli, passed, stops}
use Rattle.rv_turns.specs.inside.Slots.{Slots, pauli_at, passed_slots}
use Rattle.rv_turns.specs.inside.Without.{without}
use Rattle.rv_turns.proofs.inside.Bits.{same_bits}

pub same_pauli : (p r : Pauli) → p.quarter ≡ r.quarter → p.half ≡ r.half → p.flips ≡ r.flips → p.signs ≡ r.signs → p ≡ r
same_pauli p r a b c d = λ i. record { quarter = a i; half = b i; flips = c i; signs = d i }

pub has-without : (a b i : ℕ) → has (without a b) i ≡ (has a i && not (has b i))
has-without a b i = grind (arith, has-xor, bit_and, has-and, same_bits)

-- the bits of one slot on all lines
abbrev pub bits : ℕ → List ℕ → List Bool
bits i ws = map (λ w. has w i) ws

pub bit-bits : (ws : List ℕ) (q i : ℕ) → q < length ws → get_or (bits i ws) q false ≡ has (get_or ws q 0) i
bit-bits ws q i h = get_or-map (λ w. has w i) ws q 0 false h

bits-set : (ws : List ℕ) (q i a : ℕ) (b : Bool) → has a i ≡ b → bits i (set ws q a) ≡ set (bits i ws) q b
bits-set ws q i a b e = map-set (λ w. has w i) ws q a ∙ ap (set (bits i ws) q) e

xor_bits : (a b i : ℕ) (c d : Bool) → has a i ≡ c → has b i ≡ d → has (bit_xor a b) i ≡ xor c d
xor_bits a b i c d e f = has-xor a b i ∙ ap₂ xor e f

and_bits : (a b i : ℕ) (c d : Bool) → has a i ≡ c → has b i ≡ d → has (bit_and a b) i ≡ (c && d)
and_bits a b i c d e f = has-and a b i ∙ ap₂ (λ x y. x && y) e f

or_bits : (a b i : ℕ) (c d : Bool) → has a i ≡ c → has b i ≡ d → has (bit_or a b) i ≡ (c || d)
or_bits a b i c d e f = has-or a b i ∙ ap₂ (λ x y. x || y) e f

live_parts : (a b i : ℕ) (c : Bool) → has b i ≡ c → has (without a b) i ≡ true → (has a i ≡ true) × (c ≡ false)
live_parts a b i c e h = grind (arith, and_parts, has-without, not-true)

module _ (n : ℕ) (s : Slots) (i : ℕ) (on_flips : length s.flips ≡ n) (on_signs : length s.signs ≡ n) where
  x : (q : ℕ) → q < n → has (get_or s.flips q 0) i ≡ get_or (bits i s.flips) q false
  x q h = sym (bit-bits s.flips q i (subst (λ m. q < m) (sym on_flips) h))

  z : (q : ℕ) → q < n → has (get_or s.signs q 0) i ≡ get_or (bits i s.signs) q false
  z q h = sym (bit-bits s.signs q i (subst (λ m. q < m) (sym on_signs) h))

  pub passed_bits : (o : Op) → OpFitsIn o n → pauli_at (passed_slots o s) i ≡ passed o (pauli_at s i)
  passed_bits (X q) f = same_pauli _ _ refl (xor_bits _ _ i _ _ refl (z q f)) refl refl
  passed_bits (Y q) f = same_pauli _ _ refl (xor_bits _ _ i _ _ refl (xor_bits _ _ i _ _ (x q f) (z q f))) refl refl
  passed_bits (Z q) f = same_pauli _ _ refl (xor_bits _ _ i _ _ refl (x q f)) refl refl
  passed_bits (H q) f =
      same_pauli _ _ refl
      (xor_bits _ _ i _ _ refl (and_bits _ _ i _ _ (x q f) (z q f)))
      (bits-set s.flips q i _ _ (z q f))
      (bits-set s.signs q i _ _ (x q f))
  passed_bits (S q) f =
      same_pauli _ _
      (xor_bits _ _ i _ _ refl (x q f))
      (xor_bits _ _ i _ _ refl (and_bits _ _ i _ _ refl (x q f)))
      refl
      (bits-set s.signs q i _ _ (xor_bits _ _ i _ _ (z q f) (x q f)))
  passed_bits (Sdg q) f =
      same_pauli _ _
      (xor_bits _ _ i _ _ refl (x q f))
      (xor_bits _ _ i _ _ refl (xor_bits _ _ i _ _ (x q f) (and_bits _ _ i _ _ refl (x q f))))
      refl
      (bits-set s.signs q i _ _ (xor_bits _ _ i _ _ (z q f) (x q f)))
  passed_bits (Cx a b) f =
      same_pauli _ _ refl refl
      (bits-set s.flips b i _ _ (xor_bits _ _ i _ _ (x b f.1) (x a f.0)))
      (bits-set s.signs a i _ _ (xor_bits _ _ i _ _ (z a f.0) (z b f.1)))
  passed_bits (Cz a b) f =
      same_pauli _ _ refl
      (xor_bits _ _ i _ _ refl (and_bits _ _ i _ _ (x a f.0) (x b f.1)))
      refl
      (bits-set _ b i _ _ (xor_bits _ _ i _ _ (z b f.1) (x a f.0)) ∙ ap (λ l. set l b (xor (get_or (bits i s.signs) b false) (get_or (bits i s.flips) a false))) (bits-set s.signs a i _ _ (xor_bits _ _ i _ _ (z a f.0) (x b f.1))))
  passed_bits (Swap a b) f =
      same_pauli _ _ refl refl
      (bits-set _ b i _ _ (x a f.0) ∙ ap (λ l. set l b (get_or (bits i s.flips) a false)) (bits-set s.flips a i _ _ (x b f.1)))
      (bits-set _ b i _ _ (z a f.0) ∙ ap (λ l. set l b (get_or (bits i s.signs) a false)) (bits-set s.signs a i _ _ (z b f.1)))
  passed_bits (T q) f = refl
  passed_bits (Tdg q) f = refl
  passed_bits (Ccx a b c) f = refl
  passed_bits (Cswap c a b) f = refl

  pub live_bits : (o : Op) → OpFitsIn o n → has (passed_slots o s).live i ≡ true → (has s.live i ≡ true) × (stops o (pauli_at s i) ≡ false)
  live_bits (X q) f h = (h, refl)
  live_bits (Y q) f h = (h, refl)
  live_bits (Z q) f h = (h, refl)
  live_bits (H q) f h = (h, refl)
  live_bits (S q) f h = (h, refl)
  live_bits (Sdg q) f h = (h, refl)
  live_bits (Cx a b) f h = (h, refl)
  live_bits (Cz a b) f h = (h, refl)
  live_bits (Swap a b) f h = (h, refl)
  live_bits (T q) f h = live_parts _ _ i _ (x q f) h
  live_bits (Tdg q) f h = live_parts _ _ i _ (x q f) h
  live_bits (Ccx a b c) f h = live_parts _ _ i _ (or_bits _ _ i _ _ (or_bits _ _ i _ _ (x a f.0) (x b f.1)) (z c f.2)) h
  live_bits (Cswap c a b) f h =
      live_parts _ _ i _
      (or_bits _ _ i _ _ (or_bits _ _ i _ _ (x c f.0) (xor_bits _ _ i _ _ (x a f.1) (x b f.2))) (xor_bits _ _ i _ _ (z a f.1) (z b f.2))) h

pub length-passed_flips : (o : Op) (s : Slots) → length (passed_slots o s).flips ≡ length s.flips
length-passed_flips o s = grind (arith, length-set)
