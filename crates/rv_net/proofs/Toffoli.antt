-- The fifteen operations of a flip with two controls.
use Rattle.std.proofs.Common.{◌≡◌, ◌≢◌, ℕ, zero, suc, ◌<◌, Bool, true, false, ◌&&◌, List, [], ◌∷◌, map, length, get_or, set, refl, sym, ap, ◌∙◌, arith, not-suc-le-zero}
use Rattle.std.proofs.lemmas.List.{set_comm, set-get_or}
use Rattle.std.proofs.lemmas.Int.{ints}
use Rattle.rv_gate.specs.Gate.{xor}
use Rattle.rv_net.specs.declared.op.Op.{Op}
use Rattle.rv_net.specs.Cyclotomic.{Cyclotomic, plus, times_w, times_w_power}
use Rattle.rv_net.proofs.Step.{Word, bit}
use Rattle.rv_net.specs.Network.{toffoli}
use Rattle.rv_net.proofs.Cyclotomic.{same_cyclotomic}
use Rattle.rv_net.proofs.Frame.{through, puts, Apart, relabel, AllWithin, frame-through}

pub on_three : (k : Word → Cyclotomic) (a b c : Bool) → through (toffoli 0 1 2) k (a ∷ b ∷ c ∷ []) ≡ plus (k (a ∷ b ∷ xor (a && b) c ∷ [])) (k (a ∷ b ∷ xor (a && b) c ∷ []))
unfolding through toffoli plus times_w_power times_w
on_three k false false false = same_cyclotomic _ _ (omega (arith, ints)) (omega (arith, ints)) (omega (arith, ints)) (omega (arith, ints))
on_three k false false true = same_cyclotomic _ _ (omega (arith, ints)) (omega (arith, ints)) (omega (arith, ints)) (omega (arith, ints))
on_three k false true false = same_cyclotomic _ _ (omega (arith, ints)) (omega (arith, ints)) (omega (arith, ints)) (omega (arith, ints))
on_three k false true true = same_cyclotomic _ _ (omega (arith, ints)) (omega (arith, ints)) (omega (arith, ints)) (omega (arith, ints))
on_three k true false false = same_cyclotomic _ _ (omega (arith, ints)) (omega (arith, ints)) (omega (arith, ints)) (omega (arith, ints))
on_three k true false true = same_cyclotomic _ _ (omega (arith, ints)) (omega (arith, ints)) (omega (arith, ints)) (omega (arith, ints))
on_three k true true false = same_cyclotomic _ _ (omega (arith, ints)) (omega (arith, ints)) (omega (arith, ints)) (omega (arith, ints))
on_three k true true true = same_cyclotomic _ _ (omega (arith, ints)) (omega (arith, ints)) (omega (arith, ints)) (omega (arith, ints))

-- the three lines hold their own bits
pub own : (x : Word) (a b c : ℕ) → puts x (a ∷ b ∷ c ∷ []) (bit x a ∷ bit x b ∷ bit x c ∷ []) ≡ x
own x a b c = simp set-get_or

pub changed : (x : Word) (a b c : ℕ) (t : Bool) → a ≢ c → b ≢ c → puts x (a ∷ b ∷ c ∷ []) (bit x a ∷ bit x b ∷ t ∷ []) ≡ set x c t
changed x a b c t ac bc = grind (arith, set_comm, set-get_or)

pub three_apart : (a b c : ℕ) → a ≢ b → a ≢ c → b ≢ c → Apart (a ∷ b ∷ c ∷ [])
three_apart a b c ab ac bc = (first, (second, (λ i h. absurd (not-suc-le-zero h), tt)))
  where
    first : (i : ℕ) → i < 2 → get_or (b ∷ c ∷ []) i 0 ≢ a
    first zero h e = ab (sym e)
    first (suc zero) h e = ac (sym e)
    first (suc (suc i)) h e = absurd (omega arith)

    second : (i : ℕ) → i < 1 → get_or (c ∷ []) i 0 ≢ b
    second zero h e = bc (sym e)
    second (suc i) h e = absurd (omega arith)

-- a net on three lines, from its law on words of three bits
pub on_lines : (net : List Op) (k : Word → Cyclotomic) (x : Word) (a b c : ℕ) → a < length x → b < length x → c < length x → a ≢ b → a ≢ c → b ≢ c → AllWithin 3 net → through (map (relabel (a ∷ b ∷ c ∷ [])) net) k x ≡ through net (λ u. k (puts x (a ∷ b ∷ c ∷ []) u)) (bit x a ∷ bit x b ∷ bit x c ∷ [])
on_lines net k x a b c ha hb hc ab ac bc w =
    ap (through (map (relabel (a ∷ b ∷ c ∷ [])) net) k) (sym (own x a b c))
    ∙ frame-through x (a ∷ b ∷ c ∷ []) (three_apart a b c ab ac bc) (ha, (hb, (hc, tt))) net k (bit x a ∷ bit x b ∷ bit x c ∷ []) refl w

pub double : Cyclotomic → Cyclotomic
double u = plus u u

within_three : AllWithin 3 (toffoli 0 1 2)
unfolding toffoli
within_three = omega arith

same_toffoli : (a b c : ℕ) → map (relabel (a ∷ b ∷ c ∷ [])) (toffoli 0 1 2) ≡ toffoli a b c
unfolding toffoli relabel
same_toffoli a b c = refl

pub through-toffoli : (k : Word → Cyclotomic) (x : Word) (a b c : ℕ) → a < length x → b < length x → c < length x → a ≢ b → a ≢ c → b ≢ c → through (toffoli a b c) k x ≡ plus (k (set x c (xor (bit x a && bit x b) (bit x c)))) (k (set x c (xor (bit x a && bit x b) (bit x c))))
through-toffoli k x a b c ha hb hc ab ac bc =
    ap (λ net. through net k x) (sym (same_toffoli a b c))
    ∙ on_lines (toffoli 0 1 2) k x a b c ha hb hc ab ac bc within_three
    ∙ on_three (λ u. k (puts x (a ∷ b ∷ c ∷ []) u)) (bit x a) (bit x b) (bit x c)
    ∙ ap (λ v. plus (k v) (k v)) (changed x a b c (xor (bit x a && bit x b) (bit x c)) ac bc)
