-- Pieces that stand for others, one after the other.
use Rattle.std.proofs.Common.{◌≡◌, ℕ, zero, suc, ◌+◌, ◌-◌, ◌≤◌, List, [], ◌∷◌, ◌++◌, length, take, drop, refl, sym, ap, ◌∙◌, arith, subst, append_assoc}
use Rattle.std.proofs.lemmas.List.Elements.{All-append}
use Rattle.rv_net.specs.Amplitude.{amplitude}
use Rattle.rv_net.specs.Cyclotomic.{times}
use Rattle.rv_net.specs.Op.{OpFitsIn}
use Rattle.rv_net.specs.declared.op.Op.{Op}
use Rattle.rv_net.proofs.Frame.{through-local}
use Rattle.rv_net.proofs.Matrix.{amplitude_product, same_sum}
use Rattle.rv_net.proofs.inside.Network.{count_h-append}
use Rattle.rv_hadamards.proofs.Becoming.{All-left, All-right, amplitude-after}
use Rattle.rv_paths.specs.Paths.{AreSame}
use Rattle.rv_reduce.specs.StandsFor.{StandsFor}

pub itself : (n : ℕ) (ops : List Op) → StandsFor n ops ops
itself n ops = record { amplitudes = λ rest x y e. refl; hadamards = refl; fitting = λ all. all }

pub confirmed : (n : ℕ) (old new : List Op) → AreSame n old new → StandsFor n old new
confirmed n old new same = record {
  amplitudes = λ rest x y e.
      amplitude_product old rest x y
      ∙ same_sum (length x) (λ v. times (amplitude old x v) (amplitude rest v y)) (λ v. times (amplitude new x v) (amplitude rest v y))
      (λ v. ap (λ u. times u (amplitude rest v y)) (same.sums x v e))
      ∙ sym (amplitude_product new rest x y);
  hadamards = same.hadamards;
  fitting = λ all. same.fitting;
}

pub both_stand : (n : ℕ) (a b c d : List Op) → StandsFor n a c → StandsFor n b d → StandsFor n (a ++ b) (c ++ d)
both_stand n a b c d first second = record {
  amplitudes = λ rest x y e.
      ap (λ l. amplitude l x y) (append_assoc a b rest)
      ∙ first.amplitudes (b ++ rest) x y e
      ∙ amplitude-after c (b ++ rest) x y
      ∙ through-local c (λ v. amplitude (b ++ rest) v y) (λ v. amplitude (d ++ rest) v y) x (λ v g. second.amplitudes rest v y (g ∙ e))
      ∙ sym (amplitude-after c (d ++ rest) x y)
      ∙ ap (λ l. amplitude l x y) (sym (append_assoc c d rest));
  hadamards = omega (arith, first.hadamards, second.hadamards, count_h-append a b, count_h-append c d);
  fitting = λ all.
      All-append (λ op. OpFitsIn op n) c d (first.fitting (All-left (λ op. OpFitsIn op n) a b all)) (second.fitting (All-right (λ op. OpFitsIn op n) a b all));
}

take-none : (m : ℕ) → take {A = Op} m [] ≡ []
take-none zero = refl
take-none (suc m) = refl

grown : (n m : ℕ) (ops : List Op) → take n ops ++ take m (drop n ops) ≡ take (n + m) ops
grown zero m ops = ap (λ k. take k ops) (let e : m ≡ 0 + m = omega arith in e)
grown (suc n) m [] = take-none m ∙ sym (take-none (suc n + m))
grown (suc n) m (o ∷ ops) = ap (λ l. o ∷ l) (grown n m ops) ∙ ap (λ k. take k (o ∷ ops)) (let e : suc (n + m) ≡ suc n + m = omega arith in e)

-- one piece more
pub piece_more : (n from to : ℕ) (ops made piece new : List Op) → from ≤ to → StandsFor n (take from ops) made → StandsFor n (take (to - from) (drop from ops)) piece
    → new ≡ made ++ piece → StandsFor n (take to ops) new
piece_more n from to ops made piece new order before here is =
    subst (λ (l : List Op). StandsFor n (take to ops) l) (sym is)
    (subst (λ (l : List Op). StandsFor n l (made ++ piece))
    (grown from (to - from) ops ∙ ap (λ k. take k ops) (let e : from + (to - from) ≡ to = omega arith in e))
    (both_stand n (take from ops) (take (to - from) (drop from ops)) made piece before here))
