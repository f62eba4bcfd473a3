-- A circuit on more lines at the end.
use Rattle.std.proofs.Common.{◌≡◌, ◌∙◌, ℕ, suc, ◌+◌, ◌<◌, ◌≤◌, List, [], ◌∷◌, ◌++◌, length, take, get_or, ap, sym, subst, arith}
use Rattle.std.specs.Prelude.{All}
use Rattle.std.proofs.Math.Seq.{take-suc}
use Rattle.std.proofs.lemmas.List.{take_all}
use Rattle.std.proofs.lemmas.List.Elements.{All-append, All-cons, All-head, All-tail, All-nil}
use Rattle.rv_blif.specs.Logic.{Logic}
use Rattle.rv_compute.specs.Points.{AreOnMore, HasFewer, HasMore, IsPoint}
use Rattle.rv_compute.specs.declared.points.Point.{Point}

alone : (n : ℕ) (c : Point) → HasMore n c → All (HasMore n) (c ∷ [])
alone n c more = All-cons (HasMore n) c [] more (All-nil (HasMore n))

turned : (c d : Point) → HasFewer (length c.circuit.names) d → HasMore (length d.circuit.names) c
turned c d fewer = record { more = fewer.fewer }

pub one : (c : Point) → AreOnMore (c ∷ [])
one c = (All-nil (HasMore (length c.circuit.names)), tt)

pub on_more : (cs : List Point) (c : Point) → AreOnMore cs → All (HasFewer (length c.circuit.names)) cs → AreOnMore (cs ++ c ∷ [])
on_more [] c rising below = one c
on_more (d ∷ rest) c rising below = (
  All-append (HasMore (length d.circuit.names)) rest (c ∷ []) rising.0 (alone (length d.circuit.names) c (turned c d (All-head (HasFewer (length c.circuit.names)) d rest below))),
  on_more rest c rising.1 (All-tail (HasFewer (length c.circuit.names)) d rest below),
)

pub computed_more : (logic : Logic) (most : ℕ) (cs : List Point) (c : Point) → All (IsPoint logic most) cs → IsPoint logic most c
    → All (IsPoint logic most) (cs ++ c ∷ [])
computed_more logic most cs c all one =
    All-append (IsPoint logic most) cs (c ∷ []) all (All-cons (IsPoint logic most) c [] one (All-nil (IsPoint logic most)))

-- one more of them has fewer lines
pub fewer_more : (n : ℕ) (cs : List Point) (k : ℕ) (c : Point) → k < length cs → c ≡ get_or cs k c → HasFewer n c
    → All (HasFewer n) (take k cs) → All (HasFewer n) (take (k + 1) cs)
fewer_more n cs k c lt is fewer so_far =
    let e : k + 1 ≡ suc k = omega arith in
    subst (All (HasFewer n)) (sym (ap (λ (i : ℕ). take i cs) e ∙ take-suc cs k c lt))
    (All-append (HasFewer n) (take k cs) (get_or cs k c ∷ []) so_far
    (All-cons (HasFewer n) (get_or cs k c) [] (subst (HasFewer n) is fewer) (All-nil (HasFewer n))))

pub fewer_all : (n : ℕ) (cs : List Point) (k : ℕ) → length cs ≤ k → All (HasFewer n) (take k cs) → All (HasFewer n) cs
fewer_all n cs k le so_far = subst (All (HasFewer n)) (take_all k cs le) so_far
