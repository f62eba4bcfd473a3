-- Phase folding, or rotation merging: the phase gates of a class, which stand on one parity, are joined at the first
-- of them. They are the terms of a phase polynomial, a sum of multiples of parities; those of one parity are added.
use Rattle.std.specs.Prelude.{◌≡◌, ◌⊎◌, ℕ, zero, suc, ◌+◌, ◌%◌, ◌<◌, ◌≤◌, Bool, false, not, ◌&&◌, ◌||◌, List, [], ◌∷◌, ◌++◌, length, ◌==◌, nat_lt, if◌then◌else◌, count_by, slice_get, Option, None, Some, IsSome, IsTrue}
use Rattle.std.specs.Option.{option_map, option_and_then}
use Rattle.rv_gate.specs.Gate.{all_below}
use Rattle.rv_net.specs.Amplitude.{amplitude, count_h}
use Rattle.rv_net.specs.Op.{IsNetwork, Network, has_three_lines, is_t}
use Rattle.rv_net.specs.declared.op.Op.{Op}
use Rattle.rv_net.specs.declared.op.Op.TheVariants.{X, Y, Z, H, S, Sdg, T, Tdg, Cx, Cz, Ccx, Swap, Cswap}
use Rattle.rv_fold.specs.Parities.{Parity, Parities, IsLeastClosed, alone, parities_after, are_apart, direct, restart_set, same_parity}
pub use Rattle.rv_fold.specs.declared.phase.PhaseGate.{PhaseGate}

-- the phase gate that an operation is
abbrev pub phase_gate : Op → Option PhaseGate
phase_gate (T q) = Some (record { line = q; exponent = 1 })
phase_gate (S q) = Some (record { line = q; exponent = 2 })
phase_gate (Z q) = Some (record { line = q; exponent = 4 })
phase_gate (Sdg q) = Some (record { line = q; exponent = 6 })
phase_gate (Tdg q) = Some (record { line = q; exponent = 7 })
phase_gate (X q) = None
phase_gate (Y q) = None
phase_gate (H q) = None
phase_gate (Cx a b) = None
phase_gate (Cz a b) = None
phase_gate (Ccx a b c) = None
phase_gate (Swap a b) = None
phase_gate (Cswap c a b) = None

-- the operations with an exponent below 8
abbrev pub phase_ops : ℕ → ℕ → List Op
phase_ops q exponent =
    if exponent == 1 then T q ∷ []
    else (if exponent == 2 then S q ∷ []
    else (if exponent == 3 then S q ∷ T q ∷ []
    else (if exponent == 4 then Z q ∷ []
    else (if exponent == 5 then Z q ∷ T q ∷ []
    else (if exponent == 6 then Sdg q ∷ []
    else (if exponent == 7 then Tdg q ∷ [] else []))))))

-- ---- places, from 0: operations on n lines

-- the parity of each line before the operation at the place
unfoldable pub parities_at : ℕ → List Op → ℕ → Parities
parities_at n ops zero = alone
parities_at n ops (suc place) = elim (slice_get ops place) [ None ↦ parities_at n ops place | Some op ↦ parities_after n op (parities_at n ops place) ]

-- the lines that the operation at the place restarts
unfoldable pub restarted_at : ℕ → List Op → ℕ → ℕ
unfolding parities_at
restarted_at n ops place =
    elim (slice_get ops place) [ None ↦ 0 | Some op ↦ restart_set n (parities_at n ops place) (direct op) ]

abbrev pub phase_gate_at : List Op → ℕ → Option PhaseGate
phase_gate_at ops place = option_and_then phase_gate (slice_get ops place)

abbrev pub exponent_of : Option PhaseGate → ℕ
exponent_of None = 0
exponent_of (Some phase) = phase.exponent

-- the parity on the line of a phase gate at its place
abbrev pub parity_at : ℕ → List Op → ℕ → Option Parity
parity_at n ops place = option_map (λ phase. parities_at n ops place phase.line) (phase_gate_at ops place)

-- no operation from one place on and before another restarts a line of the set
unfoldable pub is_kept : ℕ → List Op → ℕ → ℕ → ℕ → Bool
unfolding restarted_at
is_kept n ops set from to = all_below (λ place. nat_lt place from || are_apart set (restarted_at n ops place)) to

abbrev pub Kept : ℕ → List Op → ℕ → ℕ → ℕ → Type 0
Kept n ops set from to = (k : ℕ) → from ≤ k → k < to → IsTrue (are_apart set (restarted_at n ops k))

abbrev pub has_parity : Option Parity → Parity → Bool
has_parity None g = false
has_parity (Some f) g = same_parity f g

abbrev pub joins : ℕ → List Op → Option Parity → ℕ → ℕ → Bool
joins n ops None i j = false
joins n ops (Some parity) i j =
    has_parity (parity_at n ops j) parity && is_kept n ops parity.lines i j && is_kept n ops parity.lines j i

-- phase gates stand at both places, on one parity, and no operation between them restarts a line of its set
abbrev pub joinable : ℕ → List Op → ℕ → ℕ → Bool
joinable n ops i j = joins n ops (parity_at n ops i) i j

-- each phase gate is joinable to itself, and joinable ones make up classes
pub record IsEquivalence (n : ℕ) (ops : List Op) : Type 0 where
  pub itself : (i : ℕ) → IsSome (phase_gate_at ops i) → IsTrue (joinable n ops i i)
  pub back : (i j : ℕ) → IsTrue (joinable n ops i j) → IsTrue (joinable n ops j i)
  pub through : (i j k : ℕ) → IsTrue (joinable n ops i j) → IsTrue (joinable n ops j k) → IsTrue (joinable n ops i k)

-- ---- classes of joinable phase gates
unfoldable pub sum_below : (ℕ → ℕ) → ℕ → ℕ
sum_below f zero = 0
sum_below f (suc n) = sum_below f n + f n

-- no phase gate at an earlier place is joinable to it
unfoldable pub is_first : ℕ → List Op → ℕ → Bool
is_first n ops place = all_below (λ other. not (joinable n ops other place)) place

-- the sum of the exponents of its class
unfoldable pub class_exponent : ℕ → List Op → ℕ → ℕ
unfolding sum_below
class_exponent n ops place =
    sum_below (λ other. if joinable n ops place other then exponent_of (phase_gate_at ops other) else 0) (length ops)

-- what stands in the place of an operation: each class in the place and on the line of its first phase gate
abbrev pub part : ℕ → List Op → ℕ → Op → List Op
part n ops place op =
    elim (phase_gate op) [
      | None ↦ op ∷ []
      | Some phase ↦ if is_first n ops place then phase_ops phase.line (class_exponent n ops place % 8) else []
    ]

unfoldable pub parts : (ℕ → Op → List Op) → ℕ → List Op → List Op
parts f place [] = []
parts f place (op ∷ rest) = f place op ++ parts f (suc place) rest

unfoldable pub folded : ℕ → List Op → List Op
unfolding parts
folded n ops = parts (part n ops) 0 ops

abbrev pub folded_network : Network → Network
folded_network net = record { lines = net.lines; ops = folded net.lines net.ops }

-- what an operation restarts is the least closed set of lines that has those whose bit it makes a new value
abbrev pub RestartsLeast : ℕ → List Op → Type 0
RestartsLeast n ops =
    (place : ℕ) (op : Op) → slice_get ops place ≡ Some op
    → IsLeastClosed n (parities_at n ops place) (direct op) (restarted_at n ops place)

-- two places, one after the other, that write a class: S or Z, then T on the same line
pub record WritesClass (ops : List Op) (i j : ℕ) : Type 0 where
  pub next : j ≡ suc i
  pub line : ℕ
  pub even : (slice_get ops i ≡ Some (S line)) ⊎ (slice_get ops i ≡ Some (Z line))
  pub odd : slice_get ops j ≡ Some (T line)

-- nothing is left to join: of joinable places, one writes a class with the other
abbrev pub IsJoined : Network → Type 0
IsJoined net = (i j : ℕ) → i < j → IsTrue (joinable net.lines net.ops i j) → WritesClass net.ops i j

-- What folding keeps: all amplitudes and the number of H. It adds no operation, no T, and no
-- Toffoli or Fredkin gate, joins all, and is done once.
pub record IsFoldingOf (net result : Network) : Type 0 where
  pub is : result ≡ folded_network net
  pub valid : IsNetwork result
  pub amplitudes : (x y : List Bool) → length x ≡ net.lines → amplitude result.ops x y ≡ amplitude net.ops x y
  pub hadamards : count_h result.ops ≡ count_h net.ops
  pub operations : length result.ops ≤ length net.ops
  pub t_gates : count_by is_t result.ops ≤ count_by is_t net.ops
  pub three_lines : count_by has_three_lines result.ops ≤ count_by has_three_lines net.ops
  pub joined : IsJoined result
  pub settled : folded_network result ≡ result
