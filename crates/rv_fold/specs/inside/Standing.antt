-- The state of folding before a place: the parities on lines, when each was restarted, and where classes begin.
use Rattle.std.specs.Prelude.{◌≡◌, ℕ, suc, ◌%◌, ◌<◌, ◌≤◌, List, [], ◌∷◌, length, if◌then◌else◌, slice_index_or, Option, None, Some, IsTrue, IsFalse}
use Rattle.rv_gate.specs.Word.{has}
use Rattle.rv_net.specs.declared.op.Op.{Op}
use Rattle.rv_fold.specs.Parities.{Parity}
use Rattle.rv_fold.specs.Folded.{PhaseGate, Kept, parity_at, parities_at, restarted_at, is_first, joinable, exponent_of, phase_gate_at, phase_gate, phase_ops, sum_below}
use Rattle.rv_fold.specs.declared.classes.Classes.{Classes}
use Rattle.rv_fold.specs.declared.walk.Walk.{Walk}
use Rattle.rv_fold.specs.inside.Shown.{parities_of}
use Rattle.rv_fold.specs.inside.Slots.{found}
use Rattle.rv_net.specs.Op.{Network}

-- so many operations end with the last one that restarted the line
pub record IsSince (n : ℕ) (ops : List Op) (place line since : ℕ) : Type 0 where
  pub early : since ≤ place
  pub none_later : (k : ℕ) → since ≤ k → k < place → IsFalse (has (restarted_at n ops k) line)
  pub last : (k : ℕ) → since ≡ suc k → IsTrue (has (restarted_at n ops k) line)

pub record AreSince (n : ℕ) (ops : List Op) (place : ℕ) (sinces : List ℕ) : Type 0 where
  pub count : length sinces ≡ n
  pub each : (line : ℕ) → line < n → IsSince n ops place line (slice_index_or sinces line 0)

-- where the class of the parity begins, if a phase gate before the place has the parity and it is kept
abbrev pub Begins : ℕ → List Op → ℕ → Parity → Option ℕ → Type 0
Begins n ops place parity None =
    (j : ℕ) → j < place → parity_at n ops j ≡ Some parity → Kept n ops parity.lines j place → ⊥
Begins n ops place parity (Some first) =
    (first < place) × (parity_at n ops first ≡ Some parity)
    × ((j : ℕ) → j < place → parity_at n ops j ≡ Some parity → Kept n ops parity.lines j place
    → (first ≤ j) × Kept n ops parity.lines first place)

-- the class of a phase gate with the parity at the place begins there
pub record StartsAt (n : ℕ) (ops : List Op) (place : ℕ) (parity : Parity) (first : ℕ) : Type 0 where
  pub early : first ≤ place
  pub on : parity_at n ops first ≡ Some parity
  pub kept : Kept n ops parity.lines first place
  pub none_earlier : (j : ℕ) → j < place → parity_at n ops j ≡ Some parity → Kept n ops parity.lines j place → first ≤ j

pub record AreClasses (n : ℕ) (ops : List Op) (place : ℕ) (classes : Classes) : Type 0 where
  pub sinces : AreSince n ops place classes.sinces.items
  pub firsts : (parity : Parity) → Begins n ops place parity (found classes.firsts parity)

-- the exponent that stands at a place when the operations before another place are joined
abbrev pub sum_at : ℕ → List Op → ℕ → ℕ → ℕ
sum_at n ops to place =
    if is_first n ops place
    then sum_below (λ other. if joinable n ops place other then exponent_of (phase_gate_at ops other) else 0) to % 8
    else 0

pub record AreSums (n : ℕ) (ops : List Op) (to : ℕ) (sums : List ℕ) : Type 0 where
  pub count : length sums ≡ to
  pub each : (place : ℕ) → place < to → slice_index_or sums place 0 ≡ sum_at n ops to place

-- the state before a place
pub record Stands (net : Network) (place : ℕ) (walk : Walk) : Type 0 where
  pub parities : parities_of walk.parities.parities.items ≡ parities_at net.lines net.ops place
  pub count : length walk.parities.parities.items ≡ net.lines
  pub classes : AreClasses net.lines net.ops place walk.classes
  pub sums : AreSums net.lines net.ops place walk.sums.items

-- an operation, or a phase gate with another exponent
abbrev pub sent_phase : Op → ℕ → Option PhaseGate → List Op
sent_phase op exponent None = op ∷ []
sent_phase op exponent (Some phase) = phase_ops phase.line exponent

abbrev pub sent : Op → ℕ → List Op
sent op exponent = sent_phase op exponent (phase_gate op)
