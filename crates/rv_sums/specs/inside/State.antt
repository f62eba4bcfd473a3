-- The state of a sum over paths: for each line the sum of products that a path ends at, and the phases.
use Rattle.std.specs.Prelude.{◌≡◌, ℕ, ◌+◌, ◌%◌, ◌<◌, ◌≤◌, ◌^◌, ◌++◌, Bool, true, false, List, drop, length, map, slice_set, if◌then◌else◌}
use Rattle.rv_gate.specs.Circuit.{Cascade}
use Rattle.rv_gate.specs.Every.{Every}
use Rattle.rv_gate.specs.Gate.{IsFlipOn, act, run, xor}
use Rattle.rv_gate.specs.Word.{bit_of, word_of}
use Rattle.rv_gate.specs.declared.circuit.Mark.{Mark}
use Rattle.rv_gate.specs.declared.gate.Shape.{Shape}
use Rattle.rv_net.specs.Amplitude.{amplitude}
use Rattle.rv_net.specs.Cyclotomic.{Cyclotomic}
use Rattle.rv_net.specs.Op.{Network, goes_to, phase_of}
use Rattle.rv_net.specs.declared.op.Op.{Op}
use Rattle.rv_terms.specs.Products.{odd}
use Rattle.rv_terms.specs.Phases.{power}
use Rattle.rv_terms.specs.declared.phases.Phases.{Phases}
use Rattle.rv_terms.specs.declared.sum.Sum.{Sum}
use Rattle.rv_sums.specs.Finding.{Breaks, DenotesFrom, HasConstants}
use Rattle.rv_sums.specs.inside.Paths.{is_h, over_paths, rooted}
use Rattle.rv_sums.specs.declared.finding.Finding.{Finding}
use Rattle.rv_sums.specs.declared.finding.Finding.TheVariants.{Same, Differs, Terms, Steps, Paths}
use Rattle.rv_sums.specs.declared.left.Left.{Left}
use Rattle.rv_sums.specs.declared.path_sum.PathSum.{PathSum}
use Rattle.rv_sums.specs.declared.taking.Following.{Following}

-- where the path v from the word x ends
abbrev pub word_at : List Sum → List Bool → List Bool → List Bool
word_at sums x v = map (λ sum. odd sum x v) sums

-- the sum over all paths from the word x, with the rest of the operations
abbrev pub value_of : PathSum → List Op → List Bool → List Bool → Cyclotomic
value_of s rest x z = over_paths (power s.phases x) (word_at s.sums.items x) rest z

-- So many roots of two more stand on both sides, so that each H may take one from the scale.
abbrev pub spare : ℕ
spare = 1048576

-- An amplitude is the value of the sum, but for the scale: so many roots of two.
abbrev pub Stands : PathSum → List Op → List Bool → List Bool → Cyclotomic → Type 0
Stands s rest x z whole = rooted s.scale whole ≡ rooted spare (value_of s rest x z)

-- From one state to another, operations are taken by the network: an amplitude for which the sum stood at a word, before
-- those operations, stands there after them.
pub record Leads (done : List Op) (old new : PathSum) : Type 0 where
  pub lines : length new.sums.items ≡ length old.sums.items
  pub stands :
      (rest : List Op) (x z : List Bool) (whole : Cyclotomic) → length x ≡ length old.sums.items
      → Stands old (done ++ rest) x z whole → Stands new rest x z whole

-- What is known of a word: its first lines have the bits of these sums.
pub record Holds (facts : List Sum) (u : List Bool) : Type 0 where
  pub few : length facts ≤ length u
  pub bits : (line : ℕ) (v : List Bool) → line < length facts → bit_of (word_at facts u v) line ≡ bit_of u line

-- A flip is taken by the circuit, where the facts hold: an amplitude for which the sum stood at a word stands at what the
-- flip makes of it.
pub record Takes (facts : List Sum) (gate : Shape) (old new : PathSum) : Type 0 where
  pub lines : length new.sums.items ≡ length old.sums.items
  pub stands :
      (rest : List Op) (x z : List Bool) (whole : Cyclotomic) → length x ≡ length old.sums.items → Holds facts x
      → Stands old rest x z whole → Stands new rest (act gate x) z whole

-- what is known after a flip
abbrev pub HoldsAfter : ℕ → Shape → List Sum → List Sum → Type 0
HoldsAfter lines gate old new = (u : List Bool) → length u ≡ lines → Holds old u → Holds new (act gate u)

-- The sum is the bit that a line had before the flip, by the bits after it.
abbrev pub TurnsBack : List Sum → ℕ → Shape → ℕ → Sum → Type 0
TurnsBack facts lines gate line with =
    (u v : List Bool) → length u ≡ lines → Holds facts u → slice_set (act gate u) line (odd with (act gate u) v) ≡ u

-- the sum from each word that holds the constants to itself
pub record IsStart (marks : List Mark) (lines : ℕ) (s : PathSum) : Type 0 where
  pub lines_are : length s.sums.items ≡ lines
  pub ends : (x v : List Bool) → HasConstants marks x → length x ≡ lines → word_at s.sums.items x v ≡ x
  pub phases : (x v : List Bool) → power s.phases x v ≡ 0
  pub scale : s.scale ≡ spare + 128

-- the sum from one word alone: it doesn't look at x
pub record IsStartAt (word : List Bool) (s : PathSum) : Type 0 where
  pub lines_are : length s.sums.items ≡ length word
  pub ends : (x v : List Bool) → word_at s.sums.items x v ≡ word
  pub phases : (x v : List Bool) → power s.phases x v ≡ 0
  pub scale : s.scale ≡ spare + 128

-- a sum is added to that of a line
pub record IsFlipped (line : ℕ) (with : Sum) (old new : PathSum) : Type 0 where
  pub lines : length new.sums.items ≡ length old.sums.items
  pub ends :
      (x v : List Bool) → word_at new.sums.items x v
      ≡ slice_set (word_at old.sums.items x v) line (xor (bit_of (word_at old.sums.items x v) line) (odd with x v))
  pub phases : new.phases ≡ old.phases
  pub scale : new.scale ≡ old.scale

-- a power of w comes where a sum is 1
pub record IsTurned (weight : ℕ) (with : Sum) (old new : PathSum) : Type 0 where
  pub sums : new.sums ≡ old.sums
  pub phases :
      (x v : List Bool) → power new.phases x v ≡ (power old.phases x v + (if odd with x v then weight else 0)) % 8
  pub scale : new.scale ≡ old.scale

-- A power of w comes where the bit of a line is 1.
pub record IsPhased (line weight : ℕ) (old new : PathSum) : Type 0 where
  pub sums : new.sums ≡ old.sums
  pub phases :
      (x v : List Bool) → power new.phases x v
      ≡ (power old.phases x v + (if bit_of (word_at old.sums.items x v) line then weight else 0)) % 8
  pub scale : new.scale ≡ old.scale

-- no path ends elsewhere for another value of the path bit
abbrev pub EndsLack : ℕ → List Sum → Type 0
EndsLack path sums = (x v : List Bool) (bit : Bool) → word_at sums x (slice_set v path bit) ≡ word_at sums x v

-- nor has another phase
abbrev pub PhasesLack : ℕ → Phases → Type 0
PhasesLack path phases = (x v : List Bool) (bit : Bool) → power phases x (slice_set v path bit) ≡ power phases x v

-- nothing changes with the path bit
pub record IsFree (s : PathSum) (path : ℕ) : Type 0 where
  pub below : path < 64
  pub ends : EndsLack path s.sums.items
  pub phases : PhasesLack path s.phases

-- what a path bit brings more where it is 1
abbrev pub Brings : ℕ → (List Bool → List Bool → ℕ) → Phases → Type 0
Brings path part phases =
    (x v : List Bool) → path < length v
    → power phases x (slice_set v path true) ≡ (power phases x (slice_set v path false) + part x v) % 8

-- the sums in which another one stands for a path bit
pub record ArePut (path : ℕ) (with : Sum) (old new : List Sum) : Type 0 where
  pub lines : length new ≡ length old
  pub ends :
      (x v : List Bool) → path < length v → word_at new x v ≡ word_at old x (slice_set v path (odd with x v))

-- the sums in which another one stands for a line
pub record AreTurned (line : ℕ) (with : Sum) (old new : List Sum) : Type 0 where
  pub lines : length new ≡ length old
  pub ends :
      (x v : List Bool) → line < length x → word_at new x v ≡ word_at old (slice_set x line (odd with x v)) v

-- The operations are all but the rest, and the gates all but those left. From each word w that holds the constants, the
-- sum stands at the word u from which those left lead to where all lead from w, and the facts hold there.
pub record Reached (marks : List Mark) (facts : List Sum) (lines : ℕ) (ops rest : List Op) (gates left : List Shape) (s : PathSum) : Type 0 where
  pub lines_are : length s.sums.items ≡ lines
  pub flips : Every (IsFlipOn lines) left
  pub holds :
      (w u : List Bool) → HasConstants marks w → length w ≡ lines → length u ≡ lines → run left u ≡ run gates w → Holds facts u
  pub stands :
      (w u z : List Bool) → HasConstants marks w → length w ≡ lines → length u ≡ lines → run left u ≡ run gates w
      → Stands s rest u z (amplitude ops w z)

-- the same from one word, whatever x is
pub record ReachedFrom (word : List Bool) (ops rest : List Op) (s : PathSum) : Type 0 where
  pub lines_are : length s.sums.items ≡ length word
  pub stands : (x z : List Bool) → length x ≡ length word → Stands s rest x z (amplitude ops word z)

-- an operation that brings a power of w where the bit of a line is 1, and nothing else
pub record IsPhaseOp (op : Op) (line weight : ℕ) : Type 0 where
  pub plain : is_h op ≡ false
  pub goes : (word : List Bool) → goes_to op word ≡ word
  pub phase : (word : List Bool) → phase_of op word ≡ if bit_of word line then weight else 0

-- the flips that a circuit's gates stand for
pub record AreFlips (lines : ℕ) (gates flips : List Shape) : Type 0 where
  pub each : Every (IsFlipOn lines) flips
  pub run_is : (word : List Bool) → length word ≡ lines → run flips word ≡ run gates word

-- the flips that are left: those of a window, and then all from a place on
abbrev pub left_of : List Shape → Left → List Shape
left_of flips l = l.window.items ++ drop l.next flips

-- Of these flips, from one state to another, some are taken, and operations by the network.
pub record Moves (done : List Op) (flips : List Shape) (old new : Following) : Type 0 where
  pub lines : length new.sum.sums.items ≡ length old.sum.sums.items
  pub reached :
      (marks : List Mark) (lines : ℕ) (ops rest : List Op) (gates : List Shape)
      → Reached marks old.facts.sums.items lines ops (done ++ rest) gates (left_of flips old.left) old.sum
      → Reached marks new.facts.sums.items lines ops rest gates (left_of flips new.left) new.sum

-- the same sums, by what they are
pub record AreCopies (old new : List Sum) : Type 0 where
  pub lines : length new ≡ length old
  pub ends : (x v : List Bool) → word_at new x v ≡ word_at old x v

-- From a word with this number, which holds the constants, some amplitude isn't that of the circuit.
abbrev pub DiffersFrom : List Mark → Cascade → Network → ℕ → Type 0
DiffersFrom marks c net number =
    (number < 2 ^ net.lines) × HasConstants marks (word_of net.lines number) × Breaks c.gates net number

-- what a finding says of the words that hold the constants
abbrev pub IsFound : List Mark → Cascade → Network → Finding → Type 0
IsFound marks c net Same = DenotesFrom marks net.lines net.ops (run c.gates)
IsFound marks c net (Differs number) = DiffersFrom marks c net number
IsFound marks c net Terms = Unit {0}
IsFound marks c net Steps = Unit {0}
IsFound marks c net (Paths left) = Unit {0}
