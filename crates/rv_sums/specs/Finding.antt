-- What the findings of a check by sums over paths mean.
use Rattle.std.specs.Prelude.{ℕ, ◌≡◌, ◌≢◌, ◌<◌, ◌^◌, Bool, true, not, List, length, slice_index_or, IsTrue}
use Rattle.rv_gate.specs.Circuit.{Cascade}
use Rattle.rv_gate.specs.Gate.{run}
use Rattle.rv_gate.specs.Word.{bit_of, word_of}
use Rattle.rv_gate.specs.declared.circuit.Mark.{Mark}
use Rattle.rv_gate.specs.declared.circuit.Mark.TheVariants.{Input, Zero, One}
use Rattle.rv_gate.specs.declared.gate.Shape.{Shape}
use Rattle.rv_net.specs.Amplitude.{amplitude}
use Rattle.rv_net.specs.Denotes.{Denotes, amplitude_of_map}
use Rattle.rv_net.specs.Op.{Network}
use Rattle.rv_net.specs.declared.op.Op.{Op}
use Rattle.rv_sums.specs.declared.finding.Finding.{Finding}
use Rattle.rv_sums.specs.declared.finding.Finding.TheVariants.{Same, Differs, Terms, Steps, Paths}

-- from this word, some amplitude isn't that of the circuit
abbrev pub Breaks : List Shape → Network → ℕ → Type 0
Breaks gates net number =
    (y : List Bool) × (length y ≡ net.lines)
    × (amplitude net.ops (word_of net.lines number) y
    ≢ amplitude_of_map net.ops (run gates (word_of net.lines number)) y)

-- The network denotes the circuit's run, or from a word some amplitude isn't that of the circuit. The others say nothing.
abbrev pub IsRight : Cascade → Network → Finding → Type 0
IsRight c net Same = Denotes net.lines net.ops (run c.gates)
IsRight c net (Differs word) = (word < 2 ^ net.lines) × Breaks c.gates net word
IsRight c net Terms = Unit {0}
IsRight c net Steps = Unit {0}
IsRight c net (Paths left) = Unit {0}

-- ---- from the words that hold the constants

-- what a line may begin with
abbrev pub may_begin : Mark → Bool → Bool
may_begin Input bit = true
may_begin Zero bit = not bit
may_begin One bit = bit

-- each line that is marked as constant holds its constant
abbrev pub HasConstants : List Mark → List Bool → Type 0
HasConstants marks word = (line : ℕ) → IsTrue (may_begin (slice_index_or marks line Input) (bit_of word line))

-- on n lines, from these words the amplitudes are those of the map, with the root of two for each H
abbrev pub DenotesFrom : List Mark → ℕ → List Op → (List Bool → List Bool) → Type 0
DenotesFrom marks n ops map =
    (x y : List Bool) → length x ≡ n → length y ≡ n → HasConstants marks x → amplitude ops x y ≡ amplitude_of_map ops (map x) y

-- From the words that hold the circuit's constants the network does what the circuit does, or from one of them some
-- amplitude isn't that of the circuit. The others say nothing.
abbrev pub IsRightFrom : Cascade → Network → Finding → Type 0
IsRightFrom c net Same = DenotesFrom c.constants net.lines net.ops (run c.gates)
IsRightFrom c net (Differs word) =
    (word < 2 ^ net.lines) × HasConstants c.constants (word_of net.lines word) × Breaks c.gates net word
IsRightFrom c net Terms = Unit {0}
IsRightFrom c net Steps = Unit {0}
IsRightFrom c net (Paths left) = Unit {0}

-- ----

-- neither of both
abbrev pub IsUndecided : Finding → Type 0
IsUndecided Same = ⊥
IsUndecided (Differs word) = ⊥
IsUndecided Terms = Unit {0}
IsUndecided Steps = Unit {0}
IsUndecided (Paths left) = Unit {0}
