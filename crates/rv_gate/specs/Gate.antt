-- Gates, and what they do to words.
use Rattle.std.specs.Prelude.{ℕ, zero, suc, ◌≢◌, ◌^◌, ◌<◌, Bool, true, false, not, ◌&&◌, ◌||◌, List, [], ◌∷◌, length, ◌==◌, if◌then◌else◌, slice_set, bit_or, All, IsTrue, IsFalse}
use Rattle.rv_gate.specs.Word.{has, bit_of, number_of, word_of}
use Rattle.rv_gate.specs.declared.word.TheConstants.{MOST_LINES}
use Rattle.rv_gate.specs.declared.gate.Shape.{Shape}
use Rattle.rv_gate.specs.declared.gate.Shape.TheVariants.{Flip, Swap, Peres}

-- each number below n passes
abbrev pub all_below : (ℕ → Bool) → ℕ → Bool
all_below p zero = true
all_below p (suc n) = p n && all_below p n

abbrev pub same : Bool → Bool → Bool
same a b = if a then b else not b

-- of two words
abbrev pub same_word : List Bool → List Bool → Bool
same_word [] [] = true
same_word [] (b ∷ y) = false
same_word (a ∷ x) [] = false
same_word (a ∷ x) (b ∷ y) = same a b && same_word x y

-- the controls hold: each line of care has the bit that want gives
unfoldable pub holds : ℕ → ℕ → List Bool → Bool
holds care want word =
    all_below (λ line. if has care line then same (bit_of word line) (has want line) else true) (length word)

-- the word with the bit of one line changed
abbrev pub flip : List Bool → ℕ → List Bool
flip word line = slice_set word line (not (bit_of word line))

-- the word with the bits of two lines exchanged
abbrev pub exchanged : List Bool → ℕ → ℕ → List Bool
exchanged word a b = slice_set (slice_set word a (bit_of word b)) b (bit_of word a)

abbrev pub xor : Bool → Bool → Bool
xor a b = not (same a b)

abbrev pub peres : List Bool → ℕ → ℕ → ℕ → List Bool
peres word a b c =
    slice_set (slice_set word b (xor (bit_of word a) (bit_of word b))) c
    (xor (bit_of word c) (bit_of word a && bit_of word b))

-- what a gate makes of a word
abbrev pub act : Shape → List Bool → List Bool
act (Flip care want target) word = if holds care want word then flip word target else word
act (Swap care want a b) word = if holds care want word then exchanged word a b else word
act (Peres a b c) word = peres word a b c

abbrev pub run : List Shape → List Bool → List Bool
run [] word = word
run (g ∷ rest) word = run rest (act g word)

-- the lines that control a gate
abbrev pub controls : Shape → ℕ
controls (Flip care want target) = care
controls (Swap care want a b) = care
controls (Peres a b c) = 2 ^ a

-- those of them whose wanted value is 1
abbrev pub wanted : Shape → ℕ
wanted (Flip care want target) = want
wanted (Swap care want a b) = want
wanted (Peres a b c) = 2 ^ a

-- the lines that a gate changes
abbrev pub targets : Shape → ℕ
targets (Flip care want target) = 2 ^ target
targets (Swap care want a b) = bit_or (2 ^ a) (2 ^ b)
targets (Peres a b c) = bit_or (2 ^ b) (2 ^ c)

-- the set of the lines that a gate touches
abbrev pub touched : Shape → ℕ
touched g = bit_or (controls g) (targets g)

-- the gate has a control or a target on the line
abbrev pub touches : Shape → ℕ → Bool
touches (Flip care want target) line = has care line || (line == target)
touches (Swap care want a b) line = has care line || (line == a) || (line == b)
touches (Peres a b c) line = (line == a) || (line == b) || (line == c)

-- the flip that acts where each line of care has the bit 1
abbrev pub flip_under : ℕ → ℕ → Shape
flip_under care target = Flip care care target

-- the gates that undo a gate, in their order
abbrev pub inverse : Shape → List Shape
inverse (Flip care want target) = Flip care want target ∷ []
inverse (Swap care want a b) = Swap care want a b ∷ []
inverse (Peres a b c) = flip_under (2 ^ a) b ∷ flip_under (bit_or (2 ^ a) (2 ^ b)) c ∷ []

-- each line that the gate touches is below n
abbrev pub FitsIn : Shape → ℕ → Type 0
FitsIn g n = (line : ℕ) → IsTrue (touches g line) → line < n

abbrev pub AllFit : ℕ → List Shape → Type 0
AllFit n gates = All (λ gate. FitsIn gate n) gates

-- each line of a set is below n
abbrev pub Within : ℕ → ℕ → Type 0
Within lines n = (line : ℕ) → IsTrue (has lines line) → line < n

-- only controls are wanted
abbrev pub WantsControls : ℕ → ℕ → Type 0
WantsControls care want = (line : ℕ) → IsTrue (has want line) → IsTrue (has care line)

-- what each gate keeps: its lines differ, and only controls are wanted
abbrev pub IsGate : Shape → Type 0
IsGate (Flip care want target) = (target < MOST_LINES) × IsFalse (has care target) × WantsControls care want
IsGate (Swap care want a b) =
    (a < MOST_LINES) × (b < MOST_LINES) × (a ≢ b) × IsFalse (has care a) × IsFalse (has care b)
    × WantsControls care want
IsGate (Peres a b c) = (a < MOST_LINES) × (b < MOST_LINES) × (c < MOST_LINES) × (a ≢ b) × (a ≢ c) × (b ≢ c)

-- the number of what a gate makes of the word of n bits that has the number x
abbrev pub act_on_number : Shape → ℕ → ℕ → ℕ
act_on_number g n x = number_of (act g (word_of n x))

abbrev pub is_flip : Shape → Bool
is_flip (Flip care want target) = true
is_flip (Swap care want a b) = false
is_flip (Peres a b c) = false

abbrev pub IsFlip : Shape → Type 0
IsFlip g = IsTrue (is_flip g)

-- a flip on n lines
abbrev pub IsFlipOn : ℕ → Shape → Type 0
IsFlipOn n g = IsFlip g × IsGate g × FitsIn g n

-- the number of what gates make of the word of n bits that has the number x
abbrev pub run_on_number : List Shape → ℕ → ℕ → ℕ
run_on_number gates n x = number_of (run gates (word_of n x))
