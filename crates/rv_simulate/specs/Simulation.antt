-- What `simulate` makes of a text of words, of which each line holds one.
use Rattle.std.specs.Prelude.{◌≡◌, ◌≢◌, ◌⊎◌, ℕ, ◌+◌, ◌<◌, ◌≤◌, Bool, false, ◌==◌, ◌||◌, List, [], ◌∷◌, ◌++◌, length, map, take, replicate, if◌then◌else◌, nat_lt, slice_index_or, Option, Some, None}
use Rattle.std.specs.Option.{is_none, option_map}
use Rattle.rv_gate.specs.Circuit.{Cascade}
use Rattle.rv_gate.specs.Gate.{run}
use Rattle.rv_gate.specs.declared.circuit.Mark.{Mark}
use Rattle.rv_gate.specs.declared.circuit.Mark.TheVariants.{Input}
use Rattle.rv_gate.specs.Marks.{input_count, with_constants, without_garbage}
use Rattle.rv_text.specs.Bytes.{bit_byte, hash, line_feed, space, tab}
use Rattle.rv_text.specs.Lines.{ended_after, lines_of}
use Rattle.rv_text.specs.declared.lines.TheConstants.{MOST_BYTES}

-- what parts the bits of a word
abbrev pub is_gap : ℕ → Bool
is_gap byte = byte == space || byte == tab

-- `0` or `1`
abbrev pub is_bit : ℕ → Bool
is_bit byte = byte == 48 || byte == 49

-- the bits of a line: spaces, tabs and a comment are dropped, and each other byte is to be `0` or `1`
abbrev pub line_bits : List ℕ → Option (List Bool)
line_bits [] = Some []
line_bits (byte ∷ rest) =
    if byte == hash then Some []
    else (if is_gap byte then line_bits rest
    else (if is_bit byte then option_map (λ bits. (byte == 49) ∷ bits) (line_bits rest) else None))

-- what is put in on each line of the circuit; if all are asked for, a bit on each
abbrev pub marks_asked : Cascade → Bool → List Mark
marks_asked c all = if all then replicate (length c.names) Input else c.constants

-- whether the output of each line is left out; if all are asked for, none is
abbrev pub garbage_asked : Cascade → Bool → List Bool
garbage_asked c all = if all then replicate (length c.names) false else c.garbage

-- the answer that a word which comes out makes, on a line of its own: the bits of the lines that aren't garbage
abbrev pub answer_text : Cascade → Bool → List Bool → List ℕ
answer_text c all word = map bit_byte (without_garbage (garbage_asked c all) word) ++ line_feed ∷ []

-- the answer to the bits of a line, if it isn't wrong; a line without bits is skipped, and a word has a bit for each
-- line that takes one
abbrev pub answer_to_bits : Cascade → Bool → Option (List Bool) → Option (List ℕ)
answer_to_bits c all None = None
answer_to_bits c all (Some []) = Some []
answer_to_bits c all (Some (bit ∷ bits)) =
    if length (bit ∷ bits) == input_count (marks_asked c all)
    then Some (answer_text c all (run c.gates (with_constants (marks_asked c all) (bit ∷ bits))))
    else None

-- the answer to a line, if it isn't wrong
abbrev pub answer_to : Cascade → Bool → List ℕ → Option (List ℕ)
answer_to c all line = answer_to_bits c all (line_bits line)

-- the answer to a line, and then those to the lines after it, unless it is wrong
abbrev pub answer_and_rest : Option (List ℕ) → List ℕ → List ℕ
answer_and_rest None rest = []
answer_and_rest (Some answer) rest = answer ++ rest

-- the answers to lines, up to the first wrong one
abbrev pub answers_to : (List ℕ → Option (List ℕ)) → List (List ℕ) → List ℕ
answers_to answer [] = []
answers_to answer (line ∷ lines) = answer_and_rest (answer line) (answers_to answer lines)

-- the number of the first wrong line, if lines are counted from `number`
abbrev pub wrong_line : (List ℕ → Option (List ℕ)) → ℕ → List (List ℕ) → Option ℕ
wrong_line answer number [] = None
wrong_line answer number (line ∷ lines) =
    if is_none (answer line) then Some number else wrong_line answer (number + 1) lines

-- the lines that are looked at: those that end within the limit, and of a text within the limit a last one that lacks
-- its line feed
abbrev pub lines_within : List ℕ → List (List ℕ)
lines_within text = if nat_lt MOST_BYTES (length text) then ended_after [] (take MOST_BYTES text) else lines_of text

-- the answers to the words of a text, up to the first wrong one
abbrev pub answers_of : Cascade → Bool → List ℕ → List ℕ
answers_of c all text = answers_to (answer_to c all) (lines_within text)

-- the number of the first wrong line of a text, counted from 1
abbrev pub first_wrong : Cascade → Bool → List ℕ → Option ℕ
first_wrong c all text = wrong_line (answer_to c all) 1 (lines_within text)

-- a line is wrong: a byte of it is no bit, or it has bits, but not as many as are asked for
abbrev pub IsWrong : Cascade → Bool → List ℕ → Type 0
IsWrong c all line =
    (line_bits line ≡ None)
    ⊎ ((bits : List Bool) × (line_bits line ≡ Some bits) × (1 ≤ length bits)
    × (length bits ≢ input_count (marks_asked c all)))

-- of lines that are counted from 1 the one of this number is wrong, and none before it is
pub record IsFirstWrong (c : Cascade) (all : Bool) (lines : List (List ℕ)) (number : ℕ) : Type 0 where
  pub place : ℕ
  pub counted : number ≡ 1 + place
  pub within : place < length lines
  pub wrong : IsWrong c all (slice_index_or lines place [])
  pub before : (k : ℕ) → k < place → IsWrong c all (slice_index_or lines k []) → ⊥
