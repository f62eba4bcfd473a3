-- A line of a text of words, as far as it was read, in a state of fixed size.
use Rattle.std.specs.Prelude.{◌≡◌, ℕ, ◌<◌, ◌≤◌, Bool, true, false, ◌==◌, List, [], ◌∷◌, ◌++◌, length, map, take, if◌then◌else◌, nat_lt, Option, Some, None, IfSome}
use Rattle.std.specs.List.{list_all, list_any}
use Rattle.rv_gate.specs.Word.{number_of}
use Rattle.rv_gate.specs.declared.word.TheConstants.{MOST_LINES}
use Rattle.rv_text.specs.Bytes.{hash}
use Rattle.rv_simulate.specs.Simulation.{line_bits, is_gap, is_bit}

pub record WordLine : Type 0 where
  -- the number of the line, counted from 1
  pub number : ℕ
  -- its bits so far, at most one for each line that a circuit may have
  pub bits : List Bool
  pub in_comment : Bool
  -- whether a wrong character or a bit too many stands in it
  pub is_wrong : Bool

-- the line of this number, of which nothing was read
abbrev pub unread : ℕ → WordLine
unread number = record { number = number; bits = []; in_comment = false; is_wrong = false }

abbrev pub with_bit : WordLine → Bool → WordLine
with_bit s bit =
    if nat_lt (length s.bits) MOST_LINES then record s { bits = s.bits ++ bit ∷ [] } else record s { is_wrong = true }

-- the line with one more byte, no line feed
abbrev pub after_byte : WordLine → ℕ → WordLine
after_byte s byte =
    if s.in_comment then s
    else (if byte == hash then record s { in_comment = true }
    else (if is_gap byte then s
    else (if is_bit byte then with_bit s (byte == 49) else record s { is_wrong = true })))

-- the line with more bytes, no line feed among them
abbrev pub after_bytes : WordLine → List ℕ → WordLine
after_bytes s [] = s
after_bytes s (byte ∷ bytes) = after_bytes (after_byte s byte) bytes

-- the bit that a byte stands for
abbrev pub is_one : ℕ → Bool
is_one byte = byte == 49

-- the number of the eight bits that stand at the front of bytes
pub record IsOctet (octet : ℕ) (bytes : List ℕ) : Type 0 where
  pub within : 8 ≤ length bytes
  pub bits : list_all is_bit (take 8 bytes) ≡ true
  pub number : octet ≡ number_of (map is_one (take 8 bytes))

-- what the bits say of a line: if it isn't wrong so far, they are its bits
abbrev pub bits_in : WordLine → Option (List Bool)
bits_in s = if s.is_wrong then None else Some s.bits

-- a comment was begun in the bytes
abbrev pub has_comment : List ℕ → Bool
has_comment bytes = list_any (λ byte. byte == hash) bytes

-- these are the bits of a line, or else it is wrong: it has none, or more than a circuit may have lines
pub record AreBits (is_wrong : Bool) (bits : List Bool) (known : Option (List Bool)) : Type 0 where
  pub fine : is_wrong ≡ false → known ≡ Some bits
  pub wrong : is_wrong ≡ true → IfSome known (λ all. MOST_LINES < length all)

-- the state of a line stands for the bytes of it that were read
pub record StandsForLine (s : WordLine) (bytes : List ℕ) : Type 0 where
  pub comment : s.in_comment ≡ has_comment bytes
  pub bits : AreBits s.is_wrong s.bits (line_bits bytes)
