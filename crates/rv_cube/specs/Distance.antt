-- In which inputs two cubes differ, and the third of two symbols.
use Rattle.std.specs.Prelude.{ℕ, ◌^◌, Bool, true, false, not, List, length, if◌then◌else◌, bit_xor}
use Rattle.std.specs.List.{filter, range_with_len}
use Rattle.rv_gate.specs.Word.{has}
use Rattle.rv_gate.specs.Gate.{same}
use Rattle.rv_pla.specs.Cube.{Symbol, One, Zero, Dash, symbol}
use Rattle.rv_pla.specs.declared.cube.Cube.{Cube}

abbrev pub is_same : Symbol → Symbol → Bool
is_same One One = true
is_same Zero Zero = true
is_same Dash Dash = true
is_same _ _ = false

abbrev pub differs : Cube → Cube → ℕ → Bool
differs a b input = not (is_same (symbol a input) (symbol b input))

-- the inputs, of n, in which two cubes differ, in ascending order
unfoldable pub differing : ℕ → Cube → Cube → List ℕ
differing n a b = filter (differs a b) (range_with_len 0 n)

-- in how many inputs they differ
abbrev pub distance : ℕ → Cube → Cube → ℕ
distance n a b = length (differing n a b)

-- of two different symbols the one that is neither
abbrev pub third : Symbol → Symbol → Symbol
third One Zero = Dash
third Zero One = Dash
third One Dash = Zero
third Dash One = Zero
third Zero Dash = One
third Dash Zero = One
third s _ = s

-- a set with a line put in or out
abbrev pub put : ℕ → ℕ → Bool → ℕ
put set line on = if same (has set line) on then set else bit_xor set (2 ^ line)

-- what a symbol says of its input: that its value matters, and that it has to be 1
abbrev pub cares : Symbol → Bool
cares One = true
cares Zero = true
cares Dash = false

abbrev pub wants_one : Symbol → Bool
wants_one One = true
wants_one Zero = false
wants_one Dash = false

-- the cube with another symbol at one input
abbrev pub with_symbol : Cube → ℕ → Symbol → Cube
with_symbol cube input s =
    record cube { care = put cube.care input (cares s); want = put cube.want input (wants_one s) }

-- the cube a with the third of its symbol and b's at one input
unfoldable pub with_third : Cube → Cube → ℕ → Cube
with_third a b input = with_symbol a input (third (symbol a input) (symbol b input))
