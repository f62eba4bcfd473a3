-- What stands at one place of a line, and what a gate draws on each line.
use Rattle.std.specs.Prelude.{◌≡◌, ℕ, ◌<◌, true, false, ◌%◌, ◌/◌, ◌^◌, Bool, not, List, [], ◌∷◌, ◌==◌, ◌||◌, ◌&&◌}
use Rattle.std.specs.Prelude.{if◌then◌else◌, nat_lt, bit_or}
use Rattle.rv_gate.specs.Word.{has}
use Rattle.rv_gate.specs.Gate.{touched, touches}
use Rattle.rv_gate.specs.declared.gate.Shape.{Shape}
use Rattle.rv_gate.specs.declared.gate.Shape.TheVariants.{Flip, Swap, Peres}
use Rattle.rv_draw.specs.declared.symbol.Symbol.{Symbol}
use Rattle.rv_draw.specs.declared.symbol.Symbol.TheVariants.{Wire, Crossing, Positive, Negative, Target, Exchanged}
use Rattle.rv_draw.specs.declared.symbol.Symbol.TheVariants.{Middle, Zero, One, Wall}
use Rattle.rv_draw.specs.declared.symbol.Symbol.TheVariants as symbols
use Rattle.rv_net.specs.declared.op.Op.{Op}
use Rattle.rv_net.specs.declared.op.Op.TheVariants as ops
use Rattle.rv_gate.specs.declared.word.TheConstants.{MOST_LINES}

-- a symbol in UTF-8: ─ ┼ ● ○ ⊕ ✕ ◉ 0 1 ┤ H T t S s Z Y
abbrev pub glyph : Symbol → List ℕ
glyph Wire = 226 ∷ 148 ∷ 128 ∷ []
glyph Crossing = 226 ∷ 148 ∷ 188 ∷ []
glyph Positive = 226 ∷ 151 ∷ 143 ∷ []
glyph Negative = 226 ∷ 151 ∷ 139 ∷ []
glyph Target = 226 ∷ 138 ∷ 149 ∷ []
glyph Exchanged = 226 ∷ 156 ∷ 149 ∷ []
glyph Middle = 226 ∷ 151 ∷ 137 ∷ []
glyph Zero = 48 ∷ []
glyph One = 49 ∷ []
glyph Wall = 226 ∷ 148 ∷ 164 ∷ []
glyph symbols.H = 72 ∷ []
glyph symbols.T = 84 ∷ []
glyph symbols.Tdg = 116 ∷ []
glyph symbols.S = 83 ∷ []
glyph symbols.Sdg = 115 ∷ []
glyph symbols.Z = 90 ∷ []
glyph symbols.Y = 89 ∷ []

-- whether a set has a line before this one, and this one or a later one
abbrev pub is_between : ℕ → ℕ → Bool
is_between lines line = not (lines % 2 ^ line == 0) && not (lines / 2 ^ line == 0)

-- what stands on a line that a gate doesn't touch
abbrev pub passing : Shape → ℕ → Symbol
passing gate line = if is_between (touched gate) line then Crossing else Wire

-- a control, if the line is one
abbrev pub control_symbol : ℕ → ℕ → ℕ → Symbol → Symbol
control_symbol care want line otherwise =
    if has care line then (if has want line then Positive else Negative) else otherwise

-- what a gate draws on a line
abbrev pub symbol_on : Shape → ℕ → Symbol
symbol_on (Flip care want target) line =
    if line == target then Target else control_symbol care want line (passing (Flip care want target) line)
symbol_on (Swap care want a b) line =
    if line == a || line == b then Exchanged else control_symbol care want line (passing (Swap care want a b) line)
symbol_on (Peres a b c) line =
    if line == a then Positive
    else (if line == b then Middle else (if line == c then Target else passing (Peres a b c) line))

-- the set of a line, if it is one
abbrev pub line_set : ℕ → ℕ
line_set line = if nat_lt line MOST_LINES then 2 ^ line else 0

-- a symbol on two lines, which may be one, under controls that want 1
abbrev pub pair_on : Symbol → ℕ → ℕ → ℕ → ℕ → Symbol
pair_on own a b care line =
    if line == a || line == b then own
    else control_symbol care care line (if is_between (bit_or care (bit_or (line_set a) (line_set b))) line
    then Crossing else Wire)

-- what an operation of a network draws on a line
abbrev pub op_symbol_on : Op → ℕ → Symbol
op_symbol_on (ops.X q) line = pair_on Target q q 0 line
op_symbol_on (ops.Y q) line = pair_on symbols.Y q q 0 line
op_symbol_on (ops.Z q) line = pair_on symbols.Z q q 0 line
op_symbol_on (ops.H q) line = pair_on symbols.H q q 0 line
op_symbol_on (ops.S q) line = pair_on symbols.S q q 0 line
op_symbol_on (ops.Sdg q) line = pair_on symbols.Sdg q q 0 line
op_symbol_on (ops.T q) line = pair_on symbols.T q q 0 line
op_symbol_on (ops.Tdg q) line = pair_on symbols.Tdg q q 0 line
op_symbol_on (ops.Cx a b) line = pair_on Target b b (line_set a) line
op_symbol_on (ops.Cz a b) line = pair_on Positive a b 0 line
op_symbol_on (ops.Ccx a b c) line = pair_on Target c c (bit_or (line_set a) (line_set b)) line
op_symbol_on (ops.Swap a b) line = pair_on Exchanged a b 0 line
op_symbol_on (ops.Cswap c a b) line = pair_on Exchanged a b (line_set c) line

-- a gate touches a line above this one and a line below it, and not this one
pub record IsCrossed (gate : Shape) (line : ℕ) : Type 0 where
  pub untouched : touches gate line ≡ false
  pub above : ℕ
  pub is_above : above < line
  pub touches_above : touches gate above ≡ true
  pub below : ℕ
  pub is_below : line < below
  pub touches_below : touches gate below ≡ true
