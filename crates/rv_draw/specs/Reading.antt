-- What a drawing denotes: the symbols of its rows, read column by column.
use Rattle.std.specs.Prelude.{ℕ, zero, suc, ◌+◌, ◌*◌, Bool, true, false, not, List, [], ◌∷◌, ◌++◌, length, map, take}
use Rattle.std.specs.Prelude.{drop, ◌==◌, ◌&&◌, if◌then◌else◌, Option, Some, None, is_some, nat_lt}
use Rattle.std.specs.Option.{option_map}
use Rattle.rv_text.specs.Lines.{lines_of}
use Rattle.rv_text.specs.Tokens.{Lexeme, tokens_of}
use Rattle.rv_gate.specs.Word.{ones_of}
use Rattle.rv_gate.specs.Circuit.{Cascade}
use Rattle.rv_gate.specs.declared.circuit.Mark.{Mark}
use Rattle.rv_gate.specs.declared.circuit.Mark.TheVariants as marks
use Rattle.rv_gate.specs.declared.gate.Shape.{Shape}
use Rattle.rv_gate.specs.declared.gate.Shape.TheVariants.{Flip, Swap, Peres}
use Rattle.rv_draw.specs.declared.symbol.Symbol.{Symbol}
use Rattle.rv_draw.specs.declared.symbol.Symbol.TheVariants.{Wire, Crossing, Positive, Negative, Target, Exchanged}
use Rattle.rv_draw.specs.declared.symbol.Symbol.TheVariants.{Middle, Zero, One, Wall}
use Rattle.rv_draw.specs.declared.symbol.Symbol.TheVariants as symbols
use Rattle.rv_draw.specs.Symbols.{glyph, is_between}
use Rattle.rv_draw.specs.Drawing.{first_symbol, last_symbol, pad_after}
use Rattle.std.specs.List.{flat_map, list_all}
use Rattle.std.specs.Str.{bytes_eq}

-- what a drawing shows: gates of some kind on lines
pub record Picture (G : Type 0) : Type 0 where
  pub input_labels : List (List ℕ)
  pub output_labels : List (List ℕ)
  pub constants : List Mark
  pub garbage : List Bool
  pub gates : List G

-- an element before others, if both are there
abbrev pub before : {A : Type 0} → Option A → Option (List A) → Option (List A)
before None rest = None
before (Some x) None = None
before (Some x) (Some xs) = Some (x ∷ xs)

-- the values of all elements, if each has one
abbrev pub each_of : {A B : Type 0} → (A → Option B) → List A → Option (List B)
each_of f [] = Some []
each_of f (x ∷ xs) = before (f x) (each_of f xs)

-- ---- symbols

-- the symbol whose bytes are this number in base 256: ─ ┼ ● ○ ⊕ ✕ ◉ 0 1 ┤ H T t S s Z Y
abbrev pub symbol_of : ℕ → Option Symbol
symbol_of number =
    if number == 14849152 then Some Wire
    else (if number == 14849212 then Some Crossing
    else (if number == 14849935 then Some Positive
    else (if number == 14849931 then Some Negative
    else (if number == 14846613 then Some Target
    else (if number == 14851221 then Some Exchanged
    else (if number == 14849929 then Some Middle
    else (if number == 48 then Some Zero
    else (if number == 49 then Some One
    else (if number == 14849188 then Some Wall
    else (if number == 72 then Some symbols.H
    else (if number == 84 then Some symbols.T
    else (if number == 116 then Some symbols.Tdg
    else (if number == 83 then Some symbols.S
    else (if number == 115 then Some symbols.Sdg
    else (if number == 90 then Some symbols.Z
    else (if number == 89 then Some symbols.Y
    else None))))))))))))))))

-- the symbols of bytes, after bytes that are not yet a symbol
abbrev pub symbols_after : ℕ → List ℕ → Option (List Symbol)
symbols_after held [] = if held == 0 then Some [] else None
symbols_after held (byte ∷ bytes) =
    if is_some (symbol_of (held * 256 + byte)) then before (symbol_of (held * 256 + byte)) (symbols_after 0 bytes)
    else symbols_after (held * 256 + byte) bytes

-- ---- rows

-- a label, a wire and a label
pub record Row : Type 0 where
  pub input_label : List ℕ
  pub symbols : List Symbol
  pub output_label : List ℕ

abbrev pub row_of : List Lexeme → Option Row
row_of (input ∷ symbols ∷ output ∷ []) =
    option_map (λ read. record { input_label = input.bytes; symbols = read; output_label = output.bytes })
    (symbols_after 0 symbols.bytes)
row_of other = None

-- what a wire shows: its constant, the symbol at each gate, and whether it ends as garbage
pub record Strip : Type 0 where
  pub constant : Mark
  pub symbols : List Symbol
  pub is_garbage : Bool

abbrev pub is_wire : Symbol → Bool
is_wire Wire = true
is_wire other = false

-- how a wire begins
abbrev pub constant_of : Symbol → Option Mark
constant_of Wire = Some marks.Input
constant_of Zero = Some marks.Zero
constant_of One = Some marks.One
constant_of other = None

-- how a wire ends
abbrev pub ended : Mark → Symbol → Option Strip
ended constant Wire = Some (record { constant = constant; symbols = []; is_garbage = false })
ended constant Wall = Some (record { constant = constant; symbols = []; is_garbage = true })
ended constant other = None

-- one gate's symbol before others
abbrev pub with_symbol : Symbol → Strip → Strip
with_symbol symbol strip = record strip { symbols = symbol ∷ strip.symbols }

-- the symbols at the gates, each between two of the wire, and the end
abbrev pub gates_and_end : Mark → List Symbol → Option Strip
gates_and_end constant [] = None
gates_and_end constant (last ∷ []) = ended constant last
gates_and_end constant (left ∷ symbol ∷ []) = None
gates_and_end constant (left ∷ symbol ∷ right ∷ rest) =
    if is_wire left && is_wire right then option_map (with_symbol symbol) (gates_and_end constant rest) else None

abbrev pub strip_after : Option Mark → List Symbol → Option Strip
strip_after None symbols = None
strip_after (Some constant) symbols = gates_and_end constant symbols

-- a wire without the symbols that only make it longer
abbrev pub strip_of : ℕ → List Symbol → Option Strip
strip_of pad [] = None
strip_of pad (first ∷ rest) =
    if list_all is_wire (take pad rest) then strip_after (constant_of first) (drop pad rest) else None

-- ---- columns

-- the lines, from `line` on, on which a column has such a symbol
abbrev pub places : (Symbol → Bool) → ℕ → List Symbol → List ℕ
places p line [] = []
places p line (symbol ∷ column) = (if p symbol then line ∷ [] else []) ++ places p (line + 1) column

abbrev pub is_positive : Symbol → Bool
is_positive Positive = true
is_positive other = false

abbrev pub is_control : Symbol → Bool
is_control Positive = true
is_control Negative = true
is_control other = false

abbrev pub is_target : Symbol → Bool
is_target Target = true
is_target other = false

abbrev pub is_exchanged : Symbol → Bool
is_exchanged Exchanged = true
is_exchanged other = false

abbrev pub is_middle : Symbol → Bool
is_middle Middle = true
is_middle other = false

-- the set of the lines on which a column has such a symbol
abbrev pub lines_with : (Symbol → Bool) → List Symbol → ℕ
lines_with p column = ones_of (map p column)

-- the Peres gate whose first line is the one control, which wants 1
abbrev pub peres_from : List ℕ → List ℕ → ℕ → ℕ → Option Shape
peres_from (a ∷ []) (control ∷ []) b c = Some (Peres a b c)
peres_from positives controls b c = None

-- the gate with these targets of a flip, targets of a swap and middle lines
abbrev pub gate_with : List Symbol → List ℕ → List ℕ → List ℕ → Option Shape
gate_with column (target ∷ []) [] [] = Some (Flip (lines_with is_control column) (lines_with is_positive column) target)
gate_with column [] (a ∷ b ∷ []) [] = Some (Swap (lines_with is_control column) (lines_with is_positive column) a b)
gate_with column (c ∷ []) [] (b ∷ []) = peres_from (places is_positive 0 column) (places is_control 0 column) b c
gate_with column targets exchanged middles = None

abbrev pub is_touched : Symbol → Bool
is_touched Wire = false
is_touched Crossing = false
is_touched other = true

-- whether a line that isn't touched is crossed exactly if a vertical passes it
abbrev pub is_right : Bool → Symbol → Bool
is_right passed Crossing = passed
is_right passed Wire = not passed
is_right passed other = true

-- the same of all lines from `line` on, where the gate touches these lines
abbrev pub are_right : ℕ → ℕ → List Symbol → Bool
are_right touched line [] = true
are_right touched line (symbol ∷ column) =
    is_right (is_between touched line) symbol && are_right touched (line + 1) column

-- what a gate may draw on a line
abbrev pub is_of_gate : Symbol → Bool
is_of_gate Wire = true
is_of_gate Crossing = true
is_of_gate Positive = true
is_of_gate Negative = true
is_of_gate Target = true
is_of_gate Exchanged = true
is_of_gate Middle = true
is_of_gate other = false

-- the gate that a column shows: one `⊕` is a flip, two `✕` are a swap, and `◉` and `⊕` a Peres gate; `●` and `○` are
-- the controls, and `┼` stands on the lines between those that are touched; no other symbol is in it
abbrev pub gate_of : List Symbol → Option Shape
gate_of column =
    if list_all is_of_gate column && are_right (lines_with is_touched column) 0 column
    then gate_with column (places is_target 0 column) (places is_exchanged 0 column) (places is_middle 0 column)
    else None

-- the first symbol of a row, and the others
abbrev pub first_of : List Symbol → Symbol
first_of [] = Wire
first_of (symbol ∷ rest) = symbol

-- so many columns of rows, from the left
abbrev pub columns : ℕ → List (List Symbol) → List (List Symbol)
columns zero rows = []
columns (suc more) rows = map first_of rows ∷ columns more (map (drop 1) rows)

-- how many columns there are
abbrev pub column_count : List Strip → ℕ
column_count [] = 0
column_count (strip ∷ strips) = length strip.symbols

-- ---- the whole

abbrev pub strips_of : List Row → Option (List Strip)
strips_of rows = each_of (λ row. strip_of (pad_after (map (λ r. r.input_label) rows) row.input_label) row.symbols) rows

abbrev pub picture_with : {G : Type 0} → List Row → List Strip → List G → Picture G
picture_with rows strips gates =
    record {
      input_labels = map (λ row. row.input_label) rows;
      output_labels = map (λ row. row.output_label) rows;
      constants = map (λ strip. strip.constant) strips;
      garbage = map (λ strip. strip.is_garbage) strips;
      gates = gates;
    }

-- the rows of as many gates, each read from its column
abbrev pub picture_of_strips : {G : Type 0} → (List Symbol → Option G) → List Row → Option (List Strip)
    → Option (Picture G)
picture_of_strips read rows None = None
picture_of_strips read rows (Some strips) =
    if list_all (λ strip. length strip.symbols == column_count strips) strips
    then option_map (picture_with rows strips)
    (each_of read (columns (column_count strips) (map (λ strip. strip.symbols) strips)))
    else None

abbrev pub picture_of_rows : {G : Type 0} → (List Symbol → Option G) → Option (List Row) → Option (Picture G)
picture_of_rows read None = None
picture_of_rows read (Some rows) = picture_of_strips read rows (strips_of rows)

-- ---- blocks

-- a row before blocks; an empty one begins another block
abbrev pub with_row : List Lexeme → List (List (List Lexeme)) → List (List (List Lexeme))
with_row [] blocks = [] ∷ blocks
with_row (token ∷ tokens) [] = ((token ∷ tokens) ∷ []) ∷ []
with_row (token ∷ tokens) (block ∷ blocks) = ((token ∷ tokens) ∷ block) ∷ blocks

-- the blocks of rows between empty rows
abbrev pub blocks_of : List (List Lexeme) → List (List (List Lexeme))
blocks_of [] = [] ∷ []
blocks_of (row ∷ rows) = with_row row (blocks_of rows)

-- the same words
abbrev pub same_words : List (List ℕ) → List (List ℕ) → Bool
same_words [] [] = true
same_words (a ∷ as_) (b ∷ bs) = bytes_eq a b && same_words as_ bs
same_words some other = false

-- the same beginnings of wires, and the same ends
abbrev pub same_constants : List Mark → List Mark → Bool
same_constants a b =
    bytes_eq (flat_map (λ mark. glyph (first_symbol mark)) a) (flat_map (λ mark. glyph (first_symbol mark)) b)

abbrev pub same_garbage : List Bool → List Bool → Bool
same_garbage a b =
    bytes_eq (flat_map (λ is_garbage. glyph (last_symbol is_garbage)) a)
    (flat_map (λ is_garbage. glyph (last_symbol is_garbage)) b)

-- blocks of the same lines
abbrev pub same_lines : {G : Type 0} → Picture G → Picture G → Bool
same_lines p q =
    same_words p.input_labels q.input_labels && same_words p.output_labels q.output_labels
    && same_constants p.constants q.constants
    && same_garbage p.garbage q.garbage

-- the gates of all blocks, if their lines are the same
abbrev pub joined : {G : Type 0} → List (Picture G) → Option (Picture G)
joined [] = None
joined (picture ∷ []) = Some picture
joined (picture ∷ next ∷ rest) =
    if same_lines picture next
    then option_map (λ later. record picture { gates = picture.gates ++ later.gates }) (joined (next ∷ rest))
    else None

abbrev pub joined_if : {G : Type 0} → Option (List (Picture G)) → Option (Picture G)
joined_if None = None
joined_if (Some pictures) = joined pictures

-- what a block shows
abbrev pub block_shown : {G : Type 0} → (List Symbol → Option G) → List (List Lexeme) → Option (Picture G)
block_shown read rows = picture_of_rows read (each_of row_of rows)

-- what a text shows, if it is a drawing of gates that are read so
unfoldable pub shown_by : {G : Type 0} → (List Symbol → Option G) → List ℕ → Option (Picture G)
shown_by read text =
    joined_if (each_of (block_shown read) (blocks_of (map (λ line. tokens_of true [] line) (lines_of text))))

-- what a text shows, if it is the drawing of a circuit
abbrev pub shown : List ℕ → Option (Picture Shape)
shown text = shown_by gate_of text

-- ---- what the drawing of a circuit is to show

-- the targets of a swap from the top
abbrev pub from_top : Shape → Shape
from_top (Flip care want target) = Flip care want target
from_top (Swap care want a b) = if nat_lt a b then Swap care want a b else Swap care want b a
from_top (Peres a b c) = Peres a b c

-- gates on a circuit's lines
abbrev pub picture_on : {G : Type 0} → Cascade → List G → Picture G
picture_on c gates =
    record {
      input_labels = c.input_labels;
      output_labels = c.output_labels;
      constants = c.constants;
      garbage = c.garbage;
      gates = gates;
    }

abbrev pub picture_of : Cascade → Picture Shape
picture_of c = picture_on c (map from_top c.gates)
