-- What an SVG denotes: its symbols and labels, read by their places.
use Rattle.std.specs.Prelude.{ℕ, zero, suc, ◌+◌, ◌*◌, ◌==◌, ◌&&◌, ◌||◌, Bool, true, false, not, List, [], ◌∷◌, ◌++◌}
use Rattle.std.specs.Prelude.{codes, length, map, Option, Some, None, is_some, if◌then◌else◌}
use Rattle.std.specs.Char.{digit_value, is_ascii_digit}
use Rattle.std.specs.List.{flat_map}
use Rattle.std.specs.Option.{option_map}
use Rattle.std.specs.Str.{bytes_eq}
use Rattle.rv_gate.specs.Gate.{same}
use Rattle.rv_gate.specs.declared.circuit.Mark.{Mark}
use Rattle.rv_gate.specs.declared.circuit.Mark.TheVariants as marks
use Rattle.rv_draw.specs.declared.symbol.Symbol.{Symbol}
use Rattle.rv_draw.specs.declared.symbol.Symbol.TheVariants.{Wire, Crossing, Positive, Negative, Target, Exchanged}
use Rattle.rv_draw.specs.declared.symbol.Symbol.TheVariants.{Middle, Zero, One, Wall, H, T, Tdg, S, Sdg, Z, Y}
use Rattle.rv_draw.specs.Reading.{Picture, before, each_of, joined_if}
use Rattle.rv_picture.specs.Cut.{after, lines_in, value_with}
use Rattle.rv_picture.specs.Labels.{Begun, begun_by, label_of}
use Rattle.rv_picture.specs.Latex.{constants, is_on, symbols}
use Rattle.rv_picture.specs.Markup.{svg_escapes}
use Rattle.rv_picture.specs.Svg.{Stroke, close, middle_of, stroke}

-- ---- numbers and places

-- a number, and what stands after its digits
pub record Numbered : Type 0 where
  pub number : ℕ
  pub rest : List ℕ

-- after digits of this value
abbrev pub number_and : ℕ → List ℕ → Numbered
number_and n [] = record { number = n; rest = [] }
number_and n (c ∷ text) =
    if is_ascii_digit c then number_and (n * 10 + digit_value c) text else record { number = n; rest = c ∷ text }

-- something at a place
pub record At (X : Type 0) : Type 0 where
  pub x : ℕ
  pub y : ℕ
  pub what : X

abbrev pub at : {X : Type 0} → ℕ → ℕ → X → At X
at x y what = record { x = x; y = y; what = what }

abbrev pub body_and : ℕ → ℕ → Option (List ℕ) → Option (At (List ℕ))
body_and x y None = None
body_and x y (Some text) = Some (at x y text)

abbrev pub y_and : ℕ → Option (List ℕ) → Option (At (List ℕ))
y_and x None = None
y_and x (Some text) = body_and x (number_and 0 text).number (after (codes ")\">") (number_and 0 text).rest)

abbrev pub x_and : Option (List ℕ) → Option (At (List ℕ))
x_and None = None
x_and (Some text) = y_and (number_and 0 text).number (after (32 ∷ []) (number_and 0 text).rest)

-- a group and where it stands
abbrev pub placed_in : List ℕ → Option (At (List ℕ))
placed_in line = x_and (after (codes "<g transform=\"translate(") line)

-- ---- what stands in a block

-- the strokes of gates from the left, and the labels from the top
pub record Block : Type 0 where
  pub inputs : List (At (List ℕ × Mark))
  pub outputs : List (At (List ℕ × Bool))
  pub gates : List (At (List (At Stroke)))

-- strokes of a gate that is begun, gates and labels of a block that is begun, and whole blocks; from the end of a text
pub record Sheet : Type 0 where
  pub strokes : List (At Stroke)
  pub block : Block
  pub blocks : List (At Block)

abbrev pub no_block : Block
no_block = record { inputs = []; outputs = []; gates = [] }

abbrev pub no_sheet : Sheet
no_sheet = record { strokes = []; block = no_block; blocks = [] }

abbrev pub strokes : List Stroke
strokes =
    flat_map (λ s. stroke s false false ∷ stroke s true false ∷ stroke s false true ∷ stroke s true true ∷ []) symbols

-- how a symbol looks, spelled apart from the shapes of the writer
abbrev pub boxed : List ℕ → List ℕ
boxed letters =
    codes "<rect x=\"-11\" y=\"-11\" width=\"22\" height=\"22\"/>"
    ++ (codes "<text y=\"5\" text-anchor=\"middle\" fill=\"currentColor\" stroke=\"none\">" ++ (letters ++ codes "</text>"))

abbrev pub look : Symbol → List ℕ
look Wire = []
look Crossing = codes "<line/>"
look Wall = codes "<line y1=\"-6\" y2=\"6\"/>"
look Positive = codes "<circle r=\"4\" fill=\"currentColor\"/>"
look Negative = codes "<circle r=\"5\"/>"
look Target = codes "<circle r=\"10\"/><line y1=\"-10\" y2=\"10\"/>"
look Exchanged = codes "<path d=\"M-6-6L6 6M-6 6L6-6\"/>"
look Middle = codes "<circle r=\"8\"/><circle r=\"4\" fill=\"currentColor\"/>"
look Zero = boxed (48 ∷ [])
look One = boxed (49 ∷ [])
look H = boxed (72 ∷ [])
look S = boxed (83 ∷ [])
look Sdg = boxed (83 ∷ 226 ∷ 128 ∷ 160 ∷ [])
look T = boxed (84 ∷ [])
look Tdg = boxed (84 ∷ 226 ∷ 128 ∷ 160 ∷ [])
look Y = boxed (89 ∷ [])
look Z = boxed (90 ∷ [])

-- the lines to it from above and from it down, which end outside of what is not filled
abbrev pub lines_look : List ℕ → List ℕ → Bool → Bool → List ℕ
lines_look top bottom from_above is_joined =
    (if from_above then codes "<line y1=\"-15\" y2=\"" ++ (top ++ codes "\"/>") else [])
    ++ (if is_joined then codes "<line y1=\"" ++ (bottom ++ codes "\" y2=\"15\"/>") else [])

abbrev pub lines_to : Symbol → Bool → Bool → List ℕ
lines_to Wire = lines_look (codes "0") (codes "0")
lines_to Crossing = lines_look (codes "0") (codes "0")
lines_to Wall = lines_look (codes "0") (codes "0")
lines_to Positive = lines_look (codes "0") (codes "0")
lines_to Target = lines_look (codes "0") (codes "0")
lines_to Exchanged = lines_look (codes "0") (codes "0")
lines_to Zero = lines_look (codes "0") (codes "0")
lines_to One = lines_look (codes "0") (codes "0")
lines_to Negative = lines_look (codes "-5") (codes "5")
lines_to Middle = lines_look (codes "-8") (codes "8")
lines_to letter = lines_look (codes "-11") (codes "11")

abbrev pub stroke_look : Stroke → List ℕ
stroke_look mark = lines_to mark.symbol mark.from_above mark.is_joined ++ (look mark.symbol ++ close)

-- what stands after a label with its constant, and after one with its garbage
abbrev pub constant_look : Mark → List ℕ
constant_look marks.Zero = codes "<tspan> |0" ++ (226 ∷ 159 ∷ 169 ∷ codes "</tspan></text></g>")
constant_look marks.One = codes "<tspan> |1" ++ (226 ∷ 159 ∷ 169 ∷ codes "</tspan></text></g>")
constant_look marks.Input = codes "</text></g>"

abbrev pub garbage_look : Bool → List ℕ
garbage_look false = codes "</text></g>"
garbage_look true = codes "</text><line y1=\"-6\" y2=\"6\"/></g>"

-- a label with its constant, and one with its garbage
abbrev pub input_of : Option Begun → Option (List ℕ × Mark)
input_of None = None
input_of (Some begun) = option_map (λ mark. (label_of begun.label, mark)) (value_with constant_look constants begun.rest)

abbrev pub output_of : Option Begun → Option (List ℕ × Bool)
output_of None = None
output_of (Some begun) =
    option_map (λ g. (label_of begun.label, g)) (value_with garbage_look (true ∷ false ∷ []) begun.rest)

abbrev pub title_start : List ℕ
title_start = codes "<title>"

abbrev pub input_start : List ℕ
input_start =
    codes "<text x=\"-8\" y=\"4\" text-anchor=\"end\" fill=\"currentColor\" stroke=\"none\" xml:space=\"preserve\">"

abbrev pub output_start : List ℕ
output_start = codes "<text x=\"8\" y=\"4\" fill=\"currentColor\" stroke=\"none\" xml:space=\"preserve\">"

abbrev pub with_stroke : ℕ → ℕ → Option Stroke → Sheet → Option Sheet
with_stroke x y None sheet = None
with_stroke x y (Some s) sheet = Some (record sheet { strokes = at x y s ∷ sheet.strokes })

abbrev pub with_output : ℕ → ℕ → Option (List ℕ × Bool) → Sheet → Option Sheet
with_output x y None sheet = None
with_output x y (Some output) sheet =
    Some (record sheet { block = record sheet.block { outputs = at x y output ∷ sheet.block.outputs } })

abbrev pub with_input : ℕ → ℕ → Option (List ℕ × Mark) → Sheet → Option Sheet
with_input x y None sheet = None
with_input x y (Some input) sheet =
    Some (record sheet { block = record sheet.block { inputs = at x y input ∷ sheet.block.inputs } })

-- a gate begins, with the strokes after it
abbrev pub with_gate : ℕ → ℕ → Sheet → Sheet
with_gate x y sheet =
    record sheet { strokes = []; block = record sheet.block { gates = at x y sheet.strokes ∷ sheet.block.gates } }

-- a block begins, with the labels and gates after it
abbrev pub with_block : ℕ → ℕ → Sheet → Sheet
with_block x y sheet = record { strokes = sheet.strokes; block = no_block; blocks = at x y sheet.block ∷ sheet.blocks }

abbrev pub output_or_stroke : ℕ → ℕ → List ℕ → Option (List ℕ) → Sheet → Option Sheet
output_or_stroke x y text None sheet = with_stroke x y (value_with stroke_look strokes text) sheet
output_or_stroke x y text (Some label) sheet = with_output x y (output_of (begun_by svg_escapes 38 [] label)) sheet

abbrev pub input_or_else : ℕ → ℕ → List ℕ → Option (List ℕ) → Sheet → Option Sheet
input_or_else x y text None sheet = output_or_stroke x y text (after output_start text) sheet
input_or_else x y text (Some label) sheet = with_input x y (input_of (begun_by svg_escapes 38 [] label)) sheet

abbrev pub with_placed : Option (At (List ℕ)) → Sheet → Option Sheet
with_placed None sheet = None
with_placed (Some p) sheet =
    if bytes_eq p.what [] then Some (with_block p.x p.y sheet)
    else (if is_some (after title_start p.what) then Some (with_gate p.x p.y sheet)
    else input_or_else p.x p.y p.what (after input_start p.what) sheet)

-- wires, the ends of groups, and the first and the last line are not read
abbrev pub is_apart : List ℕ → Bool
is_apart line =
    bytes_eq line [] || bytes_eq line close || bytes_eq line (codes "</svg>") || is_some (after (codes "<svg ") line)
    || is_some (after (codes "<path d=\"M0 ") line)

abbrev pub with_line : List ℕ → Option Sheet → Option Sheet
with_line line None = None
with_line line (Some sheet) = if is_apart line then Some sheet else with_placed (placed_in line) sheet

abbrev pub sheet_of : List (List ℕ) → Option Sheet
sheet_of [] = Some no_sheet
sheet_of (line ∷ lines) = with_line line (sheet_of lines)

-- ---- pictures

-- things stand at the places of these numbers, from one on
abbrev pub are_at : {X : Type 0} → (ℕ → ℕ) → (ℕ → ℕ) → ℕ → List (At X) → Bool
are_at xs ys i [] = true
are_at xs ys i (a ∷ rest) = (a.x == xs i && a.y == ys i) && are_at xs ys (i + 1) rest

abbrev pub bare : Stroke
bare = stroke Wire false false

-- the strokes on so many lines from one on; where none stands there is only the wire
abbrev pub column_in : ℕ → ℕ → List (At Stroke) → Option (List Stroke)
column_in zero line [] = Some []
column_in zero line (s ∷ rest) = None
column_in (suc n) line [] = before (Some bare) (column_in n (line + 1) [])
column_in (suc n) line (s ∷ rest) =
    if s.x == 0 && s.y == middle_of line then before (Some s.what) (column_in n (line + 1) rest)
    else before (Some bare) (column_in n (line + 1) (s ∷ rest))

-- a vertical leads from one line to the next exactly where both have symbols on which it stands
abbrev pub are_joined : Bool → List Stroke → Bool
are_joined from [] = not from
are_joined from (s ∷ []) = same s.from_above from && not s.is_joined
are_joined from (s ∷ t ∷ rest) =
    same s.from_above from && (same s.is_joined (is_on s.symbol && is_on t.symbol) && are_joined s.is_joined (t ∷ rest))

abbrev pub symbols_if : Option (List Stroke) → Option (List Symbol)
symbols_if None = None
symbols_if (Some column) = if are_joined false column then Some (map (λ s. s.symbol) column) else None

abbrev pub read_if : {G : Type 0} → (List Symbol → Option G) → Option (List Symbol) → Option G
read_if read None = None
read_if read (Some column) = read column

abbrev pub gate_in : {G : Type 0} → (List Symbol → Option G) → ℕ → At (List (At Stroke)) → Option G
gate_in read lines gate = read_if read (symbols_if (column_in lines 0 gate.what))

abbrev pub picture_with : {G : Type 0} → Block → List G → Picture G
picture_with block gates =
    record {
      input_labels = map (λ a. a.what.0) block.inputs;
      output_labels = map (λ a. a.what.0) block.outputs;
      constants = map (λ a. a.what.1) block.inputs;
      garbage = map (λ a. a.what.1) block.outputs;
      gates = gates;
    }

-- the labels stand at the ends of the lines, and the gates one after another
abbrev pub is_placed : Block → Bool
is_placed block =
    are_at (λ i. 0) middle_of 0 block.inputs
    && (are_at (λ i. 30 * length block.gates) middle_of 0 block.outputs && are_at middle_of (λ i. 0) 0 block.gates)

abbrev pub block_shown : {G : Type 0} → (List Symbol → Option G) → Block → Option (Picture G)
block_shown read block =
    if is_placed block
    then option_map (picture_with block) (each_of (gate_in read (length block.inputs)) block.gates) else None

-- how many lines there are
abbrev pub line_count : List (At Block) → ℕ
line_count [] = 0
line_count (block ∷ rest) = length block.what.inputs

abbrev pub blocks_shown : {G : Type 0} → (List Symbol → Option G) → Option Sheet → Option (List (Picture G))
blocks_shown read None = None
blocks_shown read (Some sheet) =
    if are_at (λ k. 0) (λ k. 30 * (line_count sheet.blocks + 1) * k) 0 sheet.blocks
    then each_of (λ block. block_shown read block.what) sheet.blocks else None

-- what a text shows, if it is the SVG of gates that are read so
unfoldable pub svg_shown_by : {G : Type 0} → (List Symbol → Option G) → List ℕ → Option (Picture G)
svg_shown_by read text = joined_if (blocks_shown read (sheet_of (lines_in text)))
