-- A picture in SVG: a group for each block, in it the labels and wires of its lines and a group for each gate, in that
-- a group for each symbol.
use Rattle.std.specs.Prelude.{ℕ, ◌+◌, ◌-◌, ◌*◌, ◌==◌, ◌&&◌, Bool, true, false, not, List, [], ◌∷◌, ◌++◌, codes, decimal}
use Rattle.std.specs.Prelude.{length, max, min, nat_lt, slice_index_or, if◌then◌else◌}
use Rattle.std.specs.Fork.{slice_chunk}
use Rattle.std.specs.List.{count_by, flat_map, range_with_len}
use Rattle.rv_gate.specs.Circuit.{Cascade}
use Rattle.rv_gate.specs.declared.circuit.Mark.{Mark}
use Rattle.rv_gate.specs.declared.circuit.Mark.TheVariants as marks
use Rattle.rv_draw.specs.declared.symbol.Symbol.{Symbol}
use Rattle.rv_draw.specs.declared.symbol.Symbol.TheVariants.{Wire, Crossing, Positive, Negative, Target, Exchanged}
use Rattle.rv_draw.specs.declared.symbol.Symbol.TheVariants.{Middle, Zero, One, Wall, H, T, Tdg, S, Sdg, Z, Y}
use Rattle.rv_draw.specs.Drawing.{begins_character, block_count, label_at}
use Rattle.rv_picture.specs.Cut.{text_of_lines}
use Rattle.rv_picture.specs.Labels.{is_printable, written_label}
use Rattle.rv_picture.specs.Latex.{is_joined_on, is_on}
use Rattle.rv_picture.specs.Markup.{svg_escapes}

-- ---- places

-- lines and gates are 30 apart
abbrev pub middle_of : ℕ → ℕ
middle_of place = 30 * place + 15

-- a group at a place
abbrev pub placed : ℕ → ℕ → List ℕ → List ℕ
placed x y body = codes "<g transform=\"translate(" ++ (decimal x ++ (32 ∷ (decimal y ++ (codes ")\">" ++ body))))

abbrev pub close : List ℕ
close = codes "</g>"

-- ---- symbols

-- how far from the middle of a symbol the lines to it end
abbrev pub reach : Symbol → ℕ
reach Negative = 5
reach Middle = 8
reach H = 11
reach T = 11
reach Tdg = 11
reach S = 11
reach Sdg = 11
reach Z = 11
reach Y = 11
reach other = 0

abbrev pub reach_text : Symbol → List ℕ
reach_text Negative = codes "5"
reach_text Middle = codes "8"
reach_text H = codes "11"
reach_text T = codes "11"
reach_text Tdg = codes "11"
reach_text S = codes "11"
reach_text Sdg = codes "11"
reach_text Z = codes "11"
reach_text Y = codes "11"
reach_text other = codes "0"

abbrev pub box : List ℕ → List ℕ
box name =
    codes "<rect x=\"-11\" y=\"-11\" width=\"22\" height=\"22\"/><text y=\"5\" text-anchor=\"middle\" fill=\"currentColor\" stroke=\"none\">"
    ++ (name ++ codes "</text>")

abbrev pub shape : Symbol → List ℕ
shape Wire = []
shape Crossing = codes "<line/>"
shape Positive = codes "<circle r=\"4\" fill=\"currentColor\"/>"
shape Negative = codes "<circle r=\"5\"/>"
shape Target = codes "<circle r=\"10\"/><line y1=\"-10\" y2=\"10\"/>"
shape Exchanged = codes "<path d=\"M-6-6L6 6M-6 6L6-6\"/>"
shape Middle = codes "<circle r=\"8\"/><circle r=\"4\" fill=\"currentColor\"/>"
shape Zero = box (codes "0")
shape One = box (codes "1")
shape Wall = codes "<line y1=\"-6\" y2=\"6\"/>"
shape H = box (codes "H")
shape T = box (codes "T")
shape Tdg = box (84 ∷ 226 ∷ 128 ∷ 160 ∷ [])
shape S = box (codes "S")
shape Sdg = box (83 ∷ 226 ∷ 128 ∷ 160 ∷ [])
shape Z = box (codes "Z")
shape Y = box (codes "Y")

-- where the line from above ends
abbrev pub top_text : Symbol → List ℕ
top_text symbol = if reach symbol == 0 then codes "0" else codes "-" ++ reach_text symbol

-- the line to a symbol from above, and the one from it down, if they are there
abbrev pub up_if : Bool → Symbol → List ℕ
up_if on symbol = if on then codes "<line y1=\"-15\" y2=\"" ++ (top_text symbol ++ codes "\"/>") else []

abbrev pub down_if : Bool → Symbol → List ℕ
down_if on symbol = if on then codes "<line y1=\"" ++ (reach_text symbol ++ codes "\" y2=\"15\"/>") else []

-- a symbol, and whether verticals lead to it from above and from it down
pub record Stroke : Type 0 where
  pub symbol : Symbol
  pub from_above : Bool
  pub is_joined : Bool

abbrev pub stroke : Symbol → Bool → Bool → Stroke
stroke symbol from_above is_joined = record { symbol = symbol; from_above = from_above; is_joined = is_joined }

-- what is drawn of it, round its middle
abbrev pub body : Stroke → List ℕ
body mark = up_if mark.from_above mark.symbol ++ (down_if mark.is_joined mark.symbol ++ (shape mark.symbol ++ close))

abbrev pub mark_on : (ℕ → Symbol) → ℕ → ℕ → Stroke
mark_on f lines line =
    record {
      symbol = f line;
      from_above = not (line == 0) && is_joined_on f lines (line - 1);
      is_joined = is_joined_on f lines line;
    }

-- nothing is drawn where there is only the wire
abbrev pub stroke_lines : Stroke → ℕ → List (List ℕ)
stroke_lines mark line = if is_on mark.symbol then placed 0 (middle_of line) (body mark) ∷ [] else []

abbrev pub mark_lines : (ℕ → Symbol) → ℕ → ℕ → List (List ℕ)
mark_lines f lines line = stroke_lines (mark_on f lines line) line

-- ---- gates

abbrev pub titled : List ℕ → List ℕ
titled text = codes "<title>" ++ (text ++ codes "</title>")

-- the group of the gate at a place of a block: its title, and its symbols on so many lines
abbrev pub gate_lines : (ℕ → Symbol) → List ℕ → ℕ → ℕ → List (List ℕ)
gate_lines f title lines place =
    placed (middle_of place) 0 (titled title) ∷ (flat_map (mark_lines f lines) (range_with_len 0 lines) ++ close ∷ [])

-- the groups of gates from a place on
abbrev pub all_gate_lines : {G : Type 0} → (G → ℕ → Symbol) → (G → List ℕ) → ℕ → ℕ → List G → List (List ℕ)
all_gate_lines draws title lines place [] = []
all_gate_lines draws title lines place (gate ∷ gates) =
    gate_lines (draws gate) (title gate) lines place ++ all_gate_lines draws title lines (place + 1) gates

-- ---- lines

abbrev pub label_text : List ℕ → List ℕ
label_text label = written_label svg_escapes label

-- what stands after the label of an input, with its constant
abbrev pub input_end : Mark → List ℕ
input_end marks.Input = codes "</text></g>"
input_end marks.Zero = codes "<tspan> |0" ++ (226 ∷ 159 ∷ 169 ∷ codes "</tspan></text></g>")
input_end marks.One = codes "<tspan> |1" ++ (226 ∷ 159 ∷ 169 ∷ codes "</tspan></text></g>")

abbrev pub input_body : List ℕ → Mark → List ℕ
input_body label mark =
    codes "<text x=\"-8\" y=\"4\" text-anchor=\"end\" fill=\"currentColor\" stroke=\"none\" xml:space=\"preserve\">"
    ++ (label_text label
    ++ input_end mark)

-- what stands after the label of an output: a bar at the wire's end where it is garbage
abbrev pub output_end : Bool → List ℕ
output_end true = codes "</text><line y1=\"-6\" y2=\"6\"/></g>"
output_end false = codes "</text></g>"

abbrev pub output_body : List ℕ → Bool → List ℕ
output_body label is_garbage =
    codes "<text x=\"8\" y=\"4\" fill=\"currentColor\" stroke=\"none\" xml:space=\"preserve\">"
    ++ (label_text label ++ output_end is_garbage)

-- a wire is not drawn under a symbol that the lines to it don't reach
abbrev pub break_at : Symbol → ℕ → ℕ → List ℕ
break_at symbol x y =
    if reach symbol == 0 then [] else 72 ∷ (decimal (x - reach symbol) ++ (77 ∷ (decimal (x + reach symbol) ++ (32
    ∷ decimal y))))

abbrev pub breaks : {G : Type 0} → (G → ℕ → Symbol) → ℕ → ℕ → List G → List ℕ
breaks draws line place [] = []
breaks draws line place (gate ∷ gates) =
    break_at (draws gate line) (middle_of place) (middle_of line) ++ breaks draws line (place + 1) gates

abbrev pub wire : {G : Type 0} → (G → ℕ → Symbol) → ℕ → List G → List ℕ
wire draws line gates =
    codes "<path d=\"M0 " ++ (decimal (middle_of line) ++ (breaks draws line 0 gates ++ (72
    ∷ (decimal (30 * length gates) ++ codes "\"/>"))))

abbrev pub line_lines : {G : Type 0} → (G → ℕ → Symbol) → Cascade → List G → ℕ → List (List ℕ)
line_lines draws c gates line =
    placed 0 (middle_of line) (input_body (label_at c.input_labels line) (slice_index_or c.constants line marks.Input))
    ∷ wire draws line gates
    ∷ placed (30 * length gates) (middle_of line) (output_body (label_at c.output_labels line)
    (slice_index_or c.garbage line false))
    ∷ []

-- ---- the text

-- a block: its lines from the top, and its gates from the left
abbrev pub block_of : {G : Type 0} → (G → ℕ → Symbol) → (List (List ℕ) → G → List ℕ) → Cascade → ℕ → List G
    → List (List ℕ)
block_of draws title c block gates =
    placed 0 (30 * (length c.names + 1) * block) []
    ∷ (flat_map (line_lines draws c gates) (range_with_len 0 (length c.names))
    ++ (all_gate_lines draws (title c.names) (length c.names) 0 gates ++ close ∷ []))

abbrev pub block_lines : {G : Type 0} → (G → ℕ → Symbol) → (List (List ℕ) → G → List ℕ) → ℕ → Cascade → List G → ℕ
    → List (List ℕ)
block_lines draws title per_block c gates block = block_of draws title c block (slice_chunk gates per_block block)

-- whether a byte begins a character of three or four bytes: most of these are as wide as two others
abbrev pub begins_wide : ℕ → Bool
begins_wide byte = not (nat_lt byte 224)

-- how wide a label is, as it is shown
abbrev pub width : List ℕ → ℕ
width label =
    if is_printable label then count_by begins_character label + count_by begins_wide label else 2 * length label + 2

abbrev pub widest : List (List ℕ) → ℕ
widest [] = 0
widest (label ∷ labels) = max (width label) (widest labels)

-- the room beside the wires
abbrev pub margin : Cascade → ℕ
margin c = 8 * max (widest c.input_labels) (widest c.output_labels) + 56

-- how wide and how high the picture is
abbrev pub picture_width : Cascade → ℕ → ℕ
picture_width c columns = 2 * margin c + 30 * columns

abbrev pub picture_height : Cascade → ℕ → ℕ
picture_height c blocks = 30 * (length c.names + 1) * blocks

abbrev pub size : ℕ → ℕ → List ℕ
size wide high =
    decimal wide ++ (32 ∷ (decimal high ++ (codes "\" width=\"" ++ (decimal wide ++ (codes "\" height=\""
    ++ (decimal high ++ 34 ∷ []))))))

abbrev pub head : Cascade → ℕ → ℕ → List ℕ
head c columns blocks =
    codes "<svg xmlns=\"http://www.w3.org/2000/svg\" viewBox=\"-"
    ++ (decimal (margin c) ++ (codes " 0 " ++ (size (picture_width c columns) (picture_height c blocks)
    ++ codes " font-family=\"monospace\" font-size=\"13\" fill=\"none\" stroke=\"currentColor\">")))

-- as many columns as the widest block has
abbrev pub column_count : ℕ → ℕ → ℕ
column_count per_block gates = min per_block gates

-- the SVG of gates that draw these symbols and have these titles, on a circuit's lines, with so many in a block at most
unfoldable pub svg_with : {G : Type 0} → (G → ℕ → Symbol) → (List (List ℕ) → G → List ℕ) → ℕ → Cascade → List G → List ℕ
svg_with draws title per_block c gates =
    text_of_lines (
    head c (column_count per_block (length gates)) (block_count per_block (length gates))
    ∷ (flat_map (block_lines draws title per_block c gates) (range_with_len 0 (block_count per_block (length gates)))
    ++ codes "</svg>" ∷ [])
    )
