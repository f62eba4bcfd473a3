-- A picture in LaTeX: environments of the package quantikz, an array each, in which a row is a line.
use Rattle.std.specs.Prelude.{ℕ, ◌+◌, Bool, true, false, not, List, [], ◌∷◌, ◌++◌, length, map, codes, Option, Some}
use Rattle.std.specs.Prelude.{None, slice_index_or, nat_lt, ◌==◌, ◌&&◌, if◌then◌else◌}
use Rattle.std.specs.Fork.{slice_chunk}
use Rattle.std.specs.List.{flat_map, list_all, range_with_len}
use Rattle.std.specs.Option.{option_map}
use Rattle.std.specs.Str.{bytes_eq}
use Rattle.rv_gate.specs.Gate.{same}
use Rattle.rv_gate.specs.Circuit.{Cascade}
use Rattle.rv_gate.specs.declared.circuit.Mark.{Mark}
use Rattle.rv_gate.specs.declared.circuit.Mark.TheVariants as marks
use Rattle.rv_draw.specs.declared.symbol.Symbol.{Symbol}
use Rattle.rv_draw.specs.declared.symbol.Symbol.TheVariants.{Wire, Crossing, Positive, Negative, Target, Exchanged}
use Rattle.rv_draw.specs.declared.symbol.Symbol.TheVariants.{Middle, Zero, One, Wall, H, T, Tdg, S, Sdg, Z, Y}
use Rattle.rv_draw.specs.Drawing.{block_count, label_at}
use Rattle.rv_draw.specs.Reading.{Picture, columns, each_of, joined_if}
use Rattle.rv_picture.specs.Cut.{cut, lines_in, text_of_lines, value_with, after}
use Rattle.rv_picture.specs.Labels.{Begun, begun_by, label_of, written_label}
use Rattle.rv_picture.specs.Markup.{latex_escapes}

-- ---- symbols

-- a symbol, and whether a vertical leads from it to the next line
pub record Cell : Type 0 where
  pub symbol : Symbol
  pub is_joined : Bool

-- a symbol that no vertical leaves; wires and verticals lead to the middle of a cross
abbrev pub symbol_text : Symbol → List ℕ
symbol_text Wire = codes " \\qw"
symbol_text Crossing = codes " \\qw{}"
symbol_text Positive = codes " \\control{}"
symbol_text Negative = codes " \\ocontrol{}"
symbol_text Target = codes " \\targ{}"
symbol_text Exchanged = codes " \\targX[outer sep=-.5em]{}"
symbol_text Middle = codes " \\gate[style={circle,inner sep=-2pt}]{\\bullet}"
symbol_text Zero = codes " \\push{0}"
symbol_text One = codes " \\push{1}"
symbol_text Wall = codes " \\trash{}"
symbol_text H = codes " \\gate{H}"
symbol_text T = codes " \\gate{T}"
symbol_text Tdg = codes " \\gate{T^\\dagger}"
symbol_text S = codes " \\gate{S}"
symbol_text Sdg = codes " \\gate{S^\\dagger}"
symbol_text Z = codes " \\gate{Z}"
symbol_text Y = codes " \\gate{Y}"

-- one from which a vertical leads to the next line
abbrev pub joined_text : Symbol → List ℕ
joined_text Positive = codes " \\ctrl{1}"
joined_text Negative = codes " \\octrl{1}"
joined_text symbol = symbol_text symbol ++ codes "\\vqw{1}"

-- a cell of the array
abbrev pub cell_text : Cell → List ℕ
cell_text cell = (if cell.is_joined then joined_text cell.symbol else symbol_text cell.symbol) ++ 32 ∷ []

abbrev pub symbols : List Symbol
symbols =
    Wire ∷ Crossing ∷ Positive ∷ Negative ∷ Target ∷ Exchanged ∷ Middle ∷ Zero ∷ One ∷ Wall ∷ H ∷ T ∷ Tdg ∷ S ∷ Sdg
    ∷ Z ∷ Y ∷ []

abbrev pub cells : List Cell
cells =
    map (λ s. record { symbol = s; is_joined = false }) symbols
    ++ map (λ s. record { symbol = s; is_joined = true }) symbols

-- ---- verticals

-- a symbol on which a vertical stands, if another such symbol is beside it
abbrev pub is_on : Symbol → Bool
is_on Wire = false
is_on symbol = true

-- whether a vertical leads from a line to the next of so many
abbrev pub is_joined_on : (ℕ → Symbol) → ℕ → ℕ → Bool
is_joined_on f lines line = nat_lt (line + 1) lines && (is_on (f line) && is_on (f (line + 1)))

abbrev pub cell_on : (ℕ → Symbol) → ℕ → ℕ → Cell
cell_on f lines line = record { symbol = f line; is_joined = is_joined_on f lines line }

-- ---- labels

abbrev pub latex_label : List ℕ → List ℕ
latex_label label = written_label latex_escapes label

-- what stands after the label of an input, with its constant
abbrev pub input_end : Mark → List ℕ
input_end marks.Input = codes "} "
input_end marks.Zero = codes " $\\ket{0}$} "
input_end marks.One = codes " $\\ket{1}$} "

abbrev pub input_text : List ℕ → Mark → List ℕ
input_text label mark = codes "\\lstick{" ++ (latex_label label ++ input_end mark)

-- how a wire ends
abbrev pub wire_end : Bool → List ℕ
wire_end true = codes " \\trash{} \\rstick{"
wire_end false = codes " \\qw \\rstick{"

abbrev pub output_text : List ℕ → Bool → List ℕ
output_text label is_garbage = wire_end is_garbage ++ (latex_label label ++ codes "} \\\\")

-- ---- the text

-- the cells of gates on a line, each after `&`
abbrev pub cells_text : {G : Type 0} → (G → ℕ → Symbol) → ℕ → List G → ℕ → List ℕ
cells_text draws lines gates line = flat_map (λ gate. 38 ∷ cell_text (cell_on (draws gate) lines line)) gates

abbrev pub row_text : {G : Type 0} → (G → ℕ → Symbol) → Cascade → List G → ℕ → List ℕ
row_text draws c gates line =
    input_text (label_at c.input_labels line) (slice_index_or c.constants line marks.Input)
    ++ (cells_text draws (length c.names) gates line ++ 38
    ∷ output_text (label_at c.output_labels line) (slice_index_or c.garbage line false))

abbrev pub begin_line : List ℕ
begin_line = codes "\\begin{quantikz}"

abbrev pub end_line : List ℕ
end_line = codes "\\end{quantikz}"

-- an empty line before each block but the first
abbrev pub empty_line : ℕ → List (List ℕ)
empty_line block = if block == 0 then [] else [] ∷ []

-- a block: an environment with a row for each line
abbrev pub block_lines : {G : Type 0} → (G → ℕ → Symbol) → ℕ → Cascade → List G → ℕ → List (List ℕ)
block_lines draws per_block c gates block =
    empty_line block ++ (begin_line
    ∷ (map (row_text draws c (slice_chunk gates per_block block)) (range_with_len 0 (length c.names)) ++ end_line ∷ []))

-- the LaTeX of such gates on a circuit's lines, with so many in a block at most
unfoldable pub latex_with : {G : Type 0} → (G → ℕ → Symbol) → ℕ → Cascade → List G → List ℕ
latex_with draws per_block c gates =
    text_of_lines
    (flat_map (block_lines draws per_block c gates) (range_with_len 0 (block_count per_block (length gates))))

-- ---- what it denotes

-- what a row shows
pub record Line : Type 0 where
  pub input_label : List ℕ
  pub constant : Mark
  pub cells : List Cell
  pub output_label : List ℕ
  pub is_garbage : Bool

-- how a symbol looks, spelled apart from the words of the writer
abbrev pub look : Symbol → List ℕ
look Wire = codes "qw"
look Crossing = codes "qw{}"
look Positive = codes "control{}"
look Negative = codes "ocontrol{}"
look Target = codes "targ{}"
look Exchanged = codes "targX[outer sep=-.5em]{}"
look Middle = codes "gate[style={circle,inner sep=-2pt}]{\\bullet}"
look Zero = codes "push{0}"
look One = codes "push{1}"
look Wall = codes "trash{}"
look H = codes "gate{H}"
look T = codes "gate{T}"
look Tdg = codes "gate{T^\\dagger}"
look S = codes "gate{S}"
look Sdg = codes "gate{S^\\dagger}"
look Z = codes "gate{Z}"
look Y = codes "gate{Y}"

-- one from which a vertical leads to the next line
abbrev pub joined_look : Symbol → List ℕ
joined_look Positive = codes "ctrl{1}"
joined_look Negative = codes "octrl{1}"
joined_look symbol = look symbol ++ codes "\\vqw{1}"

abbrev pub cell_look : Cell → List ℕ
cell_look cell = 32 ∷ 92 ∷ ((if cell.is_joined then joined_look cell.symbol else look cell.symbol) ++ 32 ∷ [])

abbrev pub constant_look : Mark → List ℕ
constant_look marks.Zero = codes " $\\ket{0}$} "
constant_look marks.One = codes " $\\ket{1}$} "
constant_look marks.Input = codes "} "

abbrev pub constants : List Mark
constants = marks.Input ∷ marks.Zero ∷ marks.One ∷ []

-- the constant at the end of an input's label
abbrev pub input_of : Option Begun → Option (List ℕ × Mark)
input_of None = None
input_of (Some begun) = option_map (λ mark. (label_of begun.label, mark)) (value_with constant_look constants begun.rest)

abbrev pub input_read : Option (List ℕ) → Option (List ℕ × Mark)
input_read None = None
input_read (Some text) = input_of (begun_by latex_escapes 92 [] text)

-- a row without its input
abbrev pub ended : Bool → Option Begun → Option Line
ended is_garbage None = None
ended is_garbage (Some begun) =
    if bytes_eq begun.rest (codes "} \\\\")
    then Some (record { input_label = []; constant = marks.Input; cells = []; output_label = label_of begun.label; is_garbage = is_garbage })
    else None

abbrev pub output_after : Bool → Option (List ℕ) → Option Line → Option Line
output_after is_garbage None other = other
output_after is_garbage (Some text) other = ended is_garbage (begun_by latex_escapes 92 [] text)

abbrev pub output_read : List ℕ → Option Line
output_read text =
    output_after false (after (codes " \\qw \\rstick{") text)
    (output_after true (after (codes " \\trash{} \\rstick{") text) None)

abbrev pub with_cell : Option Cell → Option Line → Option Line
with_cell None line = None
with_cell (Some cell) None = None
with_cell (Some cell) (Some line) = Some (record line { cells = cell ∷ line.cells })

-- the cells of the gates, and the last cell
abbrev pub cells_and_end : List (List ℕ) → Option Line
cells_and_end [] = None
cells_and_end (last ∷ []) = output_read last
cells_and_end (text ∷ next ∷ rest) = with_cell (value_with cell_look cells text) (cells_and_end (next ∷ rest))

abbrev pub with_input : Option (List ℕ × Mark) → Option Line → Option Line
with_input None line = None
with_input (Some input) None = None
with_input (Some input) (Some line) = Some (record line { input_label = input.0; constant = input.1 })

-- the cells between `&`
abbrev pub line_of_cells : List (List ℕ) → Option Line
line_of_cells [] = None
line_of_cells (first ∷ rest) = with_input (input_read (after (codes "\\lstick{") first)) (cells_and_end rest)

abbrev pub line_of : List ℕ → Option Line
line_of text = line_of_cells (cut 38 text)

-- whether a vertical leads from one line to the next exactly where both have symbols on which it stands
abbrev pub are_joined : List Cell → List Cell → Bool
are_joined [] [] = true
are_joined (cell ∷ row) (next ∷ below) =
    same cell.is_joined (is_on cell.symbol && is_on next.symbol) && are_joined row below
are_joined row below = false

abbrev pub all_joined : List Line → Bool
all_joined [] = true
all_joined (line ∷ []) = list_all (λ cell. not cell.is_joined) line.cells
all_joined (line ∷ next ∷ lines) = are_joined line.cells next.cells && all_joined (next ∷ lines)

abbrev pub picture_with : {G : Type 0} → List Line → List G → Picture G
picture_with lines gates =
    record {
      input_labels = map (λ line. line.input_label) lines;
      output_labels = map (λ line. line.output_label) lines;
      constants = map (λ line. line.constant) lines;
      garbage = map (λ line. line.is_garbage) lines;
      gates = gates;
    }

-- how many columns there are
abbrev pub column_count : List Line → ℕ
column_count [] = 0
column_count (line ∷ lines) = length line.cells

-- the lines of as many gates, each read from its column of symbols
abbrev pub picture_of_lines : {G : Type 0} → (List Symbol → Option G) → Option (List Line) → Option (Picture G)
picture_of_lines read None = None
picture_of_lines read (Some lines) =
    if all_joined lines
    then option_map (picture_with lines)
    (each_of read (columns (column_count lines) (map (λ line. map (λ cell. cell.symbol) line.cells) lines)))
    else None

abbrev pub with_line : List ℕ → List (List (List ℕ)) → List (List (List ℕ))
with_line line [] = (line ∷ []) ∷ []
with_line line (block ∷ blocks) = (line ∷ block) ∷ blocks

-- the rows of each environment; empty lines may stand between environments
abbrev pub environments : Bool → List (List ℕ) → Option (List (List (List ℕ)))
environments false [] = Some []
environments true [] = None
environments false (line ∷ lines) =
    if bytes_eq line [] then environments false lines else (if bytes_eq line begin_line
    then environments true lines else None)
environments true (line ∷ lines) =
    if bytes_eq line end_line then option_map (λ blocks. [] ∷ blocks) (environments false lines)
    else option_map (with_line line) (environments true lines)

abbrev pub pictures_of : {G : Type 0} → (List Symbol → Option G) → Option (List (List (List ℕ)))
    → Option (List (Picture G))
pictures_of read None = None
pictures_of read (Some blocks) = each_of (λ block. picture_of_lines read (each_of line_of block)) blocks

-- what a text shows, if it is the LaTeX of gates that are read so
unfoldable pub latex_shown_by : {G : Type 0} → (List Symbol → Option G) → List ℕ → Option (Picture G)
latex_shown_by read text = joined_if (pictures_of read (environments false (lines_in text)))
