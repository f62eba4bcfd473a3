-- `draw`: a picture of a circuit, or of the network of an OpenQASM text, in one of three forms.
use Rattle.std.specs.Prelude.{◌≡◌, ◌==◌, ℕ, Bool, List, Option, Some, if◌then◌else◌}
use Rattle.rv_gate.specs.Circuit.{Cascade}
use Rattle.rv_gate.specs.Gate.{run}
use Rattle.rv_net.specs.Amplitude.{amplitude}
use Rattle.rv_net.specs.declared.net.TheConstants.{MOST_OPS}
use Rattle.rv_net.specs.declared.op.Op.{Op}
use Rattle.rv_qasm.specs.Reading.{Listing}
use Rattle.rv_draw.specs.declared.symbol.Symbol.{Symbol}
use Rattle.rv_draw.specs.Drawing.{text_with}
use Rattle.rv_draw.specs.Layout.{IsLaidOut}
use Rattle.rv_draw.specs.Networks.{network_picture, op_of}
use Rattle.rv_draw.specs.Reading.{Picture, gate_of, picture_of, shown_by}
use Rattle.rv_draw.specs.Symbols.{op_symbol_on, symbol_on}
use Rattle.rv_picture.specs.Latex.{latex_shown_by, latex_with}
use Rattle.rv_picture.specs.Lines.{network_lines}
use Rattle.rv_picture.specs.Svg.{svg_with}
use Rattle.rv_picture.specs.SvgReading.{svg_shown_by}
use Rattle.rv_picture.specs.Titles.{gate_title, op_title}
use Rattle.rv_words.specs.declared.command.Form.{Form}
use Rattle.rv_words.specs.declared.command.Form.TheVariants as form
use Rattle.rv_words.specs.declared.command.PictureForm.{PictureForm}
use Rattle.rv_words.specs.declared.command.PictureForm.TheVariants.{Text, Svg, Latex}
use Rattle.rv_inputs.specs.Formats.{circuit, program}
use Rattle.rv_cmd.specs.Limits.{LimitedText, unlimited}
use Rattle.rv_cmd.specs.Row.{ReadsFirst, one}

-- how many gates or operations a block has at the most; by 0 all stand in one
abbrev pub per_block : ℕ → ℕ
per_block wrap = if wrap == 0 then MOST_OPS else wrap

-- the text of a picture in a form, of gates that draw these symbols on a circuit's lines, and have these titles
abbrev pub picture_text : {G : Type 0} → PictureForm → (G → ℕ → Symbol) → (List (List ℕ) → G → List ℕ) → ℕ → Cascade
    → List G → List ℕ
picture_text Text draws title wrap c gates = text_with draws (per_block wrap) c gates
picture_text Svg draws title wrap c gates = svg_with draws title (per_block wrap) c gates
picture_text Latex draws title wrap c gates = latex_with draws (per_block wrap) c gates

-- what a text in a form shows, by its definition, where each gate is read from its column
abbrev pub shown_in : {G : Type 0} → PictureForm → (List Symbol → Option G) → List ℕ → Option (Picture G)
shown_in Text read text = shown_by read text
shown_in Svg read text = svg_shown_by read text
shown_in Latex read text = latex_shown_by read text

-- The rows of a text stand below one another, in blocks of as many gates as are asked for at most.
abbrev pub StandsInRows : PictureForm → ℕ → List ℕ → Type 0
StandsInRows Text wrap text = IsLaidOut (per_block wrap) text
StandsInRows Svg wrap text = Unit {0}
StandsInRows Latex wrap text = Unit {0}

abbrev pub circuit_text : PictureForm → ℕ → Cascade → List ℕ
circuit_text picture wrap c = picture_text picture symbol_on gate_title wrap c c.gates

abbrev pub network_text : PictureForm → ℕ → Cascade → List Op → List ℕ
network_text picture wrap lines ops = picture_text picture op_symbol_on op_title wrap lines ops

abbrev pub draw_report : PictureForm → ℕ → Cascade → LimitedText
draw_report picture wrap c = unlimited (circuit_text picture wrap c)

abbrev pub network_report : PictureForm → ℕ → Listing → LimitedText
network_report picture wrap listing =
    unlimited (network_text picture wrap (network_lines listing.net.lines) listing.net.ops)

-- Read column by column, the text shows the circuit: its labels, constants and garbage, and its gates (a swap's lines
-- from the top), which do the same to every word.
pub record IsDrawing (picture : PictureForm) (wrap : ℕ) (c : Cascade) (text : List ℕ) : Type 0 where
  pub shows : shown_in picture gate_of text ≡ Some (picture_of c)
  pub same : (word : List Bool) → run (picture_of c).gates word ≡ run c.gates word
  pub laid_out : StandsInRows picture wrap text

-- Read column by column, the text shows the network: its operations in their order, one a column (lines that may be
-- exchanged from the top), which have the same amplitudes.
pub record IsNetworkDrawing (picture : PictureForm) (wrap : ℕ) (listing : Listing) (text : List ℕ) : Type 0 where
  pub shows : shown_in picture op_of text ≡ Some (network_picture (network_lines listing.net.lines) listing.net.ops)
  pub same : (x y : List Bool)
      → amplitude (network_picture (network_lines listing.net.lines) listing.net.ops).gates x y
      ≡ amplitude listing.net.ops x y
  pub laid_out : StandsInRows picture wrap text

-- by the form of the input
abbrev pub draw_row : Form → PictureForm → ℕ → ReadsFirst
draw_row form.Qasm picture wrap = one program (network_report picture wrap) (IsNetworkDrawing picture wrap)
draw_row _ picture wrap = one circuit (draw_report picture wrap) (IsDrawing picture wrap)
