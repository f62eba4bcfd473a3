-- The SVG that was written shows what was drawn.
use Rattle.std.proofs.Common.{◌≡◌, ◌≢◌, ℕ, zero, suc, ◌+◌, ◌-◌, ◌*◌, ◌/◌, ◌%◌, ◌^◌, ◌<◌, ◌≤◌, Bool, true, false, cond}
use Rattle.std.proofs.Common.{not, ◌&&◌, List, [], ◌∷◌, ◌++◌, length, map, nat_eq, nat_lt, Some, None, refl, sym, ap}
use Rattle.std.proofs.Common.{◌∙◌, inl, inr, arith, append_assoc, true≢false, ne_eqb, eq-eqb}
use Rattle.std.specs.Prelude.{Option, codes, decimal, slice_index_or}
use Rattle.std.specs.Char.{digit_value, is_ascii_digit}
use Rattle.std.specs.Fmt.{digit_glyph, digits, digits_onto}
use Rattle.std.specs.Fork.{slice_chunk}
use Rattle.std.specs.List.{flat_map, range_with_len}
use Rattle.std.specs.Option.{option_map}
use Rattle.std.specs.Str.{all_ascii_digits}
use Rattle.std.specs.Str.Parse.{digits_value_after}
use Rattle.std.proofs.lemmas.Bool.{and_from, and_parts, cases_Bool, cases_eq, cases_lt, eqb-true, le-ltb, lt-ltb}
use Rattle.std.proofs.lemmas.List.{append-nil, length-drop, length-take}
use Rattle.std.proofs.lemmas.List.Elements.{All-head, All-tail}
use Rattle.std.proofs.lemmas.List.FromFn.{length-map-range_with_len}
use Rattle.std.proofs.lemmas.List.Folds.{list_all-append}
use Rattle.std.proofs.Math.Nat.{div-le_self, mul-le-mul_right, mul_assoc}
use Rattle.rv_text.proofs.inside.Decimal.{decimal_value-decimal, is_decimal-decimal}
use Rattle.rv_gate.specs.Circuit.{Cascade, IsCascade, IsLabel}
use Rattle.rv_gate.specs.Gate.{same}
use Rattle.rv_gate.specs.declared.circuit.Mark.{Mark}
use Rattle.rv_gate.specs.declared.circuit.Mark.TheVariants as marks
use Rattle.rv_gate.proofs.Bits.{and_false, same_self}
use Rattle.rv_gate.proofs.Lists.{map_map}
use Rattle.rv_draw.specs.declared.symbol.Symbol.{Symbol}
use Rattle.rv_draw.specs.declared.symbol.Symbol.TheVariants.{Wire, Crossing, Positive, Negative, Target, Exchanged}
use Rattle.rv_draw.specs.declared.symbol.Symbol.TheVariants.{Middle, Zero, One, Wall, H, T, Tdg, S, Sdg, Z, Y}
use Rattle.rv_draw.specs.Drawing.{block_count, label_at}
use Rattle.rv_draw.specs.Reading.{Picture, before, each_of, joined, joined_if, picture_on}
use Rattle.rv_draw.proofs.inside.ReadBack.{AreRead, block_picture, chunk_read}
use Rattle.rv_draw.proofs.inside.ReadBack.{all_joined as pictures_joined}
use Rattle.rv_draw.proofs.inside.SheetBack.{by_place, label_is}
use Rattle.rv_picture.specs.Cut.{after, lines_in, text_of_lines}
use Rattle.rv_picture.specs.Labels.{shown_label, written_label}
use Rattle.rv_picture.specs.Latex.{is_joined_on, is_on}
use Rattle.rv_picture.specs.Markup.{svg_escapes}
use Rattle.rv_picture.specs.Svg.{Stroke, all_gate_lines, block_lines, block_of, body, break_at, breaks, close}
use Rattle.rv_picture.specs.Svg.{column_count, gate_lines, head, input_body, input_end, line_lines, margin, mark_lines}
use Rattle.rv_picture.specs.Svg.{mark_on, middle_of, output_body, output_end, picture_height}
use Rattle.rv_picture.specs.Svg.{picture_width, placed, reach, size, stroke, svg_with, titled, wire}
use Rattle.rv_picture.specs.SvgReading.{At, Block, Numbered, Sheet, are_at, are_joined, at, bare, block_shown}
use Rattle.rv_picture.specs.SvgReading.{blocks_shown, body_and, column_in, gate_in, input_of, is_placed, line_count}
use Rattle.rv_picture.specs.SvgReading.{no_block, number_and, output_of, picture_with, placed_in, read_if, sheet_of}
use Rattle.rv_picture.specs.SvgReading.{svg_shown_by, symbols_if, with_input, with_line, with_output}
use Rattle.rv_picture.specs.SvgReading.{with_placed, y_and}
use Rattle.rv_picture.proofs.LabelsBack.{AllText, AreBack, bytes_back, is_high, label_back, shown_high, written_all}
use Rattle.rv_picture.proofs.Cutting.{AreLines, lacks, lines_append, lines_back}
use Rattle.rv_picture.proofs.SvgTexts.{svg_text}

-- ---- numbers and places

digits_read : (v : ℕ) (ds : List ℕ) (c : ℕ) (rest : List ℕ) → all_ascii_digits ds ≡ true → is_ascii_digit c ≡ false
    → number_and v (ds ++ c ∷ rest) ≡ record { number = digits_value_after 10 v ds; rest = c ∷ rest }
digits_read v [] c rest are off = rw off refl
digits_read v (d ∷ ds) c rest are off =
    let both = and_parts (is_ascii_digit d) (all_ascii_digits ds) are in
    rw both.0 (digits_read (v * 10 + digit_value d) ds c rest both.1 off)

number_back : (n c : ℕ) (rest : List ℕ) → n < 2 ^ 64 → is_ascii_digit c ≡ false → number_and 0 (decimal n ++ c ∷ rest) ≡ record { number = n; rest = c ∷ rest }
number_back n c rest lt off =
    digits_read 0 (decimal n) c rest (and_parts (nat_lt 0 (length (decimal n))) (all_ascii_digits (decimal n)) (is_decimal-decimal n lt)).1 off
    ∙ ap (λ (v : ℕ). record { number = v; rest = c ∷ rest }) (decimal_value-decimal n lt)

placed_back : (x y : ℕ) (text : List ℕ) → x < 2 ^ 64 → y < 2 ^ 64 → placed_in (placed x y text) ≡ Some (at x y text)
placed_back x y text hx hy =
    ap (λ (n : Numbered). y_and n.number (after (32 ∷ []) n.rest)) (number_back x 32 (decimal y ++ (codes ")\">" ++ text)) hx refl)
    ∙ ap (λ (n : Numbered). body_and x n.number (after (codes ")\">") n.rest)) (number_back y 41 (codes "\">" ++ text) hy refl)

line_placed : (x y : ℕ) (text : List ℕ) (sheet : Sheet) → x < 2 ^ 64 → y < 2 ^ 64 → with_line (placed x y text) (Some sheet) ≡ with_placed (Some (at x y text)) sheet
line_placed x y text sheet hx hy = ap (λ (p : Option (At (List ℕ))). with_placed p sheet) (placed_back x y text hx hy)

-- ---- strokes

stroke_read : (s : Symbol) (from_above is_joined : Bool) (x y : ℕ) (sheet : Sheet)
    → with_placed (Some (at x y (body (stroke s from_above is_joined)))) sheet ≡ Some (record sheet { strokes = at x y (stroke s from_above is_joined) ∷ sheet.strokes })
stroke_read Wire false false x y sheet = refl
stroke_read Wire false true x y sheet = refl
stroke_read Wire true false x y sheet = refl
stroke_read Wire true true x y sheet = refl
stroke_read Crossing false false x y sheet = refl
stroke_read Crossing false true x y sheet = refl
stroke_read Crossing true false x y sheet = refl
stroke_read Crossing true true x y sheet = refl
stroke_read Positive false false x y sheet = refl
stroke_read Positive false true x y sheet = refl
stroke_read Positive true false x y sheet = refl
stroke_read Positive true true x y sheet = refl
stroke_read Negative false false x y sheet = refl
stroke_read Negative false true x y sheet = refl
stroke_read Negative true false x y sheet = refl
stroke_read Negative true true x y sheet = refl
stroke_read Target false false x y sheet = refl
stroke_read Target false true x y sheet = refl
stroke_read Target true false x y sheet = refl
stroke_read Target true true x y sheet = refl
stroke_read Exchanged false false x y sheet = refl
stroke_read Exchanged false true x y sheet = refl
stroke_read Exchanged true false x y sheet = refl
stroke_read Exchanged true true x y sheet = refl
stroke_read Middle false false x y sheet = refl
stroke_read Middle false true x y sheet = refl
stroke_read Middle true false x y sheet = refl
stroke_read Middle true true x y sheet = refl
stroke_read Zero false false x y sheet = refl
stroke_read Zero false true x y sheet = refl
stroke_read Zero true false x y sheet = refl
stroke_read Zero true true x y sheet = refl
stroke_read One false false x y sheet = refl
stroke_read One false true x y sheet = refl
stroke_read One true false x y sheet = refl
stroke_read One true true x y sheet = refl
stroke_read Wall false false x y sheet = refl
stroke_read Wall false true x y sheet = refl
stroke_read Wall true false x y sheet = refl
stroke_read Wall true true x y sheet = refl
stroke_read H false false x y sheet = refl
stroke_read H false true x y sheet = refl
stroke_read H true false x y sheet = refl
stroke_read H true true x y sheet = refl
stroke_read T false false x y sheet = refl
stroke_read T false true x y sheet = refl
stroke_read T true false x y sheet = refl
stroke_read T true true x y sheet = refl
stroke_read Tdg false false x y sheet = refl
stroke_read Tdg false true x y sheet = refl
stroke_read Tdg true false x y sheet = refl
stroke_read Tdg true true x y sheet = refl
stroke_read S false false x y sheet = refl
stroke_read S false true x y sheet = refl
stroke_read S true false x y sheet = refl
stroke_read S true true x y sheet = refl
stroke_read Sdg false false x y sheet = refl
stroke_read Sdg false true x y sheet = refl
stroke_read Sdg true false x y sheet = refl
stroke_read Sdg true true x y sheet = refl
stroke_read Z false false x y sheet = refl
stroke_read Z false true x y sheet = refl
stroke_read Z true false x y sheet = refl
stroke_read Z true true x y sheet = refl
stroke_read Y false false x y sheet = refl
stroke_read Y false true x y sheet = refl
stroke_read Y true false x y sheet = refl
stroke_read Y true true x y sheet = refl

is_wire : (s : Symbol) → is_on s ≡ false → s ≡ Wire
is_wire Wire off = refl
is_wire Crossing off = absurd (true≢false off)
is_wire Positive off = absurd (true≢false off)
is_wire Negative off = absurd (true≢false off)
is_wire Target off = absurd (true≢false off)
is_wire Exchanged off = absurd (true≢false off)
is_wire Middle off = absurd (true≢false off)
is_wire Zero off = absurd (true≢false off)
is_wire One off = absurd (true≢false off)
is_wire Wall off = absurd (true≢false off)
is_wire H off = absurd (true≢false off)
is_wire T off = absurd (true≢false off)
is_wire Tdg off = absurd (true≢false off)
is_wire S off = absurd (true≢false off)
is_wire Sdg off = absurd (true≢false off)
is_wire Z off = absurd (true≢false off)
is_wire Y off = absurd (true≢false off)

abbrev sheet_with : List (At Stroke) → Block → List (At Block) → Sheet
sheet_with strokes block blocks = record { strokes = strokes; block = block; blocks = blocks }

-- the strokes of a column on the lines from one on
abbrev strokes_at : (ℕ → Symbol) → ℕ → ℕ → ℕ → List (At Stroke)
strokes_at f n start m = flat_map (λ line. cond (is_on (f line)) (at 0 (middle_of line) (mark_on f n line) ∷ []) []) (range_with_len start m)

marks_read : (f : ℕ → Symbol) (n start m : ℕ) (rest : List (List ℕ)) (strokes : List (At Stroke)) (block : Block) (blocks : List (At Block)) → start + m ≤ 64
    → sheet_of rest ≡ Some (sheet_with strokes block blocks)
    → sheet_of (flat_map (mark_lines f n) (range_with_len start m) ++ rest) ≡ Some (sheet_with (strokes_at f n start m ++ strokes) block blocks)
marks_read f n start zero rest strokes block blocks few is = is
marks_read f n start (suc m) rest strokes block blocks few is =
    let line : List ℕ = placed 0 (middle_of start) (body (mark_on f n start)) in
    let later : List (List ℕ) = flat_map (mark_lines f n) (range_with_len (start + 1) m) in
    let more : List (At Stroke) = strokes_at f n (start + 1) m in
    let below : sheet_of (later ++ rest) ≡ Some (sheet_with (more ++ strokes) block blocks) = marks_read f n (start + 1) m rest strokes block blocks (omega (arith, few)) is in
    let here : with_line line (Some (sheet_with (more ++ strokes) block blocks)) ≡ Some (sheet_with (at 0 (middle_of start) (mark_on f n start) ∷ (more ++ strokes)) block blocks) =
    line_placed 0 (middle_of start) (body (mark_on f n start)) (sheet_with (more ++ strokes) block blocks) (omega arith) (omega (arith, few))
    ∙ stroke_read (f start) (mark_on f n start).from_above (mark_on f n start).is_joined 0 (middle_of start) (sheet_with (more ++ strokes) block blocks) in
    elim (is_on (f start)) as (λ t. sheet_of ((cond t (line ∷ []) [] ++ later) ++ rest) ≡ Some (sheet_with ((cond t (at 0 (middle_of start) (mark_on f n start) ∷ []) [] ++ more) ++ strokes) block blocks)) [
      | true ↦ ap (with_line line) below ∙ here
      | false ↦ below
    ]

-- ---- gates

gate_read : (f : ℕ → Symbol) (title : List ℕ) (n place : ℕ) (rest : List (List ℕ)) (block : Block) (blocks : List (At Block)) → n ≤ 64 → place < 2 ^ 50
    → sheet_of rest ≡ Some (sheet_with [] block blocks)
    → sheet_of (gate_lines f title n place ++ rest)
    ≡ Some (sheet_with [] (record block { gates = at (middle_of place) 0 (strokes_at f n 0 n) ∷ block.gates }) blocks)
gate_read f title n place rest block blocks few lt is =
    let lines : List (List ℕ) = flat_map (mark_lines f n) (range_with_len 0 n) in
    let strokes : List (At Stroke) = strokes_at f n 0 n in
    let first : List ℕ = placed (middle_of place) 0 (titled title) in
    ap (λ (ls : List (List ℕ)). with_line first (sheet_of ls)) (append_assoc lines (close ∷ []) rest)
    ∙ ap (with_line first) (marks_read f n 0 n (close ∷ rest) [] block blocks (omega (arith, few)) (ap (with_line close) is))
    ∙ ap (λ (ss : List (At Stroke)). with_line first (Some (sheet_with ss block blocks))) (append-nil strokes)
    ∙ line_placed (middle_of place) 0 (titled title) (sheet_with strokes block blocks) (omega (arith, lt)) (omega arith)

abbrev gates_at : {G : Type 0} → (G → ℕ → Symbol) → ℕ → ℕ → List G → List (At (List (At Stroke)))
gates_at draws n place [] = []
gates_at draws n place (gate ∷ gates) = at (middle_of place) 0 (strokes_at (draws gate) n 0 n) ∷ gates_at draws n (place + 1) gates

gates_read : {G : Type 0} (draws : G → ℕ → Symbol) (title : G → List ℕ) (n place : ℕ) (gates : List G) (rest : List (List ℕ)) (blocks : List (At Block))
    → n ≤ 64 → place + length gates < 2 ^ 50 → sheet_of rest ≡ Some (sheet_with [] no_block blocks)
    → sheet_of (all_gate_lines draws title n place gates ++ rest)
    ≡ Some (sheet_with [] (record { inputs = []; outputs = []; gates = gates_at draws n place gates }) blocks)
gates_read draws title n place [] rest blocks few lt is = is
gates_read draws title n place (gate ∷ gates) rest blocks few lt is =
    ap sheet_of (append_assoc (gate_lines (draws gate) (title gate) n place) (all_gate_lines draws title n (place + 1) gates) rest)
    ∙ gate_read (draws gate) (title gate) n place (all_gate_lines draws title n (place + 1) gates ++ rest) (record { inputs = []; outputs = []; gates = gates_at draws n (place + 1) gates }) blocks few
    (omega (arith, lt)) (gates_read draws title n (place + 1) gates rest blocks few (omega (arith, lt)) is)

-- ---- labels

escapes_back : AreBack svg_escapes 38 svg_escapes
escapes_back = (λ rest. refl, (λ rest. refl, (λ rest. refl, (λ rest. refl, (λ rest. refl, tt)))))

input_read : (x y : ℕ) (label : List ℕ) (mark : Mark) (sheet : Sheet) → IsLabel label
    → with_placed (Some (at x y (input_body label mark))) sheet ≡ with_input x y (Some (label, mark)) sheet
input_read x y label marks.Input sheet is =
    ap (λ begun. with_input x y (input_of begun) sheet) (bytes_back svg_escapes 38 60 (shown_label label) (codes "/text></g>") escapes_back refl refl)
    ∙ ap (λ (l : List ℕ). with_input x y (Some (l, marks.Input)) sheet) (label_back label is)
input_read x y label marks.Zero sheet is =
    ap (λ begun. with_input x y (input_of begun) sheet) (bytes_back svg_escapes 38 60 (shown_label label) (codes "tspan> |0" ++ (226 ∷ 159 ∷ 169 ∷ codes "</tspan></text></g>")) escapes_back refl refl)
    ∙ ap (λ (l : List ℕ). with_input x y (Some (l, marks.Zero)) sheet) (label_back label is)
input_read x y label marks.One sheet is =
    ap (λ begun. with_input x y (input_of begun) sheet) (bytes_back svg_escapes 38 60 (shown_label label) (codes "tspan> |1" ++ (226 ∷ 159 ∷ 169 ∷ codes "</tspan></text></g>")) escapes_back refl refl)
    ∙ ap (λ (l : List ℕ). with_input x y (Some (l, marks.One)) sheet) (label_back label is)

output_read : (x y : ℕ) (label : List ℕ) (g : Bool) (sheet : Sheet) → IsLabel label
    → with_placed (Some (at x y (output_body label g))) sheet ≡ with_output x y (Some (label, g)) sheet
output_read x y label true sheet is =
    ap (λ begun. with_output x y (output_of begun) sheet) (bytes_back svg_escapes 38 60 (shown_label label) (codes "/text><line y1=\"-6\" y2=\"6\"/></g>") escapes_back refl refl)
    ∙ ap (λ (l : List ℕ). with_output x y (Some (l, true)) sheet) (label_back label is)
output_read x y label false sheet is =
    ap (λ begun. with_output x y (output_of begun) sheet) (bytes_back svg_escapes 38 60 (shown_label label) (codes "/text></g>") escapes_back refl refl)
    ∙ ap (λ (l : List ℕ). with_output x y (Some (l, false)) sheet) (label_back label is)

abbrev input_at : Cascade → ℕ → At (List ℕ × Mark)
input_at c line = at 0 (middle_of line) (label_at c.input_labels line, slice_index_or c.constants line marks.Input)

abbrev output_at : Cascade → ℕ → ℕ → At (List ℕ × Bool)
output_at c count line = at (30 * count) (middle_of line) (label_at c.output_labels line, slice_index_or c.garbage line false)

abbrev block_with : Cascade → ℕ → ℕ → ℕ → List (At (List (At Stroke))) → Block
block_with c count start m gates =
    record { inputs = map (input_at c) (range_with_len start m); outputs = map (output_at c count) (range_with_len start m); gates = gates }

lines_read : {G : Type 0} (draws : G → ℕ → Symbol) (c : Cascade) (gates : List G) (start m : ℕ) (rest : List (List ℕ)) (drawn : List (At (List (At Stroke)))) (blocks : List (At Block))
    → IsCascade c → start + m ≤ length c.names → length gates < 2 ^ 50
    → sheet_of rest ≡ Some (sheet_with [] (record { inputs = []; outputs = []; gates = drawn }) blocks)
    → sheet_of (flat_map (line_lines draws c gates) (range_with_len start m) ++ rest) ≡ Some (sheet_with [] (block_with c (length gates) start m drawn) blocks)
lines_read draws c gates start zero rest drawn blocks is within few read = read
lines_read draws c gates start (suc m) rest drawn blocks is within few read =
    let n : ℕ = length c.names in
    let small = is.names.few in
    let x : ℕ = 30 * length gates in
    let y : ℕ = middle_of start in
    let in_label : List ℕ = label_at c.input_labels start in
    let mark : Mark = slice_index_or c.constants start marks.Input in
    let out_label : List ℕ = label_at c.output_labels start in
    let g : Bool = slice_index_or c.garbage start false in
    let later : Block = block_with c (length gates) (start + 1) m drawn in
    let with_out : Block = record later { outputs = output_at c (length gates) start ∷ later.outputs } in
    let first : List ℕ = placed 0 y (input_body in_label mark) in
    let last : List ℕ = placed x y (output_body out_label g) in
    ap (λ (s : Option Sheet). with_line first (with_line (wire draws start gates) (with_line last s))) (lines_read draws c gates (start + 1) m rest drawn blocks is (omega (arith, within)) few read)
    ∙ ap (λ (s : Option Sheet). with_line first (with_line (wire draws start gates) s)) (
    line_placed x y (output_body out_label g) (sheet_with [] later blocks) (omega (arith, few)) (omega (arith, within, small))
    ∙ output_read x y out_label g (sheet_with [] later blocks) (label_is c.output_labels n start is.output_labels (omega (arith, within)))
    )
    ∙ line_placed 0 y (input_body in_label mark) (sheet_with [] with_out blocks) (omega arith) (omega (arith, within, small))
    ∙ input_read 0 y in_label mark (sheet_with [] with_out blocks) (label_is c.input_labels n start is.input_labels (omega (arith, within)))

-- ---- blocks

-- what stands in the block of some gates
abbrev block_at : {G : Type 0} → (G → ℕ → Symbol) → Cascade → List G → Block
block_at draws c gates = block_with c (length gates) 0 (length c.names) (gates_at draws (length c.names) 0 gates)

block_read : {G : Type 0} (draws : G → ℕ → Symbol) (title : List (List ℕ) → G → List ℕ) (c : Cascade) (k : ℕ) (gates : List G) (rest : List (List ℕ)) (blocks : List (At Block))
    → IsCascade c → length gates < 2 ^ 50 → 30 * (length c.names + 1) * k < 2 ^ 64 → sheet_of rest ≡ Some (sheet_with [] no_block blocks)
    → sheet_of (block_of draws title c k gates ++ rest) ≡ Some (sheet_with [] no_block (at 0 (30 * (length c.names + 1) * k) (block_at draws c gates) ∷ blocks))
block_read draws title c k gates rest blocks is few low read =
    let n : ℕ = length c.names in
    let y : ℕ = 30 * (n + 1) * k in
    let small = is.names.few in
    let rows : List (List ℕ) = flat_map (line_lines draws c gates) (range_with_len 0 n) in
    let columns : List (List ℕ) = all_gate_lines draws (title c.names) n 0 gates in
    ap (λ (ls : List (List ℕ)). with_line (placed 0 y []) (sheet_of ls)) (append_assoc rows (columns ++ close ∷ []) rest ∙ ap (λ (ls : List (List ℕ)). rows ++ ls) (append_assoc columns (close ∷ []) rest))
    ∙ ap (with_line (placed 0 y [])) (
    lines_read draws c gates 0 n (columns ++ (close ∷ rest)) (gates_at draws n 0 gates) blocks is (omega arith) few
    (gates_read draws (title c.names) n 0 gates (close ∷ rest) blocks small (omega (arith, few)) (ap (with_line close) read))
    )
    ∙ line_placed 0 y [] (sheet_with [] (block_at draws c gates) blocks) (omega arith) low

-- ---- places

at_places : {X : Type 0} (xs ys : ℕ → ℕ) (what : ℕ → X) (start m : ℕ) → are_at xs ys start (map (λ i. at (xs i) (ys i) (what i)) (range_with_len start m)) ≡ true
at_places xs ys what start zero = refl
at_places xs ys what start (suc m) = and_from _ _ (and_from _ _ (eq-eqb (xs start) (xs start) refl) (eq-eqb (ys start) (ys start) refl)) (at_places xs ys what (start + 1) m)

gates_places : {G : Type 0} (draws : G → ℕ → Symbol) (n place : ℕ) (gates : List G) → are_at middle_of (λ i. 0) place (gates_at draws n place gates) ≡ true
gates_places draws n place [] = refl
gates_places draws n place (gate ∷ gates) = and_from _ _ (and_from _ _ (eq-eqb (middle_of place) (middle_of place) refl) refl) (gates_places draws n (place + 1) gates)

gates_count : {G : Type 0} (draws : G → ℕ → Symbol) (n place : ℕ) (gates : List G) → length (gates_at draws n place gates) ≡ length gates
gates_count draws n place [] = refl
gates_count draws n place (gate ∷ gates) = (let rest = gates_count draws n (place + 1) gates in omega (arith, rest))

-- ---- columns

-- what stands next stands on another line
abbrev Later : ℕ → List (At Stroke) → Type 0
Later line [] = Unit {0}
Later line (s ∷ rest) = s.y ≢ middle_of line

later_at : (f : ℕ → Symbol) (n line start m : ℕ) → line < start → Later line (strokes_at f n start m)
later_at f n line start zero lt = tt
later_at f n line start (suc m) lt =
    elim (is_on (f start)) as (λ t. Later line (cond t (at 0 (middle_of start) (mark_on f n start) ∷ []) [] ++ strokes_at f n (start + 1) m)) [
      | true ↦ (λ e. omega (arith, e, lt))
      | false ↦ later_at f n line (start + 1) m (omega (arith, lt))
    ]

skipped : (m line : ℕ) (strokes : List (At Stroke)) → Later line strokes → column_in (suc m) line strokes ≡ before (Some bare) (column_in m (line + 1) strokes)
skipped m line [] later = refl
skipped m line (s ∷ rest) later =
    let none : Option (List Stroke) = before (Some bare) (column_in m (line + 1) (s ∷ rest)) in
    let some : Option (List Stroke) = before (Some s.what) (column_in m (line + 1) rest) in
    ap (λ (t : Bool). cond (nat_eq s.x 0 && t) some none) (ne_eqb s.y (middle_of line) later) ∙ ap (λ (t : Bool). cond t some none) (and_false (nat_eq s.x 0))

-- nothing is drawn where there is only the wire
bare_on : (f : ℕ → Symbol) (n line : ℕ) → is_on (f line) ≡ false → bare ≡ mark_on f n line
bare_on f n line off =
    let joined : is_joined_on f n line ≡ false =
    ap (λ (t : Bool). nat_lt (line + 1) n && (t && is_on (f (line + 1)))) off ∙ and_false (nat_lt (line + 1) n) in
    let above : (mark_on f n line).from_above ≡ false =
    elim (cases_eq line 0) [
      | inl zero_line ↦ ap (λ (t : Bool). not t && is_joined_on f n (line - 1)) (eq-eqb line 0 zero_line)
      | inr other ↦
          (let same_line : line - 1 + 1 ≡ line = omega (arith, other) in
          ap (λ (k : ℕ). not (nat_eq line 0) && (nat_lt (line - 1 + 1) n && (is_on (f (line - 1)) && is_on (f k)))) same_line
          ∙ ap (λ (t : Bool). not (nat_eq line 0) && (nat_lt (line - 1 + 1) n && (is_on (f (line - 1)) && t))) off
          ∙ ap (λ (t : Bool). not (nat_eq line 0) && (nat_lt (line - 1 + 1) n && t)) (and_false (is_on (f (line - 1))))
          ∙ ap (λ (t : Bool). not (nat_eq line 0) && t) (and_false (nat_lt (line - 1 + 1) n)) ∙ and_false (not (nat_eq line 0)))
    ] in
    ap (λ (s : Symbol). stroke s false false) (sym (is_wire (f line) off))
    ∙ ap (λ (t : Bool). stroke (f line) t false) (sym above) ∙ ap (λ (t : Bool). stroke (f line) (mark_on f n line).from_above t) (sym joined)

column_back : (f : ℕ → Symbol) (n start m : ℕ) → column_in m start (strokes_at f n start m) ≡ Some (map (mark_on f n) (range_with_len start m))
column_back f n start zero = refl
column_back f n start (suc m) =
    let here : At Stroke = at 0 (middle_of start) (mark_on f n start) in
    let more : List (At Stroke) = strokes_at f n (start + 1) m in
    let rest : List Stroke = map (mark_on f n) (range_with_len (start + 1) m) in
    elim (cases_Bool (is_on (f start))) [
      | inl on ↦
          ap (λ (t : Bool). column_in (suc m) start (cond t (here ∷ []) [] ++ more)) on
          ∙ ap (λ (t : Bool). cond t (before (Some (mark_on f n start)) (column_in m (start + 1) more)) (before (Some bare) (column_in m (start + 1) (here ∷ more)))) (eq-eqb (middle_of start) (middle_of start) refl)
          ∙ ap (before (Some (mark_on f n start))) (column_back f n (start + 1) m)
      | inr off ↦
          ap (λ (t : Bool). column_in (suc m) start (cond t (here ∷ []) [] ++ more)) off
          ∙ skipped m start more (later_at f n start (start + 1) m (omega arith))
          ∙ ap (before (Some bare)) (column_back f n (start + 1) m) ∙ ap (λ (s : Stroke). Some (s ∷ rest)) (bare_on f n start off)
    ]

joined_back : (f : ℕ → Symbol) (n start m : ℕ) → start + suc m ≡ n → are_joined (mark_on f n start).from_above (map (mark_on f n) (range_with_len start (suc m))) ≡ true
joined_back f n start zero sum =
    let off : is_joined_on f n start ≡ false = ap (λ (t : Bool). t && (is_on (f start) && is_on (f (start + 1)))) (le-ltb (start + 1) n (omega (arith, sum))) in
    and_from _ _ (same_self (mark_on f n start).from_above) (ap not off)
joined_back f n start (suc m) sum =
    let on : is_joined_on f n start ≡ (is_on (f start) && is_on (f (start + 1))) = ap (λ (t : Bool). t && (is_on (f start) && is_on (f (start + 1)))) (lt-ltb (start + 1) n (omega (arith, sum))) in
    let back : start + 1 - 1 ≡ start = omega arith in
    let above : (mark_on f n (start + 1)).from_above ≡ is_joined_on f n start =
    ap (λ (t : Bool). not t && is_joined_on f n (start + 1 - 1)) (ne_eqb (start + 1) 0 (λ e. omega (arith, e))) ∙ ap (is_joined_on f n) back in
    and_from _ _ (same_self (mark_on f n start).from_above)
    (and_from _ _ (ap (λ (t : Bool). same t (is_on (f start) && is_on (f (start + 1)))) on ∙ same_self (is_on (f start) && is_on (f (start + 1))))
    (ap (λ (t : Bool). are_joined t (map (mark_on f n) (range_with_len (start + 1) (suc m)))) (sym above) ∙ joined_back f n (start + 1) m (omega (arith, sum))))

gate_back : {K : Type 0} (read : List Symbol → Option K) (f : ℕ → Symbol) (n x y : ℕ) → 1 ≤ n → gate_in read n (at x y (strokes_at f n 0 n)) ≡ read (map f (range_with_len 0 n))
gate_back read f zero x y some = absurd (omega (arith, some))
gate_back {K = K} read f (suc m) x y some =
    let n : ℕ = suc m in
    let column : List Stroke = map (mark_on f n) (range_with_len 0 n) in
    ap (λ (c : Option (List Stroke)). read_if read (symbols_if c)) (column_back f n 0 n)
    ∙ ap (λ (t : Bool). read_if read (cond t (Some (map (λ (s : Stroke). s.symbol) column)) None)) (joined_back f n 0 m (omega arith))
    ∙ ap read (map_map (λ (s : Stroke). s.symbol) (mark_on f n) (range_with_len 0 n))

gates_back : {G K : Type 0} (draws : G → ℕ → Symbol) (read : List Symbol → Option K) (kept : G → K) (n place : ℕ) (gates : List G) → 1 ≤ n → AreRead draws read kept n gates
    → each_of (gate_in read n) (gates_at draws n place gates) ≡ Some (map kept gates)
gates_back draws read kept n place [] some are = refl
gates_back {K = K} draws read kept n place (gate ∷ gates) some are =
    ap (λ (first : Option K). before first (each_of (gate_in read n) (gates_at draws n (place + 1) gates)))
    (gate_back read (draws gate) n (middle_of place) 0 some ∙ All-head (λ g. read (map (draws g) (range_with_len 0 n)) ≡ Some (kept g)) gate gates are)
    ∙ ap (before (Some (kept gate))) (gates_back draws read kept n (place + 1) gates some (All-tail (λ g. read (map (draws g) (range_with_len 0 n)) ≡ Some (kept g)) gate gates are))

-- ---- the picture of a block

labels_count : (c : Cascade) → length (map (input_at c) (range_with_len 0 (length c.names))) ≡ length c.names
labels_count c = length-map-range_with_len (input_at c) 0 (length c.names)

picture_same : {K : Type 0} (c : Cascade) (count : ℕ) (drawn : List (At (List (At Stroke)))) (kept : List K) → IsCascade c
    → picture_with (block_with c count 0 (length c.names) drawn) kept ≡ picture_on c kept
picture_same c count drawn kept is =
    let lines : List ℕ = range_with_len 0 (length c.names) in
    rw (
      map_map (λ (a : At (List ℕ × Mark)). a.what.0) (input_at c) lines ∙ by_place c.input_labels (length c.names) [] is.input_labels.count,
      map_map (λ (a : At (List ℕ × Bool)). a.what.0) (output_at c count) lines ∙ by_place c.output_labels (length c.names) [] is.output_labels.count,
      map_map (λ (a : At (List ℕ × Mark)). a.what.1) (input_at c) lines ∙ by_place c.constants (length c.names) marks.Input is.constants,
      map_map (λ (a : At (List ℕ × Bool)). a.what.1) (output_at c count) lines ∙ by_place c.garbage (length c.names) false is.garbage,
    ) refl

all_placed : {G : Type 0} (draws : G → ℕ → Symbol) (c : Cascade) (gates : List G) → is_placed (block_at draws c gates) ≡ true
all_placed draws c gates =
    let n : ℕ = length c.names in
    and_from _ _ (at_places {X = List ℕ × Mark} (λ i. 0) middle_of (λ line. (label_at c.input_labels line, slice_index_or c.constants line marks.Input)) 0 n)
    (and_from _ _
    (ap (λ (count : ℕ). are_at (λ i. 30 * count) middle_of 0 (map (output_at c (length gates)) (range_with_len 0 n))) (gates_count draws n 0 gates)
    ∙ at_places {X = List ℕ × Bool} (λ i. 30 * length gates) middle_of (λ line. (label_at c.output_labels line, slice_index_or c.garbage line false)) 0 n)
    (gates_places draws n 0 gates))

block_back : {G K : Type 0} (draws : G → ℕ → Symbol) (read : List Symbol → Option K) (kept : G → K) (c : Cascade) (gates : List G) → IsCascade c → AreRead draws read kept (length c.names) gates
    → block_shown read (block_at draws c gates) ≡ Some (picture_on c (map kept gates))
block_back {K = K} draws read kept c gates is are =
    let n : ℕ = length c.names in
    let block : Block = block_at draws c gates in
    ap (λ (t : Bool). cond t (option_map (picture_with block) (each_of (gate_in read (length block.inputs)) block.gates)) None) (all_placed draws c gates)
    ∙ ap (λ (lines : ℕ). option_map (picture_with block) (each_of (gate_in read lines) block.gates)) (labels_count c)
    ∙ ap (option_map (picture_with block)) (gates_back draws read kept n 0 gates is.some are)
    ∙ ap Some (picture_same c (length gates) (gates_at draws n 0 gates) (map kept gates) is)

body_free : (s : Symbol) (from_above is_joined : Bool) → lacks 10 (body (stroke s from_above is_joined)) ≡ true
body_free Wire false false = refl
body_free Wire false true = refl
body_free Wire true false = refl
body_free Wire true true = refl
body_free Crossing false false = refl
body_free Crossing false true = refl
body_free Crossing true false = refl
body_free Crossing true true = refl
body_free Positive false false = refl
body_free Positive false true = refl
body_free Positive true false = refl
body_free Positive true true = refl
body_free Negative false false = refl
body_free Negative false true = refl
body_free Negative true false = refl
body_free Negative true true = refl
body_free Target false false = refl
body_free Target false true = refl
body_free Target true false = refl
body_free Target true true = refl
body_free Exchanged false false = refl
body_free Exchanged false true = refl
body_free Exchanged true false = refl
body_free Exchanged true true = refl
body_free Middle false false = refl
body_free Middle false true = refl
body_free Middle true false = refl
body_free Middle true true = refl
body_free Zero false false = refl
body_free Zero false true = refl
body_free Zero true false = refl
body_free Zero true true = refl
body_free One false false = refl
body_free One false true = refl
body_free One true false = refl
body_free One true true = refl
body_free Wall false false = refl
body_free Wall false true = refl
body_free Wall true false = refl
body_free Wall true true = refl
body_free H false false = refl
body_free H false true = refl
body_free H true false = refl
body_free H true true = refl
body_free T false false = refl
body_free T false true = refl
body_free T true false = refl
body_free T true true = refl
body_free Tdg false false = refl
body_free Tdg false true = refl
body_free Tdg true false = refl
body_free Tdg true true = refl
body_free S false false = refl
body_free S false true = refl
body_free S true false = refl
body_free S true true = refl
body_free Sdg false false = refl
body_free Sdg false true = refl
body_free Sdg true false = refl
body_free Sdg true true = refl
body_free Z false false = refl
body_free Z false true = refl
body_free Z true false = refl
body_free Z true true = refl
body_free Y false false = refl
body_free Y false true = refl
body_free Y true false = refl
body_free Y true true = refl

-- ---- lines

-- a digit to the base 10
glyph_lacks : (d : ℕ) → not (nat_eq (digit_glyph false d) 10) ≡ true
glyph_lacks d =
    elim (cases_lt d 10) [
      | inl small ↦ rw (lt-ltb d 10 small) (ap not (ne_eqb (48 + d) 10 (λ e. omega (arith, e))))
      | inr large ↦ rw (le-ltb d 10 large) (ap not (ne_eqb (87 + d) 10 (λ e. omega (arith, e))))
    ]

digits_lack : (k n : ℕ) (acc : List ℕ) → lacks 10 acc ≡ true → lacks 10 (digits_onto k 10 false n acc) ≡ true
digits_lack zero n acc free = free
digits_lack (suc k) n acc free =
    let more : List ℕ = digit_glyph false (n % 10) ∷ acc in
    let held : lacks 10 more ≡ true = and_from _ _ (glyph_lacks (n % 10)) free in
    elim (nat_eq (n / 10) 0) as (λ t. lacks 10 (cond t more (digits_onto k 10 false (n / 10) more)) ≡ true) [ true ↦ held | false ↦ digits_lack k (n / 10) more held ]

pub number_lacks : (n : ℕ) → lacks 10 (decimal n) ≡ true
unfolding digits
number_lacks n = digits_lack 64 n [] refl

pub both_lack : (a b : List ℕ) → lacks 10 a ≡ true → lacks 10 b ≡ true → lacks 10 (a ++ b) ≡ true
both_lack a b free_a free_b = list_all-append (λ byte. not (nat_eq byte 10)) a b ∙ and_from _ _ free_a free_b

placed_lacks : (x y : ℕ) (text : List ℕ) → lacks 10 text ≡ true → lacks 10 (placed x y text) ≡ true
placed_lacks x y text free =
    both_lack (decimal x) (32 ∷ (decimal y ++ (codes ")\">" ++ text))) (number_lacks x) (both_lack (decimal y) (codes ")\">" ++ text) (number_lacks y) free)

escapes_lack : AllText (λ byte. not (nat_eq byte 10)) svg_escapes
escapes_lack = (refl, (refl, (refl, (refl, (refl, tt)))))

pub label_lacks : (label : List ℕ) → lacks 10 (written_label svg_escapes label) ≡ true
label_lacks label =
    written_all (λ byte. not (nat_eq byte 10)) svg_escapes (shown_label label) escapes_lack
    (λ byte plain high. elim (cases_Bool (nat_eq byte 10)) [
      | inl is ↦ absurd (true≢false (sym high ∙ ap is_high (eqb-true byte 10 is)))
      | inr other ↦ ap not other
    ])
    (shown_high label)

input_lacks : (label : List ℕ) (mark : Mark) → lacks 10 (input_body label mark) ≡ true
input_lacks label marks.Input = both_lack (written_label svg_escapes label) (input_end marks.Input) (label_lacks label) refl
input_lacks label marks.Zero = both_lack (written_label svg_escapes label) (input_end marks.Zero) (label_lacks label) refl
input_lacks label marks.One = both_lack (written_label svg_escapes label) (input_end marks.One) (label_lacks label) refl

output_lacks : (label : List ℕ) (g : Bool) → lacks 10 (output_body label g) ≡ true
output_lacks label true = both_lack (written_label svg_escapes label) (output_end true) (label_lacks label) refl
output_lacks label false = both_lack (written_label svg_escapes label) (output_end false) (label_lacks label) refl

break_lacks : (s : Symbol) (x y : ℕ) → lacks 10 (break_at s x y) ≡ true
break_lacks s x y =
    let shown : List ℕ = 72 ∷ (decimal (x - reach s) ++ (77 ∷ (decimal (x + reach s) ++ (32 ∷ decimal y)))) in
    let free : lacks 10 shown ≡ true =
    both_lack (decimal (x - reach s)) (77 ∷ (decimal (x + reach s) ++ (32 ∷ decimal y))) (number_lacks (x - reach s)) (both_lack (decimal (x + reach s)) (32 ∷ decimal y) (number_lacks (x + reach s)) (number_lacks y)) in
    elim (nat_eq (reach s) 0) as (λ t. lacks 10 (cond t [] shown) ≡ true) [ true ↦ refl | false ↦ free ]

breaks_lack : {G : Type 0} (draws : G → ℕ → Symbol) (line place : ℕ) (gates : List G) → lacks 10 (breaks draws line place gates) ≡ true
breaks_lack draws line place [] = refl
breaks_lack draws line place (gate ∷ gates) =
    both_lack (break_at (draws gate line) (middle_of place) (middle_of line)) (breaks draws line (place + 1) gates) (break_lacks (draws gate line) (middle_of place) (middle_of line)) (breaks_lack draws line (place + 1) gates)

wire_lacks : {G : Type 0} (draws : G → ℕ → Symbol) (line : ℕ) (gates : List G) → lacks 10 (wire draws line gates) ≡ true
wire_lacks draws line gates =
    let last : List ℕ = 72 ∷ (decimal (30 * length gates) ++ codes "\"/>") in
    both_lack (decimal (middle_of line)) (breaks draws line 0 gates ++ last) (number_lacks (middle_of line))
    (both_lack (breaks draws line 0 gates) last (breaks_lack draws line 0 gates) (both_lack (decimal (30 * length gates)) (codes "\"/>") (number_lacks (30 * length gates)) refl))

marks_one_line : (f : ℕ → Symbol) (n : ℕ) (lines : List ℕ) → AreLines (flat_map (mark_lines f n) lines)
marks_one_line f n [] = tt
marks_one_line f n (line ∷ lines) =
    let mark : Stroke = mark_on f n line in
    let shown : List ℕ = placed 0 (middle_of line) (body mark) in
    let later : List (List ℕ) = flat_map (mark_lines f n) lines in
    elim (is_on (f line)) as (λ t. AreLines (cond t (shown ∷ []) [] ++ later)) [
      | true ↦ (placed_lacks 0 (middle_of line) (body mark) (body_free mark.symbol mark.from_above mark.is_joined), marks_one_line f n lines)
      | false ↦ marks_one_line f n lines
    ]

-- each gate's title is one line
abbrev pub AreOneLine : {G : Type 0} → (List (List ℕ) → G → List ℕ) → Type 0
AreOneLine {G = G} title = (names : List (List ℕ)) (gate : G) → lacks 10 (title names gate) ≡ true

gates_one_line : {G : Type 0} (draws : G → ℕ → Symbol) (title : List (List ℕ) → G → List ℕ) (names : List (List ℕ)) (n place : ℕ) (gates : List G) → AreOneLine title
    → AreLines (all_gate_lines draws (title names) n place gates)
gates_one_line draws title names n place [] lack = tt
gates_one_line draws title names n place (gate ∷ gates) lack =
    let marks_of : List (List ℕ) = flat_map (mark_lines (draws gate) n) (range_with_len 0 n) in
    lines_append (gate_lines (draws gate) (title names gate) n place) (all_gate_lines draws (title names) n (place + 1) gates) (
      placed_lacks (middle_of place) 0 (titled (title names gate)) (both_lack (title names gate) (codes "</title>") (lack names gate) refl),
      lines_append marks_of (close ∷ []) (marks_one_line (draws gate) n (range_with_len 0 n)) (refl, tt),
    )
    (gates_one_line draws title names n (place + 1) gates lack)

rows_one_line : {G : Type 0} (draws : G → ℕ → Symbol) (c : Cascade) (gates : List G) (lines : List ℕ) → AreLines (flat_map (line_lines draws c gates) lines)
rows_one_line draws c gates [] = tt
rows_one_line draws c gates (line ∷ lines) = (
  placed_lacks 0 (middle_of line) (input_body (label_at c.input_labels line) (slice_index_or c.constants line marks.Input)) (input_lacks (label_at c.input_labels line) (slice_index_or c.constants line marks.Input)),
  (
    wire_lacks draws line gates,
    (
      placed_lacks (30 * length gates) (middle_of line) (output_body (label_at c.output_labels line) (slice_index_or c.garbage line false)) (output_lacks (label_at c.output_labels line) (slice_index_or c.garbage line false)),
      rows_one_line draws c gates lines,
    ),
  ),
)

blocks_one_line : {G : Type 0} (draws : G → ℕ → Symbol) (title : List (List ℕ) → G → List ℕ) (per : ℕ) (c : Cascade) (gates : List G) (ks : List ℕ) → AreOneLine title
    → AreLines (flat_map (block_lines draws title per c gates) ks)
blocks_one_line draws title per c gates [] lack = tt
blocks_one_line draws title per c gates (k ∷ ks) lack =
    let chunk = slice_chunk gates per k in
    let rows : List (List ℕ) = flat_map (line_lines draws c chunk) (range_with_len 0 (length c.names)) in
    let columns : List (List ℕ) = all_gate_lines draws (title c.names) (length c.names) 0 chunk in
    lines_append (block_lines draws title per c gates k) (flat_map (block_lines draws title per c gates) ks) (
      placed_lacks 0 (30 * (length c.names + 1) * k) [] refl,
      lines_append rows (columns ++ close ∷ []) (rows_one_line draws c chunk (range_with_len 0 (length c.names)))
          (lines_append columns (close ∷ []) (gates_one_line draws title c.names (length c.names) 0 chunk lack) (refl, tt)),
    )
    (blocks_one_line draws title per c gates ks lack)

size_lacks : (wide high : ℕ) → lacks 10 (size wide high) ≡ true
size_lacks wide high =
    let last : List ℕ = decimal high ++ 34 ∷ [] in
    let third : List ℕ = decimal wide ++ (codes "\" height=\"" ++ last) in
    let second : List ℕ = decimal high ++ (codes "\" width=\"" ++ third) in
    both_lack (decimal wide) (32 ∷ second) (number_lacks wide)
    (both_lack (decimal high) (codes "\" width=\"" ++ third) (number_lacks high)
    (both_lack (decimal wide) (codes "\" height=\"" ++ last) (number_lacks wide) (both_lack (decimal high) (34 ∷ []) (number_lacks high) refl)))

head_lacks : (c : Cascade) (columns blocks : ℕ) → lacks 10 (head c columns blocks) ≡ true
head_lacks c columns blocks =
    let last : List ℕ = codes " font-family=\"monospace\" font-size=\"13\" fill=\"none\" stroke=\"currentColor\">" in
    let shown : List ℕ = size (picture_width c columns) (picture_height c blocks) in
    both_lack (decimal (margin c)) (codes " 0 " ++ (shown ++ last)) (number_lacks (margin c))
    (both_lack shown last (size_lacks (picture_width c columns) (picture_height c blocks)) refl)

-- ---- the whole

blocks_read : {G : Type 0} (draws : G → ℕ → Symbol) (title : List (List ℕ) → G → List ℕ) (per : ℕ) (c : Cascade) (gates : List G) (start m : ℕ) (rest : List (List ℕ)) (blocks : List (At Block))
    → IsCascade c → length gates < 2 ^ 50 → start + m < 2 ^ 51 → sheet_of rest ≡ Some (sheet_with [] no_block blocks)
    → sheet_of (flat_map (block_lines draws title per c gates) (range_with_len start m) ++ rest)
    ≡ Some (sheet_with [] no_block (map (λ k. at 0 (30 * (length c.names + 1) * k) (block_at draws c (slice_chunk gates per k))) (range_with_len start m) ++ blocks))
blocks_read draws title per c gates start zero rest blocks is few low read = read
blocks_read draws title per c gates start (suc m) rest blocks is few low read =
    let n : ℕ = length c.names in
    let placed_at : ℕ → At Block = λ k. at 0 (30 * (n + 1) * k) (block_at draws c (slice_chunk gates per k)) in
    let later : List (List ℕ) = flat_map (block_lines draws title per c gates) (range_with_len (start + 1) m) in
    ap sheet_of (append_assoc (block_lines draws title per c gates start) later rest)
    ∙ block_read draws title c start (slice_chunk gates per start) (later ++ rest) (map placed_at (range_with_len (start + 1) m) ++ blocks) is
    (chunk_few per gates start few) (low_enough n start is.names.few (omega (arith, low)))
    (blocks_read draws title per c gates (start + 1) m rest blocks is few (omega (arith, low)) read)
  where
    chunk_few : {G : Type 0} (per : ℕ) (gates : List G) (k : ℕ) → length gates < 2 ^ 50 → length (slice_chunk gates per k) < 2 ^ 50
    chunk_few per gates k few = simp (length-take, length-drop) (omega (arith, few))

    low_enough : (n k : ℕ) → n ≤ 64 → k < 2 ^ 51 → 30 * (n + 1) * k < 2 ^ 64
    low_enough n k small low =
        let most : (n + 1) * k ≤ 65 * k = mul-le-mul_right k (omega (arith, small)) in
        let same_product : 30 * (n + 1) * k ≡ 30 * ((n + 1) * k) = mul_assoc 30 (n + 1) k in
        omega (arith, most, same_product, low)

-- the block of some gates, where it stands
abbrev placed_block : {G : Type 0} → (G → ℕ → Symbol) → ℕ → Cascade → List G → ℕ → At Block
placed_block draws per c gates k = at 0 (30 * (length c.names + 1) * k) (block_at draws c (slice_chunk gates per k))

all_blocks_placed : {G : Type 0} (draws : G → ℕ → Symbol) (per : ℕ) (c : Cascade) (gates : List G) (more : ℕ)
    → are_at (λ k. 0) (λ k. 30 * (line_count (map (placed_block draws per c gates) (range_with_len 0 (suc more))) + 1) * k) 0 (map (placed_block draws per c gates) (range_with_len 0 (suc more))) ≡ true
all_blocks_placed draws per c gates more =
    let blocks : List (At Block) = map (placed_block draws per c gates) (range_with_len 0 (suc more)) in
    ap (λ (n : ℕ). are_at (λ k. 0) (λ k. 30 * (n + 1) * k) 0 blocks) (labels_count c)
    ∙ at_places {X = Block} (λ k. 0) (λ k. 30 * (length c.names + 1) * k) (λ k. block_at draws c (slice_chunk gates per k)) 0 (suc more)

pictures_back : {G K : Type 0} (draws : G → ℕ → Symbol) (read : List Symbol → Option K) (kept : G → K) (per : ℕ) (c : Cascade) (gates : List G) (ks : List ℕ)
    → IsCascade c → AreRead draws read kept (length c.names) gates
    → each_of (λ (block : At Block). block_shown read block.what) (map (placed_block draws per c gates) ks) ≡ Some (map (block_picture kept per c gates) ks)
pictures_back draws read kept per c gates [] is are = refl
pictures_back {K = K} draws read kept per c gates (k ∷ ks) is are =
    ap (λ (picture : Option (Picture K)). before picture (each_of (λ (block : At Block). block_shown read block.what) (map (placed_block draws per c gates) ks)))
    (block_back draws read kept c (slice_chunk gates per k) is (chunk_read draws read kept (length c.names) per gates k are))
    ∙ ap (before (Some (block_picture kept per c gates k))) (pictures_back draws read kept per c gates ks is are)

sheet_shown : {G K : Type 0} (draws : G → ℕ → Symbol) (read : List Symbol → Option K) (kept : G → K) (per : ℕ) (c : Cascade) (gates : List G) (more : ℕ)
    → IsCascade c → AreRead draws read kept (length c.names) gates
    → blocks_shown read (Some (sheet_with [] no_block (map (placed_block draws per c gates) (range_with_len 0 (suc more))))) ≡ Some (map (block_picture kept per c gates) (range_with_len 0 (suc more)))
sheet_shown draws read kept per c gates more is are =
    let blocks : List (At Block) = map (placed_block draws per c gates) (range_with_len 0 (suc more)) in
    ap (λ (t : Bool). cond t (each_of (λ (block : At Block). block_shown read block.what) blocks) None) (all_blocks_placed draws per c gates more)
    ∙ pictures_back draws read kept per c gates (range_with_len 0 (suc more)) is are

pub svg_back : {G K : Type 0} (draws : G → ℕ → Symbol) (title : List (List ℕ) → G → List ℕ) (read : List Symbol → Option K) (kept : G → K) (per : ℕ) (c : Cascade) (gates : List G)
    → AreOneLine title → 1 ≤ per → IsCascade c → length gates < 2 ^ 50 → AreRead draws read kept (length c.names) gates
    → svg_shown_by read (svg_with draws title per c gates) ≡ Some (picture_on c (map kept gates))
unfolding svg_shown_by
svg_back draws title read kept per c gates lack some is few are =
    let more : ℕ = (length gates - 1) / per in
    let count : block_count per (length gates) ≡ suc more = omega arith in
    let low : more ≤ length gates - 1 = div-le_self (length gates - 1) per in
    let first : List ℕ = head c (column_count per (length gates)) (block_count per (length gates)) in
    let foot : List ℕ = codes "</svg>" in
    let body_lines : ℕ → List (List ℕ) = λ m. flat_map (block_lines draws title per c gates) (range_with_len 0 m) in
    let lines : ℕ → List (List ℕ) = λ m. first ∷ (body_lines m ++ foot ∷ []) in
    let blocks : List (At Block) = map (placed_block draws per c gates) (range_with_len 0 (suc more)) in
    ap (λ (text : List ℕ). joined_if (blocks_shown read (sheet_of (lines_in text)))) (sym (ap (λ (m : ℕ). text_of_lines (lines m)) (sym count) ∙ svg_text draws title per c gates))
    ∙ ap (λ (ls : List (List ℕ)). joined_if (blocks_shown read (sheet_of ls))) (lines_back (lines (suc more)) (
      head_lacks c (column_count per (length gates)) (block_count per (length gates)),
      lines_append (body_lines (suc more)) (foot ∷ []) (blocks_one_line draws title per c gates (range_with_len 0 (suc more)) lack) (refl, tt),
    ))
    ∙ ap (λ (ls : List (List ℕ)). joined_if (blocks_shown read (with_line first (sheet_of ls)))) (append_assoc (body_lines (suc more)) (foot ∷ []) ([] ∷ []))
    ∙ ap (λ (s : Option Sheet). joined_if (blocks_shown read (with_line first s))) (blocks_read draws title per c gates 0 (suc more) (foot ∷ [] ∷ []) [] is few (omega (arith, low, few)) refl)
    ∙ ap (λ (bs : List (At Block)). joined_if (blocks_shown read (Some (sheet_with [] no_block bs)))) (append-nil blocks)
    ∙ ap joined_if (sheet_shown draws read kept per c gates more is are)
    ∙ ap (λ (m : ℕ). joined (map (block_picture kept per c gates) (range_with_len 0 m))) (sym count)
    ∙ pictures_joined kept per c gates some
