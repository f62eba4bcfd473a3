-- The LaTeX that was written shows what was drawn.
use Rattle.std.proofs.Common.{◌≡◌, ℕ, zero, suc, ◌+◌, ◌<◌, ◌≤◌, Bool, true, false, cond, not, ◌&&◌, List, [], ◌∷◌, ◌++◌}
use Rattle.std.proofs.Common.{length, map, nat_eq, Some, None, refl, sym, ap, ◌∙◌, inl, inr, arith}
use Rattle.std.proofs.Common.{append_assoc, true≢false}
use Rattle.std.specs.Prelude.{Option, codes, slice_index_or}
use Rattle.std.specs.Fork.{slice_chunk}
use Rattle.std.specs.List.{flat_map, list_all, range_with_len}
use Rattle.std.specs.Option.{option_map}
use Rattle.std.proofs.lemmas.Bool.{and_from, and_parts, cases_Bool, eqb-true, le-ltb, lt-ltb}
use Rattle.std.proofs.lemmas.List.{length-map}
use Rattle.std.proofs.lemmas.List.Folds.{list_all-append}
use Rattle.rv_gate.specs.Circuit.{Cascade, IsCascade, IsLabel}
use Rattle.rv_gate.specs.Gate.{same}
use Rattle.rv_gate.specs.declared.circuit.Mark.{Mark}
use Rattle.rv_gate.specs.declared.circuit.Mark.TheVariants as marks
use Rattle.rv_gate.proofs.Lists.{map_map}
use Rattle.rv_draw.specs.declared.symbol.Symbol.{Symbol}
use Rattle.rv_draw.specs.declared.symbol.Symbol.TheVariants.{Wire, Crossing, Positive, Negative, Target, Exchanged}
use Rattle.rv_draw.specs.declared.symbol.Symbol.TheVariants.{Middle, Zero, One, Wall, H, T, Tdg, S, Sdg, Z, Y}
use Rattle.rv_draw.specs.Drawing.{block_count, label_at}
use Rattle.rv_draw.specs.Reading.{Picture, before, columns, each_of, joined_if, picture_on}
use Rattle.rv_draw.proofs.ColumnsBack.{columns_back}
use Rattle.rv_draw.proofs.inside.ReadBack.{AreRead, all_read, block_picture, chunk_read}
use Rattle.rv_draw.proofs.inside.ReadBack.{all_joined as pictures_joined}
use Rattle.rv_draw.proofs.inside.SheetBack.{by_place, columns_of, label_is}
use Rattle.rv_picture.specs.Cut.{after, cut, lines_in, text_of_lines, value_with}
use Rattle.rv_picture.specs.Labels.{is_special, shown_label}
use Rattle.rv_picture.specs.Markup.{latex_escapes}
use Rattle.rv_picture.specs.Latex.{Cell, Line, all_joined, are_joined, begin_line, block_lines, cell_look, cell_on, cell_text}
use Rattle.rv_picture.specs.Latex.{cells, cells_and_end, cells_text, column_count, empty_line, end_line}
use Rattle.rv_picture.specs.Latex.{constant_look, ended, environments, input_end, input_of, input_read, input_text, is_joined_on}
use Rattle.rv_picture.specs.Latex.{is_on, latex_label, latex_shown_by, latex_with, line_of, line_of_cells, output_read}
use Rattle.rv_picture.specs.Latex.{output_text, picture_of_lines, picture_with, pictures_of, row_text, with_cell}
use Rattle.rv_picture.specs.Latex.{with_input, with_line}
use Rattle.rv_picture.proofs.Cutting.{AreLines, cut_last, cut_part, lacks, lines_append, lines_back}
use Rattle.rv_picture.proofs.LabelsBack.{AllText, AreBack, bytes_back, is_high, label_back, shown_high, written_all}
use Rattle.rv_gate.proofs.Bits.{same_self}

-- ---- cells

cell_back : (s : Symbol) (joined : Bool) → value_with cell_look cells (cell_text (record { symbol = s; is_joined = joined })) ≡ Some (record { symbol = s; is_joined = joined })
cell_back Wire false = refl
cell_back Crossing false = refl
cell_back Positive false = refl
cell_back Negative false = refl
cell_back Target false = refl
cell_back Exchanged false = refl
cell_back Middle false = refl
cell_back Zero false = refl
cell_back One false = refl
cell_back Wall false = refl
cell_back H false = refl
cell_back T false = refl
cell_back Tdg false = refl
cell_back S false = refl
cell_back Sdg false = refl
cell_back Z false = refl
cell_back Y false = refl
cell_back Wire true = refl
cell_back Crossing true = refl
cell_back Positive true = refl
cell_back Negative true = refl
cell_back Target true = refl
cell_back Exchanged true = refl
cell_back Middle true = refl
cell_back Zero true = refl
cell_back One true = refl
cell_back Wall true = refl
cell_back H true = refl
cell_back T true = refl
cell_back Tdg true = refl
cell_back S true = refl
cell_back Sdg true = refl
cell_back Z true = refl
cell_back Y true = refl

-- no cell has `&` or a line feed
cell_bytes : (s : Symbol) (joined : Bool) → (lacks 38 (cell_text (record { symbol = s; is_joined = joined })) && lacks 10 (cell_text (record { symbol = s; is_joined = joined }))) ≡ true
cell_bytes Wire false = refl
cell_bytes Crossing false = refl
cell_bytes Positive false = refl
cell_bytes Negative false = refl
cell_bytes Target false = refl
cell_bytes Exchanged false = refl
cell_bytes Middle false = refl
cell_bytes Zero false = refl
cell_bytes One false = refl
cell_bytes Wall false = refl
cell_bytes H false = refl
cell_bytes T false = refl
cell_bytes Tdg false = refl
cell_bytes S false = refl
cell_bytes Sdg false = refl
cell_bytes Z false = refl
cell_bytes Y false = refl
cell_bytes Wire true = refl
cell_bytes Crossing true = refl
cell_bytes Positive true = refl
cell_bytes Negative true = refl
cell_bytes Target true = refl
cell_bytes Exchanged true = refl
cell_bytes Middle true = refl
cell_bytes Zero true = refl
cell_bytes One true = refl
cell_bytes Wall true = refl
cell_bytes H true = refl
cell_bytes T true = refl
cell_bytes Tdg true = refl
cell_bytes S true = refl
cell_bytes Sdg true = refl
cell_bytes Z true = refl
cell_bytes Y true = refl

-- ---- labels

escapes_back : AreBack latex_escapes 92 latex_escapes
escapes_back = (
  λ rest. refl,
  (λ rest. refl, (λ rest. refl, (λ rest. refl, (λ rest. refl, (λ rest. refl, (λ rest. refl, (λ rest. refl, (λ rest. refl, (λ rest. refl, (λ rest. refl, (λ rest. refl, (λ rest. refl, (λ rest. refl, (λ rest. refl, (λ rest. refl, (λ rest. refl, (λ rest. refl, tt))))))))))))))))),
)

escapes_lack : (at : ℕ) → (at ≡ 38) → AllText (λ byte. not (nat_eq byte 38)) latex_escapes
escapes_lack at is = (refl, (refl, (refl, (refl, (refl, (refl, (refl, (refl, (refl, (refl, (refl, (refl, (refl, (refl, (refl, (refl, (refl, (refl, tt))))))))))))))))))

escapes_one_line : AllText (λ byte. not (nat_eq byte 10)) latex_escapes
escapes_one_line = (refl, (refl, (refl, (refl, (refl, (refl, (refl, (refl, (refl, (refl, (refl, (refl, (refl, (refl, (refl, (refl, (refl, (refl, tt))))))))))))))))))

label_lacks : (label : List ℕ) → lacks 38 (latex_label label) ≡ true
label_lacks label =
    written_all (λ byte. not (nat_eq byte 38)) latex_escapes (shown_label label) (escapes_lack 38 refl)
    (λ byte plain high. elim (cases_Bool (nat_eq byte 38)) [
      | inl is ↦ absurd (true≢false (ap (is_special latex_escapes) (sym (eqb-true byte 38 is)) ∙ plain))
      | inr other ↦ ap not other
    ])
    (shown_high label)

label_one_line : (label : List ℕ) → lacks 10 (latex_label label) ≡ true
label_one_line label =
    written_all (λ byte. not (nat_eq byte 10)) latex_escapes (shown_label label) escapes_one_line
    (λ byte plain high. elim (cases_Bool (nat_eq byte 10)) [
      | inl is ↦ absurd (true≢false (sym high ∙ ap is_high (eqb-true byte 10 is)))
      | inr other ↦ ap not other
    ])
    (shown_high label)

input_lacks : (at : ℕ) (label : List ℕ) (mark : Mark) → lacks at (latex_label label) ≡ true → lacks at (codes "\\lstick{") ≡ true → lacks at (input_end mark) ≡ true → lacks at (input_text label mark) ≡ true
input_lacks at label mark l a b =
    list_all-append (λ byte. not (nat_eq byte at)) (codes "\\lstick{") (latex_label label ++ input_end mark)
    ∙ and_from _ _ a (list_all-append (λ byte. not (nat_eq byte at)) (latex_label label) (input_end mark) ∙ and_from _ _ l b)

marks_lack : (mark : Mark) → (lacks 38 (input_end mark) && lacks 10 (input_end mark)) ≡ true
marks_lack marks.Input = refl
marks_lack marks.Zero = refl
marks_lack marks.One = refl

output_lacks : (at : ℕ) (label : List ℕ) (g : Bool) → lacks at (latex_label label) ≡ true → lacks at (codes " \\trash{} \\rstick{") ≡ true → lacks at (codes " \\qw \\rstick{") ≡ true
    → lacks at (codes "} \\\\") ≡ true → lacks at (output_text label g) ≡ true
output_lacks at label true l a b e =
    list_all-append (λ byte. not (nat_eq byte at)) (codes " \\trash{} \\rstick{") (latex_label label ++ codes "} \\\\") ∙ and_from _ _ a (list_all-append (λ byte. not (nat_eq byte at)) (latex_label label) (codes "} \\\\") ∙ and_from _ _ l e)
output_lacks at label false l a b e =
    list_all-append (λ byte. not (nat_eq byte at)) (codes " \\qw \\rstick{") (latex_label label ++ codes "} \\\\") ∙ and_from _ _ b (list_all-append (λ byte. not (nat_eq byte at)) (latex_label label) (codes "} \\\\") ∙ and_from _ _ l e)

input_back : (label : List ℕ) (mark : Mark) → IsLabel label → input_read (after (codes "\\lstick{") (input_text label mark)) ≡ Some (label, mark)
input_back label marks.Input is =
    ap input_of (bytes_back latex_escapes 92 125 (shown_label label) (32 ∷ []) escapes_back refl refl) ∙ ap (λ (l : List ℕ). Some (l, marks.Input)) (label_back label is)
input_back label marks.Zero is =
    ap input_of (bytes_back latex_escapes 92 32 (shown_label label) (codes "$\\ket{0}$} ") escapes_back refl refl) ∙ ap (λ (l : List ℕ). Some (l, marks.Zero)) (label_back label is)
input_back label marks.One is =
    ap input_of (bytes_back latex_escapes 92 32 (shown_label label) (codes "$\\ket{1}$} ") escapes_back refl refl) ∙ ap (λ (l : List ℕ). Some (l, marks.One)) (label_back label is)

-- a row without its input and its cells
abbrev end_of : List ℕ → Bool → List Cell → Line
end_of label g row = record { input_label = []; constant = marks.Input; cells = row; output_label = label; is_garbage = g }

output_back : (label : List ℕ) (g : Bool) → IsLabel label → output_read (output_text label g) ≡ Some (end_of label g [])
output_back label true is =
    ap (ended true) (bytes_back latex_escapes 92 125 (shown_label label) (codes " \\\\") escapes_back refl refl) ∙ ap (λ (l : List ℕ). Some (end_of l true [])) (label_back label is)
output_back label false is =
    ap (ended false) (bytes_back latex_escapes 92 125 (shown_label label) (codes " \\\\") escapes_back refl refl) ∙ ap (λ (l : List ℕ). Some (end_of l false [])) (label_back label is)

-- ---- rows

abbrev pub row_cells : {G : Type 0} → (G → ℕ → Symbol) → ℕ → List G → ℕ → List Cell
row_cells draws lines gates line = map (λ gate. cell_on (draws gate) lines line) gates

cells_cut : {G : Type 0} (draws : G → ℕ → Symbol) (lines line : ℕ) (gates : List G) (first output : List ℕ) → lacks 38 first ≡ true → lacks 38 output ≡ true
    → cut 38 (first ++ (cells_text draws lines gates line ++ 38 ∷ output)) ≡ first ∷ (map cell_text (row_cells draws lines gates line) ++ output ∷ [])
cells_cut draws lines line [] first output hf ho = cut_part 38 first output hf ∙ ap (λ (rest : List (List ℕ)). first ∷ rest) (cut_last 38 output ho)
cells_cut draws lines line (gate ∷ gates) first output hf ho =
    let cell : Cell = cell_on (draws gate) lines line in
    let free : lacks 38 (cell_text cell) ≡ true = (and_parts _ _ (cell_bytes cell.symbol cell.is_joined)).0 in
    ap (λ (t : List ℕ). cut 38 (first ++ t)) (append_assoc (38 ∷ cell_text cell) (cells_text draws lines gates line) (38 ∷ output))
    ∙ cut_part 38 first (cell_text cell ++ (cells_text draws lines gates line ++ 38 ∷ output)) hf
    ∙ ap (λ (rest : List (List ℕ)). first ∷ rest) (cells_cut draws lines line gates (cell_text cell) output free ho)

-- the cells of gates before a row's end
cells_back : {G : Type 0} (draws : G → ℕ → Symbol) (lines line : ℕ) (gates : List G) (label : List ℕ) (g : Bool) → IsLabel label
    → cells_and_end (map cell_text (row_cells draws lines gates line) ++ output_text label g ∷ []) ≡ Some (end_of label g (row_cells draws lines gates line))
cells_back draws lines line [] label g is = output_back label g is
cells_back draws lines line (gate ∷ gates) label g is =
    let cell : Cell = cell_on (draws gate) lines line in
    more (cell_text cell) (map cell_text (row_cells draws lines gates line)) (output_text label g)
    ∙ ap (λ (c : Option Cell). with_cell c (cells_and_end (map cell_text (row_cells draws lines gates line) ++ output_text label g ∷ []))) (cell_back cell.symbol cell.is_joined)
    ∙ ap (with_cell (Some cell)) (cells_back draws lines line gates label g is)
  where
    more : (first : List ℕ) (rest : List (List ℕ)) (last : List ℕ) → cells_and_end (first ∷ (rest ++ last ∷ [])) ≡ with_cell (value_with cell_look cells first) (cells_and_end (rest ++ last ∷ []))
    more first [] last = refl
    more first (next ∷ rest) last = refl

-- a row, as it is read
abbrev pub line_at : {G : Type 0} → (G → ℕ → Symbol) → Cascade → List G → ℕ → Line
line_at draws c gates line =
    record {
      input_label = label_at c.input_labels line;
      constant = slice_index_or c.constants line marks.Input;
      cells = row_cells draws (length c.names) gates line;
      output_label = label_at c.output_labels line;
      is_garbage = slice_index_or c.garbage line false;
    }

row_back : {G : Type 0} (draws : G → ℕ → Symbol) (c : Cascade) (gates : List G) (line : ℕ) → IsCascade c → line < length c.names
    → line_of (row_text draws c gates line) ≡ Some (line_at draws c gates line)
row_back draws c gates line is lt =
    let input : List ℕ = label_at c.input_labels line in
    let mark : Mark = slice_index_or c.constants line marks.Input in
    let output : List ℕ = label_at c.output_labels line in
    let g : Bool = slice_index_or c.garbage line false in
    let texts : List (List ℕ) = map cell_text (row_cells draws (length c.names) gates line) ++ output_text output g ∷ [] in
    ap line_of_cells (cells_cut draws (length c.names) line gates (input_text input mark) (output_text output g)
    (input_lacks 38 input mark (label_lacks input) refl (and_parts _ _ (marks_lack mark)).0) (output_lacks 38 output g (label_lacks output) refl refl refl))
    ∙ ap (λ (i : Option (List ℕ × Mark)). with_input i (cells_and_end texts)) (input_back input mark (label_is c.input_labels (length c.names) line is.input_labels lt))
    ∙ ap (with_input (Some (input, mark))) (cells_back draws (length c.names) line gates output g (label_is c.output_labels (length c.names) line is.output_labels lt))

cells_one_line : {G : Type 0} (draws : G → ℕ → Symbol) (lines line : ℕ) (gates : List G) → lacks 10 (cells_text draws lines gates line) ≡ true
cells_one_line draws lines line [] = refl
cells_one_line draws lines line (gate ∷ gates) =
    let cell : Cell = cell_on (draws gate) lines line in
    list_all-append (λ byte. not (nat_eq byte 10)) (38 ∷ cell_text cell) (cells_text draws lines gates line)
    ∙ and_from _ _ (and_parts _ _ (cell_bytes cell.symbol cell.is_joined)).1 (cells_one_line draws lines line gates)

row_one_line : {G : Type 0} (draws : G → ℕ → Symbol) (c : Cascade) (gates : List G) (line : ℕ) → lacks 10 (row_text draws c gates line) ≡ true
row_one_line draws c gates line =
    let input : List ℕ = label_at c.input_labels line in
    let mark : Mark = slice_index_or c.constants line marks.Input in
    let output : List ℕ = label_at c.output_labels line in
    let g : Bool = slice_index_or c.garbage line false in
    let cells : List ℕ = cells_text draws (length c.names) gates line in
    list_all-append (λ byte. not (nat_eq byte 10)) (input_text input mark) (cells ++ 38 ∷ output_text output g)
    ∙ and_from _ _ (input_lacks 10 input mark (label_one_line input) refl (and_parts _ _ (marks_lack mark)).1)
    (list_all-append (λ byte. not (nat_eq byte 10)) cells (38 ∷ output_text output g) ∙ and_from _ _ (cells_one_line draws (length c.names) line gates) (output_lacks 10 output g (label_one_line output) refl refl refl))

-- ---- the rows of a block

rows_back : {G : Type 0} (draws : G → ℕ → Symbol) (c : Cascade) (gates : List G) (start n : ℕ) → IsCascade c → start + n ≤ length c.names
    → each_of line_of (map (row_text draws c gates) (range_with_len start n)) ≡ Some (map (line_at draws c gates) (range_with_len start n))
rows_back draws c gates start zero is within = refl
rows_back draws c gates start (suc n) is within =
    ap (λ (line : Option Line). before line (each_of line_of (map (row_text draws c gates) (range_with_len (start + 1) n)))) (row_back draws c gates start is (omega (arith, within)))
    ∙ ap (before (Some (line_at draws c gates start))) (rows_back draws c gates (start + 1) n is (omega (arith, within)))

rows_lines : {G : Type 0} (draws : G → ℕ → Symbol) (c : Cascade) (gates : List G) (start n : ℕ) → AreLines (map (row_text draws c gates) (range_with_len start n))
rows_lines draws c gates start zero = tt
rows_lines draws c gates start (suc n) = (row_one_line draws c gates start, rows_lines draws c gates (start + 1) n)

next_joined : {G : Type 0} (draws : G → ℕ → Symbol) (n line : ℕ) (gates : List G) → line + 1 < n → are_joined (row_cells draws n gates line) (row_cells draws n gates (line + 1)) ≡ true
next_joined draws n line [] lt = refl
next_joined draws n line (gate ∷ gates) lt =
    let here : is_joined_on (draws gate) n line ≡ (is_on (draws gate line) && is_on (draws gate (line + 1))) = rw (lt-ltb (line + 1) n lt) refl in
    and_from _ _
    (ap (λ (b : Bool). same b (is_on (draws gate line) && is_on (draws gate (line + 1)))) here ∙ same_self (is_on (draws gate line) && is_on (draws gate (line + 1))))
    (next_joined draws n line gates lt)

last_joined : {G : Type 0} (draws : G → ℕ → Symbol) (n line : ℕ) (gates : List G) → n ≤ line + 1 → list_all (λ (cell : Cell). not cell.is_joined) (row_cells draws n gates line) ≡ true
last_joined draws n line [] le = refl
last_joined draws n line (gate ∷ gates) le = rw (le-ltb (line + 1) n le) (last_joined draws n line gates le)

lines_joined : {G : Type 0} (draws : G → ℕ → Symbol) (c : Cascade) (gates : List G) (start n : ℕ) → start + n ≡ length c.names → all_joined (map (line_at draws c gates) (range_with_len start n)) ≡ true
lines_joined draws c gates start zero sum = refl
lines_joined draws c gates start (suc zero) sum = last_joined draws (length c.names) start gates (omega (arith, sum))
lines_joined draws c gates start (suc (suc n)) sum =
    and_from _ _ (next_joined draws (length c.names) start gates (omega (arith, sum))) (lines_joined draws c gates (start + 1) (suc n) (omega (arith, sum)))

-- ---- the picture of a block

count_back : {G : Type 0} (draws : G → ℕ → Symbol) (c : Cascade) (gates : List G) (n : ℕ) → 1 ≤ n → column_count (map (line_at draws c gates) (range_with_len 0 n)) ≡ length gates
count_back draws c gates zero some = absurd (omega (arith, some))
count_back draws c gates (suc n) some = rw length-map refl

symbols_of : {G : Type 0} (draws : G → ℕ → Symbol) (c : Cascade) (gates : List G) (lines : List ℕ)
    → map (λ (line : Line). map (λ (cell : Cell). cell.symbol) line.cells) (map (line_at draws c gates) lines) ≡ map (λ line. map (λ gate. draws gate line) gates) lines
symbols_of draws c gates [] = refl
symbols_of draws c gates (line ∷ lines) =
    ap (λ (row : List Symbol). row ∷ map (λ (l : Line). map (λ (cell : Cell). cell.symbol) l.cells) (map (line_at draws c gates) lines)) (map_map (λ (cell : Cell). cell.symbol) (λ gate. cell_on (draws gate) (length c.names) line) gates)
    ∙ ap (λ (rows : List (List Symbol)). map (λ gate. draws gate line) gates ∷ rows) (symbols_of draws c gates lines)

picture_same : {G K : Type 0} (draws : G → ℕ → Symbol) (c : Cascade) (gates : List G) (kept : List K) → IsCascade c
    → picture_with (map (line_at draws c gates) (range_with_len 0 (length c.names))) kept ≡ picture_on c kept
picture_same draws c gates kept is =
    let lines : List ℕ = range_with_len 0 (length c.names) in
    rw (
      map_map (λ (l : Line). l.input_label) (line_at draws c gates) lines ∙ by_place c.input_labels (length c.names) [] is.input_labels.count,
      map_map (λ (l : Line). l.output_label) (line_at draws c gates) lines ∙ by_place c.output_labels (length c.names) [] is.output_labels.count,
      map_map (λ (l : Line). l.constant) (line_at draws c gates) lines ∙ by_place c.constants (length c.names) marks.Input is.constants,
      map_map (λ (l : Line). l.is_garbage) (line_at draws c gates) lines ∙ by_place c.garbage (length c.names) false is.garbage,
    ) refl

block_back : {G K : Type 0} (draws : G → ℕ → Symbol) (read : List Symbol → Option K) (c : Cascade) (gates : List G) (kept : List K) → IsCascade c
    → each_of read (columns_of draws (length c.names) gates) ≡ Some kept
    → picture_of_lines read (each_of line_of (map (row_text draws c gates) (range_with_len 0 (length c.names)))) ≡ Some (picture_on c kept)
block_back {K = K} draws read c gates kept is reads =
    let ns : List ℕ = range_with_len 0 (length c.names) in
    let lines : List Line = map (line_at draws c gates) ns in
    let symbols : List (List Symbol) = map (λ (line : Line). map (λ (cell : Cell). cell.symbol) line.cells) lines in
    ap (picture_of_lines read) (rows_back draws c gates 0 (length c.names) is (omega arith))
    ∙ ap (λ (t : Bool). cond t (option_map (picture_with lines) (each_of read (columns (column_count lines) symbols))) None) (lines_joined draws c gates 0 (length c.names) (omega arith))
    ∙ ap (λ (n : ℕ). option_map (picture_with lines) (each_of read (columns n symbols))) (count_back draws c gates (length c.names) is.some)
    ∙ ap (λ (rows : List (List Symbol)). option_map (picture_with lines) (each_of read (columns (length gates) rows))) (symbols_of draws c gates ns)
    ∙ ap (λ (cs : List (List Symbol)). option_map (picture_with lines) (each_of read cs)) (columns_back draws gates ns)
    ∙ ap (option_map (picture_with lines)) reads
    ∙ ap Some (picture_same draws c gates kept is)

-- ---- environments

rows_read : {G : Type 0} (draws : G → ℕ → Symbol) (c : Cascade) (gates : List G) (start n : ℕ) (rest : List (List ℕ))
    → environments true (map (row_text draws c gates) (range_with_len start n) ++ end_line ∷ rest)
    ≡ option_map (λ (blocks : List (List (List ℕ))). map (row_text draws c gates) (range_with_len start n) ∷ blocks) (environments false rest)
rows_read draws c gates start zero rest = refl
rows_read draws c gates start (suc n) rest =
    ap (option_map (with_line (row_text draws c gates start))) (rows_read draws c gates (start + 1) n rest)
    ∙ onto_first (row_text draws c gates start) (map (row_text draws c gates) (range_with_len (start + 1) n)) (environments false rest)
  where
    onto_first : (line : List ℕ) (block : List (List ℕ)) (blocks : Option (List (List (List ℕ)))) → option_map (with_line line) (option_map (λ bs. block ∷ bs) blocks) ≡ option_map (λ bs. (line ∷ block) ∷ bs) blocks
    onto_first line block None = refl
    onto_first line block (Some blocks) = refl

-- the rows of a block
abbrev pub rows_of : {G : Type 0} → (G → ℕ → Symbol) → ℕ → Cascade → List G → ℕ → List (List ℕ)
rows_of draws per c gates k = map (row_text draws c (slice_chunk gates per k)) (range_with_len 0 (length c.names))

gap_skipped : (k : ℕ) (lines : List (List ℕ)) → environments false (empty_line k ++ lines) ≡ environments false lines
gap_skipped k lines = elim (nat_eq k 0) as (λ t. environments false (cond t [] ([] ∷ []) ++ lines) ≡ environments false lines) [ true ↦ refl | false ↦ refl ]

blocks_back : {G : Type 0} (draws : G → ℕ → Symbol) (per : ℕ) (c : Cascade) (gates : List G) (ks : List ℕ)
    → environments false (flat_map (block_lines draws per c gates) ks ++ [] ∷ []) ≡ Some (map (rows_of draws per c gates) ks)
blocks_back draws per c gates [] = refl
blocks_back draws per c gates (k ∷ ks) =
    let later : List (List ℕ) = flat_map (block_lines draws per c gates) ks ++ [] ∷ [] in
    let rows : List (List ℕ) = rows_of draws per c gates k in
    ap (environments false) (append_assoc (block_lines draws per c gates k) (flat_map (block_lines draws per c gates) ks) ([] ∷ []) ∙ append_assoc (empty_line k) (begin_line ∷ (rows ++ end_line ∷ [])) later)
    ∙ gap_skipped k (begin_line ∷ ((rows ++ end_line ∷ []) ++ later))
    ∙ ap (environments true) (append_assoc rows (end_line ∷ []) later)
    ∙ rows_read draws c (slice_chunk gates per k) 0 (length c.names) later
    ∙ ap (option_map (λ (blocks : List (List (List ℕ))). rows ∷ blocks)) (blocks_back draws per c gates ks)

gap_lines : (k : ℕ) → AreLines (empty_line k)
gap_lines k = elim (nat_eq k 0) as (λ t. AreLines (cond t [] ([] ∷ []))) [ true ↦ tt | false ↦ (refl, tt) ]

all_lines : {G : Type 0} (draws : G → ℕ → Symbol) (per : ℕ) (c : Cascade) (gates : List G) (ks : List ℕ) → AreLines (flat_map (block_lines draws per c gates) ks)
all_lines draws per c gates [] = tt
all_lines draws per c gates (k ∷ ks) =
    let rows : List (List ℕ) = rows_of draws per c gates k in
    lines_append (block_lines draws per c gates k) (flat_map (block_lines draws per c gates) ks)
    (lines_append (empty_line k) (begin_line ∷ (rows ++ end_line ∷ [])) (gap_lines k)
    (refl, lines_append rows (end_line ∷ []) (rows_lines draws c (slice_chunk gates per k) 0 (length c.names)) (refl, tt)))
    (all_lines draws per c gates ks)

pictures_back : {G K : Type 0} (draws : G → ℕ → Symbol) (read : List Symbol → Option K) (kept : G → K) (per : ℕ) (c : Cascade) (gates : List G) (ks : List ℕ)
    → IsCascade c → AreRead draws read kept (length c.names) gates
    → each_of (λ block. picture_of_lines read (each_of line_of block)) (map (rows_of draws per c gates) ks) ≡ Some (map (block_picture kept per c gates) ks)
pictures_back draws read kept per c gates [] is are = refl
pictures_back {K = K} draws read kept per c gates (k ∷ ks) is are =
    let chunk = slice_chunk gates per k in
    ap (λ (picture : Option (Picture K)). before picture (each_of (λ block. picture_of_lines read (each_of line_of block)) (map (rows_of draws per c gates) ks)))
    (block_back draws read c chunk (map kept chunk) is (all_read draws read kept (length c.names) chunk (chunk_read draws read kept (length c.names) per gates k are)))
    ∙ ap (before (Some (block_picture kept per c gates k))) (pictures_back draws read kept per c gates ks is are)

-- ---- the whole

pub latex_text : {G : Type 0} (draws : G → ℕ → Symbol) (per : ℕ) (c : Cascade) (gates : List G)
    → text_of_lines (flat_map (block_lines draws per c gates) (range_with_len 0 (block_count per (length gates)))) ≡ latex_with draws per c gates
unfolding latex_with
latex_text draws per c gates = refl

pub latex_back : {G K : Type 0} (draws : G → ℕ → Symbol) (read : List Symbol → Option K) (kept : G → K) (per : ℕ) (c : Cascade) (gates : List G)
    → 1 ≤ per → IsCascade c → AreRead draws read kept (length c.names) gates
    → latex_shown_by read (latex_with draws per c gates) ≡ Some (picture_on c (map kept gates))
unfolding latex_shown_by
latex_back draws read kept per c gates some is are =
    let ks : List ℕ = range_with_len 0 (block_count per (length gates)) in
    let lines : List (List ℕ) = flat_map (block_lines draws per c gates) ks in
    ap (λ (text : List ℕ). joined_if (pictures_of read (environments false (lines_in text)))) (sym (latex_text draws per c gates))
    ∙ ap (λ (ls : List (List ℕ)). joined_if (pictures_of read (environments false ls))) (lines_back lines (all_lines draws per c gates ks))
    ∙ ap (λ (bs : Option (List (List (List ℕ)))). joined_if (pictures_of read bs)) (blocks_back draws per c gates ks)
    ∙ ap joined_if (pictures_back draws read kept per c gates ks is are)
    ∙ pictures_joined kept per c gates some
