-- The rows of a block show the circuit of its gates.
use Rattle.std.proofs.Common.{◌≡◌, ℕ, zero, suc, ◌+◌, ◌<◌, ◌≤◌, true, false, List, [], ◌∷◌, length, map, Some, refl}
use Rattle.std.proofs.Common.{sym, ap, ◌∙◌, inl, inr, arith, Bool, cond, nat_eq, None, eq-eqb}
use Rattle.std.proofs.lemmas.Bool.{and_from}
use Rattle.std.specs.List.{list_all}
use Rattle.std.specs.Prelude.{Option, slice_index_or}
use Rattle.std.specs.List.{flat_map, range_with_len}
use Rattle.std.proofs.lemmas.List.Elements.{All-get_or}
use Rattle.std.proofs.lemmas.List.FromFn.{fill_by_all}
use Rattle.std.proofs.lemmas.List.{length-map}
use Rattle.rv_text.specs.Tokens.{Lexeme, plain, tokens_of}
use Rattle.rv_text.specs.Spelled.{words_line}
use Rattle.rv_text.specs.inside.Writable.{AreLines, AreWritable}
use Rattle.rv_text.proofs.inside.Spelled.{tokens_of-written, AreOneLine-written}
use Rattle.rv_gate.specs.Circuit.{Cascade, IsCascade, IsLabel, AreLabels}
use Rattle.rv_gate.specs.declared.circuit.Mark.TheVariants as marks
use Rattle.rv_real.specs.Text.{needs_quotes}
use Rattle.rv_real.proofs.inside.Written.{label_lexeme, label_writable}
use Rattle.rv_draw.specs.declared.symbol.Symbol.{Symbol}
use Rattle.rv_draw.specs.Symbols.{glyph}
use Rattle.rv_draw.specs.Drawing.{label_at, pad_after, wire_on, row_words}
use Rattle.rv_draw.specs.Reading.{Row, Strip, before, each_of, row_of, strip_of, strips_of, columns, column_count}
use Rattle.rv_draw.specs.Reading.{picture_with, picture_of_strips, picture_of_rows, picture_on, block_shown}
use Rattle.rv_draw.proofs.inside.WiresBack.{symbols_back, glyphs_word, wire_back}
use Rattle.rv_draw.proofs.ColumnsBack.{columns_back}
use Rattle.std.specs.Option.{option_map}
use Rattle.std.proofs.lemmas.Bool.{cases_Bool}
use Rattle.rv_gate.proofs.Lists.{map_map}

-- ---- rows

-- the tokens of a row
abbrev pub row_lexemes : {G : Type 0} → (G → ℕ → Symbol) → Cascade → List G → ℕ → List Lexeme
row_lexemes draws c gates line = label_lexeme (label_at c.input_labels line) ∷ plain (flat_map glyph (wire_on draws c gates line)) ∷ label_lexeme (label_at c.output_labels line) ∷ []

-- a row, as it is read
abbrev pub row_at : {G : Type 0} → (G → ℕ → Symbol) → Cascade → List G → ℕ → Row
row_at draws c gates line = record { input_label = label_at c.input_labels line; symbols = wire_on draws c gates line; output_label = label_at c.output_labels line }

pub label_is : (labels : List (List ℕ)) (n line : ℕ) → AreLabels n labels → line < n → IsLabel (label_at labels line)
label_is labels n line are lt = All-get_or IsLabel labels line [] (omega (arith, lt, are.count)) are.each

row_writable : {G : Type 0} (draws : G → ℕ → Symbol) (c : Cascade) (gates : List G) (line : ℕ) → IsCascade c → line < length c.names → AreWritable (row_lexemes draws c gates line)
row_writable draws c gates line is lt = (
  label_writable (label_at c.input_labels line) (label_is c.input_labels (length c.names) line is.input_labels lt),
  (
    (refl, glyphs_word _ _),
    (label_writable (label_at c.output_labels line) (label_is c.output_labels (length c.names) line is.output_labels lt), tt),
  ),
)

lexeme_bytes : (label : List ℕ) → (label_lexeme label).bytes ≡ label
lexeme_bytes label = elim (cases_Bool (needs_quotes label)) [
  | inl quotes ↦ rw quotes refl
  | inr bare ↦ rw bare refl
]

row_read : {G : Type 0} (draws : G → ℕ → Symbol) (c : Cascade) (gates : List G) (line : ℕ) → row_of (row_lexemes draws c gates line) ≡ Some (row_at draws c gates line)
row_read draws c gates line =
    rw (symbols_back (wire_on draws c gates line), lexeme_bytes (label_at c.input_labels line), lexeme_bytes (label_at c.output_labels line)) refl

-- the tokens of all rows
abbrev pub sheet_lexemes : {G : Type 0} → (G → ℕ → Symbol) → Cascade → List G → ℕ → ℕ → List (List Lexeme)
sheet_lexemes draws c gates start n = map (row_lexemes draws c gates) (range_with_len start n)

pub rows_back : {G : Type 0} (draws : G → ℕ → Symbol) (c : Cascade) (gates : List G) (start n : ℕ)
    → each_of row_of (sheet_lexemes draws c gates start n) ≡ Some (map (row_at draws c gates) (range_with_len start n))
rows_back draws c gates start zero = refl
rows_back draws c gates start (suc n) =
    ap (λ (row : Option Row). before row (each_of row_of (sheet_lexemes draws c gates (start + 1) n))) (row_read draws c gates start)
    ∙ ap (before (Some (row_at draws c gates start))) (rows_back draws c gates (start + 1) n)

pub tokens_back : {G : Type 0} (draws : G → ℕ → Symbol) (c : Cascade) (gates : List G) (start n : ℕ) → IsCascade c → start + n ≤ length c.names
    → map (λ line. tokens_of true [] line) (map words_line (map (row_words draws c gates) (range_with_len start n))) ≡ sheet_lexemes draws c gates start n
tokens_back draws c gates start zero is within = refl
tokens_back draws c gates start (suc n) is within =
    ap (λ (row : List Lexeme). row ∷ map (λ line. tokens_of true [] line) (map words_line (map (row_words draws c gates) (range_with_len (start + 1) n))))
    (tokens_of-written (row_lexemes draws c gates start) (row_writable draws c gates start is (omega (arith, within))))
    ∙ ap (λ (rows : List (List Lexeme)). row_lexemes draws c gates start ∷ rows) (tokens_back draws c gates (start + 1) n is (omega (arith, within)))

pub rows_lines : {G : Type 0} (draws : G → ℕ → Symbol) (c : Cascade) (gates : List G) (start n : ℕ) → IsCascade c → start + n ≤ length c.names → AreLines (map (row_words draws c gates) (range_with_len start n))
rows_lines draws c gates start zero is within = tt
rows_lines draws c gates start (suc n) is within = (
  AreOneLine-written (row_lexemes draws c gates start) (row_writable draws c gates start is (omega (arith, within))),
  rows_lines draws c gates (start + 1) n is (omega (arith, within)),
)

-- ---- wires

-- what a wire shows
abbrev strip_at : {G : Type 0} → (G → ℕ → Symbol) → Cascade → List G → ℕ → Strip
strip_at draws c gates line =
    record {
      constant = slice_index_or c.constants line marks.Input;
      symbols = map (λ gate. draws gate line) gates;
      is_garbage = slice_index_or c.garbage line false;
    }

strips_back : {G : Type 0} (draws : G → ℕ → Symbol) (c : Cascade) (gates : List G) (start n : ℕ)
    → each_of (λ (row : Row). strip_of (pad_after c.input_labels row.input_label) row.symbols) (map (row_at draws c gates) (range_with_len start n))
    ≡ Some (map (strip_at draws c gates) (range_with_len start n))
strips_back draws c gates start zero = refl
strips_back draws c gates start (suc n) =
    ap (λ (strip : Option Strip). before strip (each_of (λ (row : Row). strip_of (pad_after c.input_labels row.input_label) row.symbols) (map (row_at draws c gates) (range_with_len (start + 1) n))))
    (wire_back draws (slice_index_or c.constants start marks.Input) (pad_after c.input_labels (label_at c.input_labels start)) start gates (slice_index_or c.garbage start false))
    ∙ ap (before (Some (strip_at draws c gates start))) (strips_back draws c gates (start + 1) n)

-- ---- lists by their places

pub by_place : {X : Type 0} (xs : List X) (n : ℕ) (d : X) → length xs ≡ n → map (λ line. slice_index_or xs line d) (range_with_len 0 n) ≡ xs
by_place xs n d count = sym (fill_by_all (λ line. slice_index_or xs line d) xs n d count (λ k lt. refl))

pub inputs_back : {G : Type 0} (draws : G → ℕ → Symbol) (c : Cascade) (gates : List G) → IsCascade c → map (λ (row : Row). row.input_label) (map (row_at draws c gates) (range_with_len 0 (length c.names))) ≡ c.input_labels
inputs_back draws c gates is =
    map_map (λ (row : Row). row.input_label) (row_at draws c gates) (range_with_len 0 (length c.names)) ∙ by_place c.input_labels (length c.names) [] is.input_labels.count

outputs_back : {G : Type 0} (draws : G → ℕ → Symbol) (c : Cascade) (gates : List G) → IsCascade c → map (λ (row : Row). row.output_label) (map (row_at draws c gates) (range_with_len 0 (length c.names))) ≡ c.output_labels
outputs_back draws c gates is =
    map_map (λ (row : Row). row.output_label) (row_at draws c gates) (range_with_len 0 (length c.names)) ∙ by_place c.output_labels (length c.names) [] is.output_labels.count

constants_back : {G : Type 0} (draws : G → ℕ → Symbol) (c : Cascade) (gates : List G) → IsCascade c → map (λ (strip : Strip). strip.constant) (map (strip_at draws c gates) (range_with_len 0 (length c.names))) ≡ c.constants
constants_back draws c gates is =
    map_map (λ (strip : Strip). strip.constant) (strip_at draws c gates) (range_with_len 0 (length c.names)) ∙ by_place c.constants (length c.names) marks.Input is.constants

garbage_back : {G : Type 0} (draws : G → ℕ → Symbol) (c : Cascade) (gates : List G) → IsCascade c → map (λ (strip : Strip). strip.is_garbage) (map (strip_at draws c gates) (range_with_len 0 (length c.names))) ≡ c.garbage
garbage_back draws c gates is =
    map_map (λ (strip : Strip). strip.is_garbage) (strip_at draws c gates) (range_with_len 0 (length c.names)) ∙ by_place c.garbage (length c.names) false is.garbage

-- ---- gates

count_back : {G : Type 0} (draws : G → ℕ → Symbol) (c : Cascade) (gates : List G) (n : ℕ) → 1 ≤ n → column_count (map (strip_at draws c gates) (range_with_len 0 n)) ≡ length gates
count_back draws c gates zero some = absurd (omega (arith, some))
count_back draws c gates (suc n) some = rw length-map refl

-- the columns that gates draw on so many lines
abbrev pub columns_of : {G : Type 0} → (G → ℕ → Symbol) → ℕ → List G → List (List Symbol)
columns_of draws n gates = map (λ gate. map (draws gate) (range_with_len 0 n)) gates

gates_back : {G : Type 0} (draws : G → ℕ → Symbol) (c : Cascade) (gates : List G) → IsCascade c
    → columns (column_count (map (strip_at draws c gates) (range_with_len 0 (length c.names)))) (map (λ (strip : Strip). strip.symbols) (map (strip_at draws c gates) (range_with_len 0 (length c.names))))
    ≡ columns_of draws (length c.names) gates
gates_back draws c gates is =
    let lines : List ℕ = range_with_len 0 (length c.names) in
    ap (λ (n : ℕ). columns n (map (λ (strip : Strip). strip.symbols) (map (strip_at draws c gates) lines))) (count_back draws c gates (length c.names) is.some)
    ∙ ap (λ (rows : List (List Symbol)). columns (length gates) rows) (map_map (λ (strip : Strip). strip.symbols) (strip_at draws c gates) lines)
    ∙ columns_back draws gates lines

-- ---- the whole

strips_read : {G : Type 0} (draws : G → ℕ → Symbol) (c : Cascade) (gates : List G) → IsCascade c
    → strips_of (map (row_at draws c gates) (range_with_len 0 (length c.names))) ≡ Some (map (strip_at draws c gates) (range_with_len 0 (length c.names)))
strips_read draws c gates is =
    let rows : List Row = map (row_at draws c gates) (range_with_len 0 (length c.names)) in
    ap (λ (labels : List (List ℕ)). each_of (λ (row : Row). strip_of (pad_after labels row.input_label) row.symbols) rows) (inputs_back draws c gates is)
    ∙ strips_back draws c gates 0 (length c.names)

picture_same : {G K : Type 0} (draws : G → ℕ → Symbol) (c : Cascade) (gates : List G) (kept : List K) → IsCascade c
    → picture_with (map (row_at draws c gates) (range_with_len 0 (length c.names))) (map (strip_at draws c gates) (range_with_len 0 (length c.names))) kept ≡ picture_on c kept
picture_same draws c gates kept is = rw (inputs_back draws c gates is, outputs_back draws c gates is, constants_back draws c gates is, garbage_back draws c gates is) refl

all_long : {G : Type 0} (draws : G → ℕ → Symbol) (c : Cascade) (gates : List G) (start n : ℕ) → list_all (λ (strip : Strip). nat_eq (length strip.symbols) (length gates)) (map (strip_at draws c gates) (range_with_len start n)) ≡ true
all_long draws c gates start zero = refl
all_long draws c gates start (suc n) =
    and_from _ _ (eq-eqb _ _ (length-map' (λ gate. draws gate start) gates)) (all_long draws c gates (start + 1) n)
  where
    length-map' : {G : Type 0} (f : G → Symbol) (gates : List G) → length (map f gates) ≡ length gates
    length-map' f gates = rw length-map refl

as_long : {G : Type 0} (draws : G → ℕ → Symbol) (c : Cascade) (gates : List G) → IsCascade c
    → list_all (λ (strip : Strip). nat_eq (length strip.symbols) (column_count (map (strip_at draws c gates) (range_with_len 0 (length c.names))))) (map (strip_at draws c gates) (range_with_len 0 (length c.names))) ≡ true
as_long draws c gates is =
    ap (λ (count : ℕ). list_all (λ (strip : Strip). nat_eq (length strip.symbols) count) (map (strip_at draws c gates) (range_with_len 0 (length c.names)))) (count_back draws c gates (length c.names) is.some)
    ∙ all_long draws c gates 0 (length c.names)

-- a block shows the gates that are read from its columns
pub sheet_back : {G K : Type 0} (draws : G → ℕ → Symbol) (read : List Symbol → Option K) (c : Cascade) (gates : List G) (kept : List K) → IsCascade c
    → each_of read (columns_of draws (length c.names) gates) ≡ Some kept
    → block_shown read (sheet_lexemes draws c gates 0 (length c.names)) ≡ Some (picture_on c kept)
sheet_back {K = K} draws read c gates kept is reads =
    let rows : List Row = map (row_at draws c gates) (range_with_len 0 (length c.names)) in
    let strips : List Strip = map (strip_at draws c gates) (range_with_len 0 (length c.names)) in
    ap (picture_of_rows read) (rows_back draws c gates 0 (length c.names))
    ∙ ap (picture_of_strips read rows) (strips_read draws c gates is)
    ∙ ap (λ (long : Bool). cond long (option_map (picture_with rows strips) (each_of read (columns (column_count strips) (map (λ strip. strip.symbols) strips)))) None) (as_long draws c gates is)
    ∙ ap (λ (cs : List (List Symbol)). option_map (picture_with rows strips) (each_of read cs)) (gates_back draws c gates is)
    ∙ ap (option_map (picture_with rows strips)) reads
    ∙ ap Some (picture_same draws c gates kept is)
