-- The text of a circuit in RevLib's `.real` format, version 2.0: lines of words.
use Rattle.std.specs.Prelude.{ℕ, ◌+◌, ◌==◌, ◌||◌, if◌then◌else◌, Bool, true, false, List, [], ◌∷◌, ◌++◌, length, map, codes, decimal, slice_index_or}
use Rattle.std.specs.List.{list_any}
use Rattle.rv_text.specs.Spelled.{spelled, written}
use Rattle.rv_text.specs.Tokens.{is_blank, plain, in_quotes}
use Rattle.rv_gate.specs.Word.{has}
use Rattle.rv_gate.specs.Circuit.{Cascade}
use Rattle.rv_marks.specs.Row.{mark_lines}
use Rattle.rv_gate.specs.declared.gate.Shape.{Shape}
use Rattle.rv_gate.specs.declared.gate.Shape.TheVariants.{Flip, Swap, Peres}

-- the name at a place, as that of a line
abbrev pub name_at : List (List ℕ) → ℕ → List ℕ
name_at names place = slice_index_or names place []

-- a control: the name of its line, after `-` where it wants 0
abbrev pub control_word : List ℕ → Bool → List ℕ
control_word name true = name
control_word name false = 45 ∷ name

-- the control on a line, where it is one
abbrev pub control_on : ℕ → ℕ → ℕ → List ℕ → List (List ℕ)
control_on care want line name = if has care line then control_word name (has want line) ∷ [] else []

-- the controls on the lines from `line` on, which have these names
abbrev pub controls_from : ℕ → List (List ℕ) → ℕ → ℕ → List (List ℕ)
controls_from line [] care want = []
controls_from line (name ∷ names) care want = control_on care want line name ++ controls_from (line + 1) names care want

-- a gate's letter with the number of its operands, then the operands
abbrev pub gate_line : ℕ → List (List ℕ) → List (List ℕ)
gate_line letter operands = (letter ∷ decimal (length operands)) ∷ operands

-- the words of a gate: `tK` with its controls and its target, `fK` with its controls and both targets, or `p3`
abbrev pub gate_words : List (List ℕ) → Shape → List (List ℕ)
gate_words names (Flip care want target) = gate_line 116 (controls_from 0 names care want ++ name_at names target ∷ [])
gate_words names (Swap care want a b) =
    gate_line 102 (controls_from 0 names care want ++ name_at names a ∷ name_at names b ∷ [])
gate_words names (Peres a b c) = gate_line 112 (name_at names a ∷ name_at names b ∷ name_at names c ∷ [])

-- a label, in quotes exactly where it is empty or holds a blank or `#`
abbrev pub needs_quotes : List ℕ → Bool
needs_quotes label = length label == 0 || list_any (λ c. is_blank [] c || c == 35) label

abbrev pub label_word : List ℕ → List ℕ
label_word label = written (if needs_quotes label then in_quotes label true else plain label)

-- `.version` and `.numvars`
abbrev pub size_lines : ℕ → List (List (List ℕ))
size_lines lines = (codes ".version" ∷ codes "2.0" ∷ []) ∷ (codes ".numvars" ∷ decimal lines ∷ []) ∷ []

-- `.variables`
abbrev pub variables_line : List (List ℕ) → List (List ℕ)
variables_line names = codes ".variables" ∷ names

-- `.inputs` and `.outputs`
abbrev pub label_lines : Cascade → List (List (List ℕ))
label_lines c =
    (codes ".inputs" ∷ map label_word c.input_labels) ∷ (codes ".outputs" ∷ map label_word c.output_labels) ∷ []

-- the eight lines of the header
abbrev pub header_lines : Cascade → List (List (List ℕ))
header_lines c =
    size_lines (length c.names) ++ variables_line c.names ∷ label_lines c ++ mark_lines c.constants c.garbage
    ++ (codes ".begin" ∷ []) ∷ []

-- header, one line a gate, and the end
abbrev pub circuit_lines : Cascade → List (List (List ℕ))
circuit_lines c = header_lines c ++ (map (gate_words c.names) c.gates ++ (codes ".end" ∷ []) ∷ [])

-- the one text of a circuit
unfoldable pub text_of : Cascade → List ℕ
text_of c = spelled (circuit_lines c)
