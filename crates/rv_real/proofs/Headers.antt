-- The texts of the header's lines, as they are sent.
use Rattle.std.proofs.Common.{◌≡◌, ℕ, List, [], ◌∷◌, ◌++◌, length, map, codes, ap, sym, ◌∙◌}
use Rattle.std.proofs.lemmas.List.{append-nil}
use Rattle.rv_text.specs.Spelled.{spelled}
use Rattle.rv_gate.specs.Circuit.{Cascade}
use Rattle.rv_real.specs.Text.{size_lines, variables_line, label_lines, header_lines, gate_words, text_of}
use Rattle.rv_marks.specs.Row.{mark_lines}
use Rattle.rv_text.proofs.Pieces.{spelled-append}

abbrev pub size_text : List ℕ → List ℕ
size_text digits = codes ".version 2.0\n.numvars " ++ (digits ++ codes "\n")

pub size_text-spelled : (digits : List ℕ) → size_text digits ≡ spelled ((codes ".version" ∷ codes "2.0" ∷ []) ∷ (codes ".numvars" ∷ digits ∷ []) ∷ [])
size_text-spelled digits = simp append-nil

-- the parts of the header
pub header-spelled : (c : Cascade) → spelled (size_lines (length c.names)) ++ (spelled (variables_line c.names ∷ []) ++ (spelled (label_lines c) ++ (spelled (mark_lines c.constants c.garbage) ++ codes ".begin\n")))
    ≡ spelled (header_lines c)
header-spelled c =
    let begin = (codes ".begin" ∷ []) ∷ [] in
    let marks = mark_lines c.constants c.garbage in
    let labels = label_lines c in
    let variables = variables_line c.names ∷ [] in
    sym (spelled-append (size_lines (length c.names)) (variables ++ (labels ++ (marks ++ begin)))
    ∙ ap (λ rest. spelled (size_lines (length c.names)) ++ rest) (spelled-append variables (labels ++ (marks ++ begin))
    ∙ ap (λ rest. spelled variables ++ rest) (spelled-append labels (marks ++ begin)
    ∙ ap (λ rest. spelled labels ++ rest) (spelled-append marks begin))))

-- the parts of the text
pub text_of-parts : (c : Cascade) → spelled (header_lines c) ++ (spelled (map (gate_words c.names) c.gates) ++ codes ".end\n") ≡ text_of c
unfolding text_of
text_of-parts c =
    sym (spelled-append (header_lines c) (map (gate_words c.names) c.gates ++ (codes ".end" ∷ []) ∷ [])
    ∙ ap (λ rest. spelled (header_lines c) ++ rest) (spelled-append (map (gate_words c.names) c.gates) ((codes ".end" ∷ []) ∷ [])))
