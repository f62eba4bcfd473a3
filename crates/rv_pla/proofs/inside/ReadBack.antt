-- A text that was written is read back.
use Rattle.std.proofs.Common.{◌≡◌, ℕ, ◌+◌, ◌<◌, ◌≤◌, ◌^◌, true, false, List, [], ◌∷◌, ◌++◌, length, map, Some, Ok, refl, sym, ap, ◌∙◌, arith, append_assoc, length-append, eq-eqb, codes, decimal}
use Rattle.std.specs.Prelude.{All, IsOkAnd}
use Rattle.std.proofs.lemmas.Bool.{le-ltb, lt-ltb}
use Rattle.std.proofs.lemmas.List.{append-nil}
use Rattle.std.proofs.lemmas.List.Elements.{All-head, All-tail}
use Rattle.rv_text.specs.Lines.{lines_of}
use Rattle.rv_text.specs.Spelled.{words_line}
use Rattle.rv_text.specs.inside.Writable.{AreLines, ArePlainWords}
use Rattle.rv_text.proofs.inside.Spelled.{tokens_of-words_line, lines_of-spelled, AreOneLine-plain}
use Rattle.rv_reader.specs.Rules.{lines_read, whole_of}
use Rattle.rv_reader.specs.Feeding.{object_of}
use Rattle.rv_pla.specs.declared.cube.Cube.{Cube}
use Rattle.rv_pla.specs.Cube.{IsCube}
use Rattle.rv_pla.specs.declared.kind.Kind.TheVariants.{Esop}
use Rattle.rv_pla.specs.declared.pla.TheConstants.{MOST_TERMS}
use Rattle.rv_pla.specs.Pla.{TwoLevel, Term}
use Rattle.rv_pla.specs.inside.State.{Given, nothing_given}
use Rattle.rv_pla.specs.Row.{term_of}
use Rattle.rv_pla.specs.Line.{bar, kind_named, is_dropped, is_end}
use Rattle.rv_pla.specs.Reading.{checked_pla, pla_of}
use Rattle.rv_pla.specs.inside.Steps.{line_of, directive_of, term_given, line_rules, end_given, as_fault}
use Rattle.rv_pla.specs.inside.laws.Denotes.{denotes}
use Rattle.rv_pla.specs.Text.{cube_words, esop_text, head_lines, input_part, output_part, IsEsopOf}
use Rattle.rv_pla.proofs.inside.Entries.{no_conflict}
use Rattle.rv_text.proofs.inside.Decimal.{count_is, decimal_value-decimal}
use Rattle.rv_pla.proofs.inside.Numerals.{number_word}
use Rattle.rv_pla.proofs.inside.Parts.{cube_back, input_word, no_dot, output_word, row_is, row_length}

-- what the lines give so far
abbrev esop_given : ℕ → ℕ → List Term → Given
esop_given i o terms = record { inputs = Some i; outputs = Some o; kind = Some Esop; terms = terms; is_ended = false }

-- ---- the lines before the cubes

inputs_back : (i : ℕ) → 1 ≤ i → i ≤ 16 → line_of nothing_given 1 (words_line (codes ".i" ∷ decimal i ∷ [])) ≡ Ok (record nothing_given { inputs = Some i })
unfolding line_of directive_of
inputs_back i some few =
    let tokens = tokens_of-words_line false bar (decimal i ∷ []) (number_word i (omega arith), tt) in
    rw (tokens, count_is i some (omega arith), decimal_value-decimal i (omega arith), le-ltb 16 i few) refl

outputs_back : (i o : ℕ) → 1 ≤ o → o ≤ 16
    → line_of (record nothing_given { inputs = Some i }) 2 (words_line (codes ".o" ∷ decimal o ∷ [])) ≡ Ok (record nothing_given { inputs = Some i; outputs = Some o })
unfolding line_of directive_of
outputs_back i o some few =
    let tokens = tokens_of-words_line false bar (decimal o ∷ []) (number_word o (omega arith), tt) in
    rw (tokens, count_is o some (omega arith), decimal_value-decimal o (omega arith), le-ltb 16 o few) refl

kind_back : (i o : ℕ) → line_of (record nothing_given { inputs = Some i; outputs = Some o }) 3 (words_line (codes ".type" ∷ codes "esop" ∷ [])) ≡ Ok (esop_given i o [])
unfolding line_of directive_of kind_named
kind_back i o = refl

count_back : (i o : ℕ) (count : List ℕ) → line_of (esop_given i o []) 4 (words_line (codes ".p" ∷ count ∷ [])) ≡ Ok (esop_given i o [])
unfolding line_of directive_of is_dropped
count_back i o count = refl

head_back : (i o count : ℕ) (rest : List (List (List ℕ))) → 1 ≤ i → i ≤ 16 → 1 ≤ o → o ≤ 16
    → lines_read line_rules 0 nothing_given (map words_line (head_lines i o count ++ rest)) ≡ lines_read line_rules 4 (esop_given i o []) (map words_line rest)
head_back i o count rest some_i few_i some_o few_o = rw (inputs_back i some_i few_i, outputs_back i o some_o few_o, kind_back i o, count_back i o (decimal count)) refl

-- ---- cubes

abbrev cube_row : ℕ → ℕ → Cube → List ℕ
cube_row i o cube = input_part i cube ++ output_part o cube

-- the terms of cubes, by their lines from one on
abbrev terms_from : ℕ → ℕ → ℕ → List Cube → List Term
terms_from i o number [] = []
terms_from i o number (cube ∷ cubes) = term_of i number (cube_row i o cube) ∷ terms_from i o (number + 1) cubes

cubes_of-terms_from : (i o number : ℕ) (cubes : List Cube) → All (IsCube i o) cubes → map (λ (term : Term). term.cube) (terms_from i o number cubes) ≡ cubes
cubes_of-terms_from i o number [] are = refl
cubes_of-terms_from i o number (cube ∷ cubes) are =
    rw (cube_back i o cube number (All-head (IsCube i o) cube cubes are), cubes_of-terms_from i o (number + 1) cubes (All-tail (IsCube i o) cube cubes are)) refl

words_are : (i o : ℕ) (cube : Cube) → 1 ≤ i → 1 ≤ o → ArePlainWords bar (cube_words i o cube)
words_are i o cube some_i some_o = (input_word i cube some_i, (output_word o cube some_o, tt))

term_back : (i o number : ℕ) (terms : List Term) (cube : Cube) → length terms < MOST_TERMS
    → term_given (esop_given i o terms) i o number (cube_row i o cube) ≡ Ok (esop_given i o (terms ++ term_of i number (cube_row i o cube) ∷ []))
term_back i o number terms cube few = rw (eq-eqb _ _ (row_length i o cube), row_is i o cube, lt-ltb (length terms) MOST_TERMS few) refl

cube_line_back : (i o number : ℕ) (terms : List Term) (cube : Cube) → 1 ≤ i → 1 ≤ o → length terms < MOST_TERMS
    → line_of (esop_given i o terms) number (words_line (cube_words i o cube)) ≡ Ok (esop_given i o (terms ++ term_of i number (cube_row i o cube) ∷ []))
unfolding line_of
cube_line_back i o number terms cube some_i some_o few =
    rw (tokens_of-words_line false bar (cube_words i o cube) (words_are i o cube some_i some_o), no_dot i cube some_i, append-nil (output_part o cube)) (term_back i o number terms cube few)

cubes_back : (i o before : ℕ) (terms : List Term) (cubes : List Cube) (rest : List (List (List ℕ))) → 1 ≤ i → 1 ≤ o → length terms + length cubes ≤ MOST_TERMS
    → lines_read line_rules before (esop_given i o terms) (map words_line (map (cube_words i o) cubes ++ rest))
    ≡ lines_read line_rules (before + length cubes) (esop_given i o (terms ++ terms_from i o (before + 1) cubes)) (map words_line rest)
cubes_back i o before terms [] rest some_i some_o few = rw append-nil (ap (λ (n : ℕ). lines_read line_rules n (esop_given i o terms) (map words_line rest)) (omega arith))
cubes_back i o before terms (cube ∷ cubes) rest some_i some_o few =
    rw (cube_line_back i o (before + 1) terms cube some_i some_o (omega arith))
    (cubes_back i o (before + 1) (terms ++ term_of i (before + 1) (cube_row i o cube) ∷ []) cubes rest some_i some_o (rw length-append (omega arith))
    ∙ ap (λ (ts : List Term). lines_read line_rules (before + 1 + length cubes) (esop_given i o ts) (map words_line rest)) (append_assoc terms (term_of i (before + 1) (cube_row i o cube) ∷ []) (terms_from i o (before + 1 + 1) cubes))
    ∙ ap (λ (n : ℕ). lines_read line_rules n (esop_given i o (terms ++ terms_from i o (before + 1) (cube ∷ cubes))) (map words_line rest)) (omega arith))

-- ---- the end

abbrev end_line : List (List (List ℕ))
end_line = (codes ".e" ∷ []) ∷ []

end_line_back : (i o before : ℕ) (terms : List Term) → lines_read line_rules before (esop_given i o terms) (map words_line end_line) ≡ Ok (record (esop_given i o terms) { is_ended = true })
unfolding line_of directive_of is_dropped is_end
end_line_back i o before terms = refl

abbrev esop_pla : ℕ → ℕ → List Cube → TwoLevel
esop_pla i o cubes = record { inputs = i; outputs = o; kind = Esop; terms = terms_from i o 5 cubes }

end_back : (i o : ℕ) (cubes : List Cube) → checked_pla (esop_pla i o cubes) ≡ Ok (esop_pla i o cubes)
end_back i o cubes = rw (no_conflict (esop_pla i o cubes) refl) refl

-- ---- the text

cube_lines_are : (i o : ℕ) (cubes : List Cube) → 1 ≤ i → 1 ≤ o → AreLines (map (cube_words i o) cubes ++ end_line)
cube_lines_are i o [] some_i some_o = ((refl, tt), tt)
cube_lines_are i o (cube ∷ cubes) some_i some_o = (AreOneLine-plain bar (cube_words i o cube) (words_are i o cube some_i some_o), cube_lines_are i o cubes some_i some_o)

text_lines_are : (i o : ℕ) (cubes : List Cube) → 1 ≤ i → i ≤ 16 → 1 ≤ o → o ≤ 16 → length cubes < 2 ^ 64
    → AreLines (head_lines i o (length cubes) ++ (map (cube_words i o) cubes ++ end_line))
text_lines_are i o cubes some_i few_i some_o few_o count = (
  (refl, AreOneLine-plain bar (decimal i ∷ []) (number_word i (omega arith), tt)),
  (
    (refl, AreOneLine-plain bar (decimal o ∷ []) (number_word o (omega arith), tt)),
    ((refl, (refl, tt)), ((refl, AreOneLine-plain bar (decimal (length cubes) ∷ []) (number_word (length cubes) count, tt)), cube_lines_are i o cubes some_i some_o)),
  ),
)

lines_back : (i o : ℕ) (cubes : List Cube) → 1 ≤ i → i ≤ 16 → 1 ≤ o → o ≤ 16 → length cubes ≤ MOST_TERMS
    → lines_read line_rules 0 nothing_given (lines_of (esop_text i o cubes)) ≡ Ok (record (esop_given i o (terms_from i o 5 cubes)) { is_ended = true })
unfolding esop_text
lines_back i o cubes some_i few_i some_o few_o few =
    ap (lines_read line_rules 0 nothing_given) (lines_of-spelled (head_lines i o (length cubes) ++ (map (cube_words i o) cubes ++ end_line)) (text_lines_are i o cubes some_i few_i some_o few_o (omega arith)))
    ∙ head_back i o (length cubes) (map (cube_words i o) cubes ++ end_line) some_i few_i some_o few_o
    ∙ cubes_back i o 4 [] cubes end_line some_i some_o (omega arith)
    ∙ end_line_back i o (4 + length cubes) (terms_from i o 5 cubes)

by_lines : (i o : ℕ) (cubes : List Cube) → 1 ≤ i → i ≤ 16 → 1 ≤ o → o ≤ 16 → length cubes ≤ MOST_TERMS
    → object_of line_rules as_fault end_given (esop_text i o cubes) ≡ Ok (esop_pla i o cubes)
unfolding object_of whole_of
by_lines i o cubes some_i few_i some_o few_o few = rw (lines_back i o cubes some_i few_i some_o few_o few) (end_back i o cubes)

pub read_back : (i o : ℕ) (cubes : List Cube) → 1 ≤ i → i ≤ 16 → 1 ≤ o → o ≤ 16 → length cubes ≤ MOST_TERMS → pla_of (esop_text i o cubes) ≡ Ok (esop_pla i o cubes)
read_back i o cubes some_i few_i some_o few_o few = sym (denotes (esop_text i o cubes)) ∙ by_lines i o cubes some_i few_i some_o few_o few

pub esop_back : (i o : ℕ) (cubes : List Cube) → 1 ≤ i → i ≤ 16 → 1 ≤ o → o ≤ 16 → All (IsCube i o) cubes → length cubes ≤ MOST_TERMS
    → IsOkAnd (pla_of (esop_text i o cubes)) (IsEsopOf i o cubes)
esop_back i o cubes some_i few_i some_o few_o are few = rw (read_back i o cubes some_i few_i some_o few_o few) (record {
  same_inputs = refl;
  same_outputs = refl;
  esop = refl;
  same_cubes = cubes_of-terms_from i o 5 cubes are;
})
