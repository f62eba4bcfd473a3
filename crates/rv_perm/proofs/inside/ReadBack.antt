-- A text that was written is read back.
use Rattle.std.proofs.Common.{◌≡◌, ℕ, ◌+◌, ◌<◌, ◌≤◌, Bool, false, List, [], ◌∷◌, ◌++◌, length, map, Some, Ok, refl, sym, ap, ◌∙◌, arith, zero-add, eq-eqb, codes}
use Rattle.std.proofs.Math.Nat.{pow-le-pow_right}
use Rattle.std.proofs.lemmas.List.{append-nil}
use Rattle.std.proofs.lemmas.List.Elements.{All-from_get_or}
use Rattle.rv_text.specs.Lines.{lines_of}
use Rattle.rv_text.specs.Spelled.{words_line}
use Rattle.rv_text.specs.inside.Writable.{IsPlainWord, AreLines}
use Rattle.rv_text.proofs.inside.Spelled.{tokens_of-words_line, lines_of-spelled, AreOneLine-plain}
use Rattle.rv_gate.specs.declared.circuit.Mark.{Mark}
use Rattle.rv_reader.specs.Rules.{lines_read, whole_of}
use Rattle.rv_reader.specs.Feeding.{object_of}
use Rattle.rv_perm.specs.Perm.{Table, IsPerm, lines_for}
use Rattle.rv_perm.specs.Marked.{Marked, IsMarked}
use Rattle.rv_marks.specs.Row.{constant_of, constant_byte, garbage_of, garbage_byte, mark_lines}
use Rattle.rv_marks.specs.inside.laws.RowLaws.{constant_of-constant_byte, garbage_of-garbage_byte}
use Rattle.rv_marks.proofs.inside.Row.{constant_row_word, garbage_row_word, marks_of-map}
use Rattle.rv_perm.specs.Given.{MarkRow}
use Rattle.rv_perm.specs.Reading.{permutation_of}
use Rattle.rv_perm.specs.Text.{number_lines, text_of}
use Rattle.rv_perm.specs.inside.State.{Given, nothing_given}
use Rattle.rv_perm.specs.inside.Steps.{line_given, directive_given, line_rules, end_on, as_fault, end_given}
use Rattle.rv_perm.specs.inside.laws.Denotes.{denotes}
use Rattle.rv_perm.proofs.inside.Tables.{found_lines, table_back}
use Rattle.rv_perm.proofs.inside.Numerals.{Small, small_numbers}
use Rattle.rv_perm.proofs.inside.RowsBack.{numbers_read, number_lines_are}

-- ---- marks

-- the rows of the text
abbrev constants_row : Marked → MarkRow Mark
constants_row m = record { marks = m.constants; line = 1 }

abbrev garbage_row : Marked → MarkRow Bool
garbage_row m = record { marks = m.garbage; line = 2 }

constants_word : (m : Marked) → IsMarked m → IsPlainWord [] (map constant_byte m.constants)
constants_word m is = constant_row_word m.constants (omega (arith, is.constants, is.permutes.0))

garbage_word : (m : Marked) → IsMarked m → IsPlainWord [] (map garbage_byte m.garbage)
garbage_word m is = garbage_row_word m.garbage (omega (arith, is.garbage, is.permutes.0))

-- what the two directives give
abbrev marks_given : Marked → Given
marks_given m = record nothing_given { constants = Some (constants_row m); garbage = Some (garbage_row m) }

constants_back : (m : Marked) → IsMarked m → line_given nothing_given 1 (words_line (codes ".constants" ∷ map constant_byte m.constants ∷ [])) ≡ Ok (record nothing_given { constants = Some (constants_row m) })
unfolding line_given directive_given
constants_back m is =
    let tokens = tokens_of-words_line false [] (map constant_byte m.constants ∷ []) (constants_word m is, tt) in
    rw (tokens, append-nil (map constant_byte m.constants), marks_of-map constant_of constant_byte constant_of-constant_byte m.constants) refl

garbage_back : (m : Marked) → IsMarked m → line_given (record nothing_given { constants = Some (constants_row m) }) 2 (words_line (codes ".garbage" ∷ map garbage_byte m.garbage ∷ [])) ≡ Ok (marks_given m)
unfolding line_given directive_given
garbage_back m is =
    let tokens = tokens_of-words_line false [] (map garbage_byte m.garbage ∷ []) (garbage_word m is, tt) in
    rw (tokens, append-nil (map garbage_byte m.garbage), marks_of-map garbage_of garbage_byte garbage_of-garbage_byte m.garbage) refl

marks_back : (m : Marked) (rest : List (List (List ℕ))) → IsMarked m
    → lines_read line_rules 0 nothing_given (map words_line (mark_lines m.constants m.garbage ++ rest)) ≡ lines_read line_rules 2 (marks_given m) (map words_line rest)
marks_back m rest is = rw (constants_back m is, garbage_back m is) refl

-- ---- the table

few_words : (table : Table) → IsPerm table.lines table.images → length table.images ≤ 65536
few_words table is = grind (arith, pow-le-pow_right)

small_images : (table : Table) → IsPerm table.lines table.images → Small table.images
small_images table is =
    let few = few_words table is in
    small_numbers table.images (All-from_get_or (λ n. n < 65536) table.images 0 (λ i h. omega (arith, is.3.0 i h)))

-- ---- the text

text_lines_are : (m : Marked) → IsMarked m → AreLines (mark_lines m.constants m.garbage ++ number_lines m.table.images)
text_lines_are m is = (
  (refl, AreOneLine-plain [] (map constant_byte m.constants ∷ []) (constants_word m is, tt)),
  (
    (refl, AreOneLine-plain [] (map garbage_byte m.garbage ∷ []) (garbage_word m is, tt)),
    number_lines_are m.table.images (small_images m.table is.permutes),
  ),
)

-- what all lines give
abbrev all_given : Marked → Given
all_given m = record (marks_given m) { numbers = m.table.images; count = length m.table.images }

lines_back : (m : Marked) → IsMarked m → lines_read line_rules 0 nothing_given (lines_of (text_of m)) ≡ Ok (all_given m)
unfolding text_of
lines_back m is =
    let images = m.table.images in
    let few : 0 + length images ≤ 65536 = rw zero-add (few_words m.table is.permutes) in
    ap (lines_read line_rules 0 nothing_given) (lines_of-spelled (mark_lines m.constants m.garbage ++ number_lines images) (text_lines_are m is))
    ∙ marks_back m (number_lines images) is ∙ numbers_read 2 (marks_given m) images few (small_images m.table is.permutes) ∙ rw zero-add refl

end_back : (m : Marked) → IsMarked m → end_on (lines_for (length m.table.images)) (all_given m) ≡ Ok m
end_back m is = grind (arith, found_lines, eq-eqb, table_back)

object_back : (m : Marked) → IsMarked m → object_of line_rules as_fault end_given (text_of m) ≡ Ok m
unfolding object_of whole_of
object_back m is = rw (lines_back m is) (end_back m is)

pub read_back : (m : Marked) → IsMarked m → permutation_of (text_of m) ≡ Ok m
read_back m is = sym (denotes (text_of m)) ∙ object_back m is
