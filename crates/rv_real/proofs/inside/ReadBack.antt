-- A text that was written is read back.
use Rattle.std.proofs.Common.{◌≡◌, ℕ, ◌+◌, ◌<◌, Bool, true, false, cond, List, [], ◌∷◌, ◌++◌, length, map, Some, Ok, refl, sym, ap, ◌∙◌, arith, decimal, codes}
use Rattle.std.specs.Prelude.{All}
use Rattle.std.proofs.lemmas.List.{length-append}
use Rattle.std.proofs.lemmas.List.Elements.{All-weaker, All-head, All-tail, All-get_or, All-append, All-cons, All-nil}
use Rattle.rv_text.specs.Tokens.{Lexeme, plain, tokens_of}
use Rattle.rv_text.specs.Spelled.{spelled, words_line, written}
use Rattle.rv_text.specs.inside.Writable.{IsPlainWord, is_word_byte, AreLines, AreWritable}
use Rattle.rv_text.proofs.inside.Spelled.{lines_of-spelled, tokens_of-written, AreOneLine-written}
use Rattle.rv_gate.specs.Gate.{FitsIn}
use Rattle.rv_gate.specs.Names.{AreNames, IsName}
use Rattle.rv_gate.specs.Circuit.{Cascade, IsCascade}
use Rattle.rv_gate.specs.declared.gate.Shape.{Shape}
use Rattle.rv_gate.specs.declared.gate.Shape.TheVariants.{Flip, Swap, Peres}
use Rattle.rv_gate.proofs.inside.GateLemmas.{fits_flip, fits_swap_a, fits_swap_b, fits_peres_a, fits_peres_b, fits_peres_c}
use Rattle.rv_gate.specs.Word.{has}
use Rattle.rv_marks.specs.Row.{constant_byte, garbage_byte}
use Rattle.rv_marks.proofs.inside.Row.{constant_row_word, garbage_row_word}
use Rattle.rv_reader.specs.Feeding.{faulted}
use Rattle.rv_real.specs.declared.fault.RealFault.TheVariants as faults
use Rattle.rv_real.specs.inside.Directives.{Header, no_directives}
use Rattle.rv_real.specs.Reading.{token_lines, real_of}
use Rattle.rv_real.specs.inside.LineByLine.{body_of, header_of}
use Rattle.rv_real.specs.inside.laws.ReadByLine.{read_by_line}
use Rattle.rv_real.specs.inside.laws.Denotes.{denotes}
use Rattle.rv_real.specs.Text.{name_at, control_word, controls_from, gate_line, gate_words, circuit_lines, text_of}
use Rattle.rv_real.proofs.inside.Written.{name_word, number_word, label_lexeme, labels_writable, labels_written, plain_writable, plain_written}
use Rattle.rv_real.proofs.inside.GatesBack.{closed_plain, few_controls, gates_back}
use Rattle.rv_real.proofs.inside.HeaderBack.{one_directive, labels_closed, version_back, numvars_back, variables_back, inputs_back, outputs_back, constants_back, garbage_back, header_of_cascade, begin_back}

-- ---- the tokens of the text

abbrev header_lexemes : Cascade → List (List Lexeme) → List (List Lexeme)
header_lexemes c rest =
    (plain (codes ".version") ∷ plain (codes "2.0") ∷ []) ∷ (plain (codes ".numvars") ∷ plain (decimal (length c.names)) ∷ [])
    ∷ (plain (codes ".variables") ∷ map plain c.names) ∷ (plain (codes ".inputs") ∷ map label_lexeme c.input_labels)
    ∷ (plain (codes ".outputs") ∷ map label_lexeme c.output_labels) ∷ (plain (codes ".constants") ∷ plain (map constant_byte c.constants) ∷ [])
    ∷ (plain (codes ".garbage") ∷ plain (map garbage_byte c.garbage) ∷ []) ∷ (plain (codes ".begin") ∷ []) ∷ rest

abbrev gate_lexemes : List (List ℕ) → List Shape → List (List Lexeme)
gate_lexemes names gates = map (λ gate. map plain (gate_words names gate)) gates

abbrev end_lexemes : List (List Lexeme)
end_lexemes = (plain (codes ".end") ∷ []) ∷ []

abbrev circuit_lexemes : Cascade → List (List Lexeme)
circuit_lexemes c = header_lexemes c (gate_lexemes c.names c.gates ++ end_lexemes)

gates_written : (names : List (List ℕ)) (gates : List Shape) → map (map written) (gate_lexemes names gates ++ end_lexemes) ≡ map (gate_words names) gates ++ (codes ".end" ∷ []) ∷ []
gates_written names [] = refl
gates_written names (gate ∷ gates) = let hyp = gates_written names gates in grind (arith, hyp, plain_written)

-- written, the tokens are the words of the text
circuit_written : (c : Cascade) → map (map written) (circuit_lexemes c) ≡ circuit_lines c
circuit_written c =
    rw (plain_written c.names, labels_written c.input_labels, labels_written c.output_labels, gates_written c.names c.gates) refl

-- ---- the tokens can be written

abbrev AreWritableLines : List (List Lexeme) → Type 0
AreWritableLines [] = Unit {0}
AreWritableLines (ts ∷ lines) = AreWritable ts × AreWritableLines lines

names_words : (names : List (List ℕ)) → All IsName names → All (IsPlainWord []) names
names_words names are = All-weaker IsName (IsPlainWord []) name_word names are

control_is : (name : List ℕ) (wanted : Bool) → IsName name → IsPlainWord [] (control_word name wanted)
control_is name true is = name_word name is
control_is name false is = (omega arith, (name_word name is).1)

controls_are : (line : ℕ) (names : List (List ℕ)) (care want : ℕ) → All IsName names → All (IsPlainWord []) (controls_from line names care want)
controls_are line [] care want are = All-nil (IsPlainWord [])
controls_are line (name ∷ names) care want are =
    let rest = controls_are (line + 1) names care want (All-tail IsName name names are) in
    elim (has care line) as (λ t. All (IsPlainWord []) (cond t (control_word name (has want line) ∷ []) [] ++ controls_from (line + 1) names care want)) [
      | true ↦ All-cons (IsPlainWord []) (control_word name (has want line)) (controls_from (line + 1) names care want) (control_is name (has want line) (All-head IsName name names are)) rest
      | false ↦ rest
    ]

name_at_is : (names : List (List ℕ)) (line : ℕ) → All IsName names → line < length names → IsPlainWord [] (name_at names line)
name_at_is names line are lt = name_word (name_at names line) (All-get_or IsName names line [] lt are)

gate_line_is : (letter : ℕ) (words : List (List ℕ)) → is_word_byte [] letter ≡ true → length words < 100 → All (IsPlainWord []) words → All (IsPlainWord []) (gate_line letter words)
gate_line_is letter words byte few are =
    All-cons (IsPlainWord []) (letter ∷ decimal (length words)) words (omega arith, rw byte (number_word (length words) (omega arith)).1) are

two : (a b : List ℕ) → IsPlainWord [] a → IsPlainWord [] b → All (IsPlainWord []) (a ∷ b ∷ [])
two a b is_a is_b = All-cons (IsPlainWord []) a (b ∷ []) is_a (All-cons (IsPlainWord []) b [] is_b (All-nil (IsPlainWord [])))

gate_words_are : (names : List (List ℕ)) (gate : Shape) → AreNames names → FitsIn gate (length names) → All (IsPlainWord []) (gate_words names gate)
gate_words_are names (Flip care want t) are fits =
    let words = controls_from 0 names care want in
    let kept = are.few in
    gate_line_is 116 (words ++ name_at names t ∷ []) refl (omega (arith, length-append words (name_at names t ∷ []), few_controls 0 names care want))
    (All-append (IsPlainWord []) words (name_at names t ∷ []) (controls_are 0 names care want are.each)
    (All-cons (IsPlainWord []) (name_at names t) [] (name_at_is names t are.each (fits_flip (Flip care want t) care want t (length names) refl fits)) (All-nil (IsPlainWord []))))
gate_words_are names (Swap care want a b) are fits =
    let words = controls_from 0 names care want in
    let kept = are.few in
    gate_line_is 102 (words ++ name_at names a ∷ name_at names b ∷ []) refl (omega (arith, length-append words (name_at names a ∷ name_at names b ∷ []), few_controls 0 names care want))
    (All-append (IsPlainWord []) words (name_at names a ∷ name_at names b ∷ []) (controls_are 0 names care want are.each)
    (two (name_at names a) (name_at names b) (name_at_is names a are.each (fits_swap_a (Swap care want a b) care want a b (length names) refl fits)) (name_at_is names b are.each (fits_swap_b (Swap care want a b) care want a b (length names) refl fits))))
gate_words_are names (Peres a b d) are fits =
    gate_line_is 112 (name_at names a ∷ name_at names b ∷ name_at names d ∷ []) refl (omega arith)
    (All-cons (IsPlainWord []) (name_at names a) (name_at names b ∷ name_at names d ∷ []) (name_at_is names a are.each (fits_peres_a (Peres a b d) a b d (length names) refl fits))
    (two (name_at names b) (name_at names d) (name_at_is names b are.each (fits_peres_b (Peres a b d) a b d (length names) refl fits)) (name_at_is names d are.each (fits_peres_c (Peres a b d) a b d (length names) refl fits))))

gates_writable : (names : List (List ℕ)) (gates : List Shape) → AreNames names → All (λ gate. FitsIn gate (length names)) gates → AreWritableLines (gate_lexemes names gates ++ end_lexemes)
gates_writable names [] are fits = (((refl, (omega arith, refl)), tt), tt)
gates_writable names (gate ∷ gates) are fits = (
  plain_writable (gate_words names gate) (gate_words_are names gate are (All-head (λ gate. FitsIn gate (length names)) gate gates fits)),
  gates_writable names gates are (All-tail (λ gate. FitsIn gate (length names)) gate gates fits),
)

circuit_writable : (c : Cascade) → IsCascade c → AreWritableLines (circuit_lexemes c)
circuit_writable c is =
    let kept = is.names.few in
    let lines : ℕ = length c.names in
    let some = is.some in (
      ((refl, (omega arith, refl)), ((refl, (omega arith, refl)), tt)),
      (
        ((refl, (omega arith, refl)), ((refl, number_word lines (omega arith)), tt)),
        (
          ((refl, (omega arith, refl)), plain_writable c.names (names_words c.names is.names.each)),
          (
            ((refl, (omega arith, refl)), labels_writable c.input_labels is.input_labels.each),
            (
              ((refl, (omega arith, refl)), labels_writable c.output_labels is.output_labels.each),
              (
                ((refl, (omega arith, refl)), ((refl, constant_row_word c.constants (omega (arith, is.constants, some))), tt)),
                (
                  ((refl, (omega arith, refl)), ((refl, garbage_row_word c.garbage (omega (arith, is.garbage, some))), tt)),
                  (
                    ((refl, (omega arith, refl)), tt),
                    gates_writable c.names c.gates is.names is.fitting,
                  ),
                ),
              ),
            ),
          ),
        ),
      ),
    )

writable_lines : (lines : List (List Lexeme)) → AreWritableLines lines → AreLines (map (map written) lines)
writable_lines [] h = tt
writable_lines (ts ∷ lines) h = (AreOneLine-written ts h.0, writable_lines lines h.1)

-- the tokens of lines that are written are those tokens
tokens_back : (lines : List (List Lexeme)) → AreWritableLines lines → map (λ line. tokens_of true [] line) (map words_line (map (map written) lines)) ≡ lines
tokens_back [] h = refl
tokens_back (ts ∷ lines) h = rw (tokens_of-written ts h.0, tokens_back lines h.1) refl

-- ---- the text is read

header_back : (c : Cascade) (rest : List (List Lexeme)) → IsCascade c → header_of no_directives 0 (header_lexemes c rest) ≡ body_of (record c { gates = [] }) 8 rest
header_back c rest is =
    let n : ℕ = length c.names in
    let h1 : Header = record no_directives { numvars = Some n } in
    let h2 : Header = record h1 { names = Some c.names } in
    let h3 : Header = record h2 { input_labels = Some c.input_labels } in
    let h4 : Header = record h3 { output_labels = Some c.output_labels } in
    let h5 : Header = record h4 { constants = Some c.constants } in
    let r7 : List (List Lexeme) = (plain (codes ".begin") ∷ []) ∷ rest in
    let r6 : List (List Lexeme) = (plain (codes ".garbage") ∷ plain (map garbage_byte c.garbage) ∷ []) ∷ r7 in
    let r5 : List (List Lexeme) = (plain (codes ".constants") ∷ plain (map constant_byte c.constants) ∷ []) ∷ r6 in
    let r4 : List (List Lexeme) = (plain (codes ".outputs") ∷ map label_lexeme c.output_labels) ∷ r5 in
    let r3 : List (List Lexeme) = (plain (codes ".inputs") ∷ map label_lexeme c.input_labels) ∷ r4 in
    let r2 : List (List Lexeme) = (plain (codes ".variables") ∷ map plain c.names) ∷ r3 in
    let r1 : List (List Lexeme) = (plain (codes ".numvars") ∷ plain (decimal n) ∷ []) ∷ r2 in
    one_directive 0 no_directives no_directives (plain (codes ".version")) (plain (codes "2.0") ∷ []) r1 refl refl (version_back no_directives)
    ∙ one_directive 1 no_directives h1 (plain (codes ".numvars")) (plain (decimal n) ∷ []) r2 refl refl (numvars_back n is.some is.names.few)
    ∙ one_directive 2 h1 h2 (plain (codes ".variables")) (map plain c.names) r3 (closed_plain c.names) refl (variables_back h1 c.names is.names refl refl)
    ∙ one_directive 3 h2 h3 (plain (codes ".inputs")) (map label_lexeme c.input_labels) r4 (labels_closed c.input_labels) refl (inputs_back h2 n c.input_labels is.input_labels refl refl)
    ∙ one_directive 4 h3 h4 (plain (codes ".outputs")) (map label_lexeme c.output_labels) r5 (labels_closed c.output_labels) refl (outputs_back h3 n c.output_labels is.output_labels refl refl)
    ∙ one_directive 5 h4 h5 (plain (codes ".constants")) (plain (map constant_byte c.constants) ∷ []) r6 refl refl (constants_back h4 n c.constants is.constants refl refl)
    ∙ one_directive 6 h5 (header_of_cascade c) (plain (codes ".garbage")) (plain (map garbage_byte c.garbage) ∷ []) r7 refl refl (garbage_back h5 n c.garbage is.garbage refl refl)
    ∙ begin_back 7 c rest

end_back : (before : ℕ) (c : Cascade) → body_of c before end_lexemes ≡ Ok c
end_back before c = refl

-- a circuit's text denotes the circuit
pub read_back : (c : Cascade) → IsCascade c → real_of (text_of c) ≡ Ok c
unfolding text_of
read_back c is =
    let writable = circuit_writable c is in
    let lines : token_lines (spelled (circuit_lines c)) ≡ circuit_lexemes c =
    ap (λ ls. token_lines (spelled ls)) (sym (circuit_written c)) ∙ ap (map (λ line. tokens_of true [] line)) (lines_of-spelled (map (map written) (circuit_lexemes c)) (writable_lines (circuit_lexemes c) writable))
    ∙ tokens_back (circuit_lexemes c) writable in
    let read : header_of no_directives 0 (token_lines (spelled (circuit_lines c))) ≡ Ok c =
    ap (header_of no_directives 0) lines ∙ header_back c (gate_lexemes c.names c.gates ++ end_lexemes) is
    ∙ gates_back 8 c [] c.gates end_lexemes is.names is.valid is.fitting (omega (arith, is.bounded))
    ∙ end_back (8 + length c.gates) c in
    sym (denotes (spelled (circuit_lines c))) ∙ read_by_line (spelled (circuit_lines c)) ∙ ap (faulted faults.Text) read
