-- Line by line a text gives what it denotes.
use Rattle.std.proofs.Common.{◌≡◌, ℕ, suc, ◌+◌, ◌≤◌, Bool, true, false, not, cond, ◌&&◌, ◌||◌, eqb, ltb, List, [], ◌∷◌, ◌++◌, length, map, Option, Some, None, is_some, Result, Ok, Err, refl, sym, ◌∙◌, ap, inl, inr, arith, append_assoc, codes}
use Rattle.std.specs.List.{list_all}
use Rattle.std.specs.Option.{option_map, option_or}
use Rattle.std.specs.Result.{result_err}
use Rattle.std.specs.Str.{bytes_eq}
use Rattle.std.proofs.lemmas.Bool.{cases_Bool, cond-true, cond-false}
use Rattle.std.proofs.lemmas.Grind.{flat_map-append}
use Rattle.std.proofs.lemmas.List.{append-nil, length_push}
use Rattle.rv_gate.specs.declared.circuit.Mark.{Mark}
use Rattle.rv_gate.specs.declared.circuit.Mark.TheVariants.{Input}
use Rattle.rv_text.specs.Decimal.{is_decimal, decimal_value}
use Rattle.rv_text.specs.Lines.{lines_of}
use Rattle.rv_text.specs.Tokens.{Lexeme, tokens_of, joined}
use Rattle.rv_text.specs.declared.fault.TextFault.{TextFault}
use Rattle.rv_marks.specs.Row.{marks_of, constant_of, garbage_of}
use Rattle.rv_reader.specs.inside.laws.GivenLaws.{option_or-none, option_or-after, not_both, no_directive}
use Rattle.rv_reader.specs.Rules.{◌>>=◌, broken, found_or, on_line, lines_read, with_count, whole_of}
use Rattle.rv_reader.specs.Feeding.{faulted, text_as, object_of}
use Rattle.rv_perm.specs.declared.code.TheConstants as code
use Rattle.rv_perm.specs.declared.fault.PermFault.{PermFault}
use Rattle.rv_perm.specs.declared.fault.PermFault.TheVariants as faults
use Rattle.rv_perm.specs.Perm.{Table, fault_below, images_checked, lines_for}
use Rattle.rv_perm.specs.Marked.{Marked}
use Rattle.rv_perm.specs.Line.{numerals_of, numbers_of, separators}
use Rattle.rv_text.specs.Bytes.{begins_with_dot}
use Rattle.rv_perm.specs.Given.{MarkRow, row_in, first_row, constants_in, garbage_in, numbers_in, row_fault, directive_fault, words_fault, fault_by, fault_of}
use Rattle.rv_perm.specs.Reading.{marks_on, marked_on, end_of, fault_in, permutation_of}
use Rattle.rv_reader.specs.FirstFault.{first_fault, unless_text, unless_fault}
use Rattle.rv_perm.specs.inside.State.{Given, nothing_given, with_number}
use Rattle.rv_perm.specs.declared.perm.TheConstants.{MOST_NUMBERS}
use Rattle.rv_perm.specs.inside.Steps.{row_given, constants_given, garbage_given, directive_given, numbers_given, line_by, line_given, line_rules, row_checked, marks_or, with_marks, end_on, end_given, as_fault}
use Rattle.rv_perm.specs.inside.laws.Kept.{kept, kept-none, kept-more, lines_for-few, images_checked-kept}

-- ---- what stands first

first_row-append : {M : Type 0} (name : List ℕ) (mark_of : ℕ → Option M) (before : ℕ) (xs ys : List (List ℕ))
    → first_row name mark_of before (xs ++ ys)
    ≡ option_or (first_row name mark_of before xs) (first_row name mark_of (before + length xs) ys)
first_row-append name mark_of before [] ys =
    let e : before + 0 ≡ before = omega arith in ap (λ k. first_row name mark_of k ys) (sym e)
first_row-append name mark_of before (x ∷ xs) ys =
    let row = row_in name mark_of (before + 1) (tokens_of false [] x) in
    let e : (before + 1) + length xs ≡ before + suc (length xs) = omega arith in
    ap (option_or row) (first_row-append name mark_of (before + 1) xs ys)
    ∙ option_or-after row (first_row name mark_of (before + 1) xs)
    (first_row name mark_of ((before + 1) + length xs) ys)
    ∙ ap (λ k. option_or (option_or row (first_row name mark_of (before + 1) xs)) (first_row name mark_of k ys)) e

first_row-more : {M : Type 0} (name : List ℕ) (mark_of : ℕ → Option M) (lines : List (List ℕ)) (line : List ℕ)
    → first_row name mark_of 0 (lines ++ line ∷ [])
    ≡ option_or (first_row name mark_of 0 lines) (row_in name mark_of (length lines + 1) (tokens_of false [] line))
first_row-more name mark_of lines line =
    let e : 0 + length lines ≡ length lines = omega arith in
    first_row-append name mark_of 0 lines (line ∷ [])
    ∙ ap (λ k. option_or (first_row name mark_of 0 lines) (first_row name mark_of k (line ∷ []))) e
    ∙ ap (option_or (first_row name mark_of 0 lines))
    (option_or-none (row_in name mark_of (length lines + 1) (tokens_of false [] line)))

numbers_in-more : (lines : List (List ℕ)) (line : List ℕ)
    → numbers_in (lines ++ line ∷ []) ≡ numbers_in lines ++ numbers_of line
numbers_in-more lines line =
    flat_map-append numbers_of lines (line ∷ []) ∙ ap (λ ns. numbers_in lines ++ ns) (append-nil (numbers_of line))

-- ---- the numbers that are kept

-- the state that stands for lines without a fault
abbrev given_with : Option (MarkRow Mark) → Option (MarkRow Bool) → List ℕ → Given
given_with constants garbage numbers =
    record { constants = constants; garbage = garbage; numbers = kept MOST_NUMBERS numbers; count = length numbers }

abbrev given_of : List (List ℕ) → Given
given_of lines = given_with (constants_in lines) (garbage_in lines) (numbers_in lines)

with_number-more : (c : Option (MarkRow Mark)) (g : Option (MarkRow Bool)) (numbers : List ℕ) (n : ℕ)
    → with_number (given_with c g numbers) n ≡ given_with c g (numbers ++ n ∷ [])
with_number-more c g numbers n =
    let more = kept-more MOST_NUMBERS numbers n in
    let count : length (numbers ++ n ∷ []) ≡ length numbers + 1 = length_push numbers n in
    ap (λ ns. record { constants = c; garbage = g; numbers = ns; count = length numbers + 1 }) more
    ∙ ap (λ k. record { constants = c; garbage = g; numbers = kept MOST_NUMBERS (numbers ++ n ∷ []); count = k })
    (sym count)

abbrev decimals_of : List Lexeme → List ℕ
decimals_of words = map (λ word. decimal_value word.bytes) words

step_of : Option ℕ → Given → Result Given ℕ
step_of None given = Ok given
step_of (Some code) given = Err code

numbers_step : (c : Option (MarkRow Mark)) (g : Option (MarkRow Bool)) (numbers : List ℕ) (words : List Lexeme)
    → numbers_given (given_with c g numbers) words
    ≡ step_of (words_fault words) (given_with c g (numbers ++ decimals_of words))
unfolding step_of
numbers_step c g numbers [] = ap (λ ns. Ok (given_with c g ns)) (sym (append-nil numbers))
numbers_step c g numbers (word ∷ words) =
    let n : ℕ = decimal_value word.bytes in
    elim (is_decimal word.bytes) as (λ b. broken (not b) code.NOT_A_NUMBER
    (numbers_given (with_number (given_with c g numbers) n) words)
    ≡ step_of (cond (b && list_all (λ word. is_decimal word.bytes) words) None (Some code.NOT_A_NUMBER))
    (given_with c g (numbers ++ (n ∷ decimals_of words)))) [
      | true ↦
          ap (λ (given : Given). numbers_given given words) (with_number-more c g numbers n)
          ∙ numbers_step c g (numbers ++ n ∷ []) words
          ∙ ap (λ ns. step_of (words_fault words) (given_with c g ns))
          (append_assoc numbers (n ∷ []) (decimals_of words))
      | false ↦ refl
    ]

-- ---- one line more

-- a row of marks more
row_step : {M : Type 0} (old : Option (MarkRow M)) (late : Bool) (marks : Option (List M)) (number : ℕ)
    (put : Option (MarkRow M) → Given)
    → broken (is_some old || late) code.DIRECTIVE_OUT_OF_PLACE
    (found_or code.WRONG_MARK_ROW (option_map (λ marks. record { marks = marks; line = number }) marks)
    >>= λ row. Ok (put (Some row)))
    ≡ step_of (row_fault (is_some old || late) marks)
    (put (option_or old (option_map (λ marks. record { marks = marks; line = number }) marks)))
unfolding step_of
row_step (Some row) late marks number put = refl
row_step None true marks number put = refl
row_step None false None number put = refl
row_step None false (Some marks) number put = refl

constants_step : (c : Option (MarkRow Mark)) (g : Option (MarkRow Bool)) (ns bytes : List ℕ) (number : ℕ)
    → constants_given (given_with c g ns) number bytes
    ≡ step_of (row_fault (is_some c || ltb 0 (length ns)) (marks_of constant_of bytes))
    (given_with (option_or c (row_given constant_of number bytes)) g ns)
constants_step c g ns bytes number =
    row_step c (ltb 0 (length ns)) (marks_of constant_of bytes) number (λ row. given_with row g ns)

garbage_step : (c : Option (MarkRow Mark)) (g : Option (MarkRow Bool)) (ns bytes : List ℕ) (number : ℕ)
    → garbage_given (given_with c g ns) number bytes
    ≡ step_of (row_fault (is_some g || ltb 0 (length ns)) (marks_of garbage_of bytes))
    (given_with c (option_or g (row_given garbage_of number bytes)) ns)
garbage_step c g ns bytes number =
    row_step g (ltb 0 (length ns)) (marks_of garbage_of bytes) number (λ row. given_with c row ns)

-- the state after a line, by its tokens
abbrev given_after : List (List ℕ) → List ℕ → List Lexeme → Given
given_after before line words =
    given_with
    (option_or (constants_in before) (row_in (codes ".constants") constant_of (length before + 1) words))
    (option_or (garbage_in before) (row_in (codes ".garbage") garbage_of (length before + 1) words))
    (numbers_in before ++ decimals_of (numerals_of line words))

given_by-same : (c d : Option (MarkRow Mark)) (g h : Option (MarkRow Bool)) (ns ms : List ℕ) → c ≡ d → g ≡ h → ns ≡ ms
    → given_with c g ns ≡ given_with d h ms
given_by-same c d g h ns ms e f k =
    ap (λ x. given_with x g ns) e ∙ ap (λ x. given_with d x ns) f ∙ ap (given_with d h) k

row_named : {M : Type 0} (name : List ℕ) (mark_of : ℕ → Option M) (number : ℕ) (word : Lexeme) (words : List Lexeme)
    → bytes_eq word.bytes name ≡ true
    → row_in name mark_of number (word ∷ words)
    ≡ option_map (λ marks. record { marks = marks; line = number }) (marks_of mark_of (joined words))
row_named name mark_of number word words is =
    ap (option_map (λ marks. record { marks = marks; line = number })) (cond-true _ _ _ is)

row_other : {M : Type 0} (name : List ℕ) (mark_of : ℕ → Option M) (number : ℕ) (word : Lexeme) (words : List Lexeme)
    (old : Option (MarkRow M)) → bytes_eq word.bytes name ≡ false
    → old ≡ option_or old (row_in name mark_of number (word ∷ words))
row_other name mark_of number word words old is =
    sym (ap (λ marks. option_or old (option_map (λ marks. record { marks = marks; line = number }) marks))
    (cond-false (bytes_eq word.bytes name) (marks_of mark_of (joined words)) None is) ∙ option_or-none old)

directive_step : (before : List (List ℕ)) (line : List ℕ) (word : Lexeme) (words : List Lexeme)
    → begins_with_dot word.bytes ≡ true
    → directive_given (given_of before) (length before + 1) word.bytes words
    ≡ step_of (directive_fault before word.bytes words) (given_after before line (word ∷ words))
unfolding directive_given step_of
directive_step before line word words dot =
    let number : ℕ = length before + 1 in
    let c = constants_in before in
    let g = garbage_in before in
    let ns : List ℕ = numbers_in before in
    let late : Bool = ltb 0 (length ns) in
    let none : ns ≡ ns ++ decimals_of (numerals_of line (word ∷ words)) =
    sym (append-nil ns) ∙ ap (λ ws. ns ++ decimals_of ws)
    (sym (cond-true (begins_with_dot word.bytes) [] (tokens_of false separators line) dot)) in
    elim (cases_Bool (bytes_eq word.bytes (codes ".constants"))) [
      | inl is ↦
          cond-true (bytes_eq word.bytes (codes ".constants")) _ _ is
          ∙ constants_step c g ns (joined words) number
          ∙ ap (step_of (row_fault (is_some c || late) (marks_of constant_of (joined words))))
          (given_by-same _ _ _ _ _ _
          (ap (option_or c) (sym (row_named (codes ".constants") constant_of number word words is)))
          (row_other (codes ".garbage") garbage_of number word words g
          (not_both word.bytes (codes ".constants") (codes ".garbage") refl is)) none)
          ∙ ap (λ f. step_of f (given_after before line (word ∷ words)))
          (sym (cond-true (bytes_eq word.bytes (codes ".constants")) _ _ is))
      | inr other ↦
          cond-false (bytes_eq word.bytes (codes ".constants")) _ _ other
          ∙ (elim (cases_Bool (bytes_eq word.bytes (codes ".garbage"))) [
            | inl is ↦
                cond-true (bytes_eq word.bytes (codes ".garbage")) _ _ is
                ∙ garbage_step c g ns (joined words) number
                ∙ ap (step_of (row_fault (is_some g || late) (marks_of garbage_of (joined words))))
                (given_by-same _ _ _ _ _ _ (row_other (codes ".constants") constant_of number word words c other)
                (ap (option_or g) (sym (row_named (codes ".garbage") garbage_of number word words is))) none)
                ∙ ap (λ f. step_of f (given_after before line (word ∷ words)))
                (sym (cond-true (bytes_eq word.bytes (codes ".garbage")) _ _ is))
            | inr neither ↦
                cond-false (bytes_eq word.bytes (codes ".garbage")) _ _ neither
                ∙ ap (λ f. step_of f (given_after before line (word ∷ words)))
                (sym (cond-false (bytes_eq word.bytes (codes ".garbage")) (row_fault (is_some g || late)
                (marks_of garbage_of (joined words))) (Some code.UNKNOWN_DIRECTIVE) neither))
          ])
          ∙ ap (λ f. step_of f (given_after before line (word ∷ words)))
          (sym (cond-false (bytes_eq word.bytes (codes ".constants")) _ _ other))
    ]

words_step : (before : List (List ℕ)) (line : List ℕ) (word : Lexeme) (words : List Lexeme)
    → begins_with_dot word.bytes ≡ false
    → numbers_given (given_of before) (tokens_of false separators line)
    ≡ step_of (words_fault (tokens_of false separators line)) (given_after before line (word ∷ words))
words_step before line word words none =
    let number : ℕ = length before + 1 in
    let c = constants_in before in
    let g = garbage_in before in
    let ns : List ℕ = numbers_in before in
    numbers_step c g ns (tokens_of false separators line)
    ∙ ap (step_of (words_fault (tokens_of false separators line)))
    (given_by-same _ _ _ _ _ _ (row_other (codes ".constants") constant_of number word words c
    (no_directive word.bytes (codes ".constants") refl none))
    (row_other (codes ".garbage") garbage_of number word words g (no_directive word.bytes (codes ".garbage") refl none))
    (ap (λ ws. ns ++ decimals_of ws)
    (sym (cond-false (begins_with_dot word.bytes) [] (tokens_of false separators line) none))))

line_step : (before : List (List ℕ)) (line : List ℕ) (words : List Lexeme)
    → line_by (given_of before) (length before + 1) line words
    ≡ step_of (fault_by before line words) (given_after before line words)
unfolding step_of
line_step before line [] =
    ap Ok (given_by-same _ _ _ _ _ _ (sym (option_or-none (constants_in before)))
    (sym (option_or-none (garbage_in before))) (sym (append-nil (numbers_in before))))
line_step before line (word ∷ words) =
    elim (cases_Bool (begins_with_dot word.bytes)) [
      | inl dot ↦
          cond-true (begins_with_dot word.bytes) _ _ dot ∙ directive_step before line word words dot
          ∙ ap (λ f. step_of f (given_after before line (word ∷ words)))
          (sym (cond-true (begins_with_dot word.bytes) _ _ dot))
      | inr none ↦
          cond-false (begins_with_dot word.bytes) _ _ none ∙ words_step before line word words none
          ∙ ap (λ f. step_of f (given_after before line (word ∷ words)))
          (sym (cond-false (begins_with_dot word.bytes) _ _ none))
    ]

given_more : (before : List (List ℕ)) (line : List ℕ)
    → given_after before line (tokens_of false [] line) ≡ given_of (before ++ line ∷ [])
given_more before line =
    sym (given_by-same _ _ _ _ _ _ (first_row-more (codes ".constants") constant_of before line)
    (first_row-more (codes ".garbage") garbage_of before line) (numbers_in-more before line))

-- ---- all lines

read_as : Option TextFault → Given → Result Given TextFault
read_as None given = Ok given
read_as (Some fault) given = Err fault

reads : (lines before : List (List ℕ))
    → lines_read line_rules (length before) (given_of before) lines
    ≡ read_as (first_fault fault_of before lines) (given_of (before ++ lines))
unfolding read_as step_of line_given
reads [] before = ap (λ ls. Ok (given_of ls)) (sym (append-nil before))
reads (line ∷ lines) before =
    let number : ℕ = length before + 1 in
    let count : length (before ++ line ∷ []) ≡ number = length_push before line in
    ap (λ step. on_line number step >>= λ next. lines_read line_rules number next lines)
    (line_step before line (tokens_of false [] line))
    ∙ (elim (fault_of before line) as (λ f.
    (on_line number (step_of f (given_after before line (tokens_of false [] line)))
    >>= λ next. lines_read line_rules number next lines)
    ≡ read_as (option_or (option_map (λ code. record { line = number; code = code }) f)
    (first_fault fault_of (before ++ line ∷ []) lines)) (given_of (before ++ (line ∷ lines)))) [
      | None ↦
          ap (λ given. lines_read line_rules number given lines) (given_more before line)
          ∙ ap (λ k. lines_read line_rules k (given_of (before ++ line ∷ [])) lines) (sym count)
          ∙ reads lines (before ++ line ∷ [])
          ∙ ap (λ ls. read_as (first_fault fault_of (before ++ line ∷ []) lines) (given_of ls))
          (append_assoc before (line ∷ []) lines)
      | Some code ↦ refl
    ])

-- the rules find the first fault
pub finds : (lines : List (List ℕ)) → result_err (lines_read line_rules 0 nothing_given lines) ≡ fault_in lines
unfolding read_as
finds lines =
    let start : given_of [] ≡ nothing_given =
    ap (λ ns. record { constants = None; garbage = None; numbers = ns; count = 0 }) (kept-none MOST_NUMBERS) in
    ap (λ given. result_err (lines_read line_rules 0 given lines)) (sym start) ∙ ap result_err (reads lines [])
    ∙ fault_read (fault_in lines) (given_of lines)
  where
    fault_read : (f : Option TextFault) (given : Given) → result_err (read_as f given) ≡ f
    fault_read None given = refl
    fault_read (Some fault) given = refl

-- ---- the end

checked_then : {M X : Type 0} (n : ℕ) (mark : M) (row : Option (MarkRow M)) (rest : List M → Result X PermFault)
    → (row_checked n row >>= λ _. rest (marks_or n mark row)) ≡ (marks_on n mark row >>= rest)
checked_then n mark None rest = refl
checked_then n mark (Some row) rest =
    elim (eqb (length row.marks) n) as (λ b. (broken (not b)
    (faults.Text (record { line = row.line; code = code.WRONG_MARK_ROW })) (Ok (tt {0})) >>= λ _. rest row.marks)
    ≡ (broken (not b) (faults.Text (record { line = row.line; code = code.WRONG_MARK_ROW })) (Ok row.marks) >>= rest)) [
      | true ↦ refl
      | false ↦ refl
    ]

-- the table has as many lines as were checked
marked_then : (n : ℕ) (c : Option (MarkRow Mark)) (g : Option (MarkRow Bool)) (numbers : List ℕ)
    → (images_checked n numbers >>= λ table. Ok (with_marks table c g))
    ≡ (images_checked n numbers
    >>= λ table. Ok (record { table = table; constants = marks_or n Input c; garbage = marks_or n false g }))
unfolding images_checked
marked_then n c g numbers =
    elim (fault_below numbers (length numbers)) as (λ f.
    (unless_fault (record { lines = n; images = numbers }) f >>= λ table. Ok (with_marks table c g))
    ≡ (unless_fault (record { lines = n; images = numbers }) f
    >>= λ table. Ok (record { table = table; constants = marks_or n Input c; garbage = marks_or n false g }))) [
      | None ↦ refl
      | Some fault ↦ refl
    ]

end_step : (lines : Option ℕ) (c : Option (MarkRow Mark)) (g : Option (MarkRow Bool)) (numbers : List ℕ)
    → lines_for (length numbers) ≡ lines → end_on lines (given_with c g numbers) ≡ marked_on lines c g numbers
end_step None c g numbers is = refl
end_step (Some n) c g numbers is =
    let few : length numbers ≤ MOST_NUMBERS = lines_for-few (length numbers) n is in
    ap (λ (images : Result Table PermFault). row_checked n c
    >>= λ _. row_checked n g >>= λ _. images >>= λ table. Ok (with_marks table c g))
    (images_checked-kept n MOST_NUMBERS numbers few)
    ∙ ap (λ (rest : Result Marked PermFault). row_checked n c >>= λ _. row_checked n g >>= λ _. rest)
    (marked_then n c g numbers)
    ∙ ap (λ (rest : Result Marked PermFault). row_checked n c >>= λ _. rest)
    (checked_then n false g (λ garbage. images_checked n numbers
    >>= λ table. Ok (record { table = table; constants = marks_or n Input c; garbage = garbage })))
    ∙ checked_then n Input c (λ constants. marks_on n false g >>= λ garbage. images_checked n numbers
    >>= λ table. Ok (record { table = table; constants = constants; garbage = garbage }))

pub denotes : (text : List ℕ) → object_of line_rules as_fault end_given text ≡ permutation_of text
unfolding object_of whole_of permutation_of read_as
denotes text =
    let start : given_of [] ≡ nothing_given =
    ap (λ ns. record { constants = None; garbage = None; numbers = ns; count = 0 }) (kept-none MOST_NUMBERS) in
    ap (λ given. faulted (text_as as_fault)
    (lines_read line_rules 0 given (lines_of text) >>= with_count (length (lines_of text))) >>= end_given)
    (sym start)
    ∙ ap (λ all. faulted (text_as as_fault) (all >>= with_count (length (lines_of text))) >>= end_given)
    (reads (lines_of text) [])
    ∙ (elim (first_fault fault_of [] (lines_of text)) as (λ f.
    (faulted (text_as as_fault) (read_as f (given_of (lines_of text)) >>= with_count (length (lines_of text)))
    >>= end_given) ≡ unless_text faults.Text f (end_of (lines_of text))) [
      | None ↦
          end_step (lines_for (length (numbers_in (lines_of text)))) (constants_in (lines_of text))
          (garbage_in (lines_of text)) (numbers_in (lines_of text)) refl
      | Some fault ↦ refl
    ])
