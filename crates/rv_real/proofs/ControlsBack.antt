-- The operands of a gate that was written are read back.
use Rattle.std.proofs.Common.{◌≡◌, ◌≢◌, ℕ, ◌+◌, ◌<◌, ◌≤◌, Bool, true, false, not, cond, List, [], ◌∷◌, ◌++◌, length, map, get_or, slice_get, nat_lt, Some, Ok, refl, sym, ap, ◌∙◌, arith, append_assoc, eq-eqb, ne_eqb}
use Rattle.std.specs.Prelude.{AllPairs}
use Rattle.std.proofs.lemmas.Bool.{cases_Bool, cases_eq, cases_lt, lt-ltb, eqb-true}
use Rattle.std.proofs.lemmas.Nat.Bits.{same_from_bits}
use Rattle.std.proofs.lemmas.List.{append-nil, length-append, get_or_at}
use Rattle.std.proofs.lemmas.List.Elements.{All-get_or}
use Rattle.std.proofs.lemmas.Option.{slice_get-get_or, get_or_from_slice_get, slice_get_within}
use Rattle.rv_text.specs.Tokens.{Lexeme, plain}
use Rattle.rv_gate.specs.Word.{has}
use Rattle.rv_gate.specs.Names.{AreNames, IsName}
use Rattle.rv_gate.proofs.LineSets.{bits_from_has}
use Rattle.rv_real.specs.Rules.{in_order}
use Rattle.rv_real.specs.Header.{line_of_name}
use Rattle.rv_real.specs.Body.{Operand, operand_of, with_operand, names_line, has_repeated, line_set, wanting_one}
use Rattle.rv_real.specs.Text.{name_at, control_word, controls_from}
use Rattle.rv_real.proofs.LineSets.{has-line_set}
use Rattle.rv_real.proofs.NameLemmas.{found_unique}
use Rattle.rv_real.proofs.inside.Written.{name_parts}

-- ---- the names of lines

-- a name is that of one line alone
only_line : (names : List (List ℕ)) (name : List ℕ) (line : ℕ) → AllPairs (λ x y. x ≢ y) names → slice_get names line ≡ Some name → (k : ℕ) → slice_get names k ≡ Some name → k ≡ line
only_line names name line apart at k also = grind (arith, get_or_from_slice_get, cases_eq, cases_lt, slice_get_within)

pub line_found : (names : List (List ℕ)) (line : ℕ) → AreNames names → line < length names → line_of_name names (name_at names line) ≡ Some line
line_found names line are lt =
    let at : slice_get names line ≡ Some (name_at names line) = slice_get-get_or names line [] lt in
    found_unique names (name_at names line) line at (only_line names (name_at names line) line are.apart at) (line_of_name names (name_at names line)) refl

name_is : (names : List (List ℕ)) (line : ℕ) → AreNames names → line < length names → IsName (name_at names line)
name_is names line are lt = All-get_or IsName names line [] lt are.each

-- ---- one operand

-- a name alone
pub bare_operand : (names : List (List ℕ)) (line : ℕ) (is_control : Bool) → AreNames names → line < length names
    → operand_of names is_control (plain (name_at names line)) ≡ Ok (record { line = line; is_negative = false })
bare_operand names line is_control are lt =
    let parts = name_parts (name_at names line) (name_is names line are lt) in
    rw (parts.no_sign, line_found names line are lt) refl

-- a name after `-`
signed_operand : (names : List (List ℕ)) (line : ℕ) → AreNames names → line < length names
    → operand_of names true (plain (45 ∷ name_at names line)) ≡ Ok (record { line = line; is_negative = true })
signed_operand names line are lt = rw (line_found names line are lt) refl

-- ---- the controls

-- the operand of a line that is a control
abbrev pub control_operand : ℕ → ℕ → ℕ → List Operand
control_operand care want line = cond (has care line) (record { line = line; is_negative = not (has want line) } ∷ []) []

-- those of so many lines, from `line` on
abbrev pub control_operands : ℕ → List (List ℕ) → ℕ → ℕ → List Operand
control_operands line [] care want = []
control_operands line (name ∷ names) care want = control_operand care want line ++ control_operands (line + 1) names care want

pub control_operands-count : (line : ℕ) (names : List (List ℕ)) (care want : ℕ) → length (control_operands line names care want) ≡ length (controls_from line names care want)
control_operands-count line [] care want = refl
control_operands-count line (name ∷ names) care want = let rest = control_operands-count (line + 1) names care want in grind (arith, rest, length-append)

control_read : (names : List (List ℕ)) (line : ℕ) (wanted : Bool) → AreNames names → line < length names
    → operand_of names true (plain (control_word (name_at names line) wanted)) ≡ Ok (record { line = line; is_negative = not wanted })
control_read names line true are lt = bare_operand names line true are lt
control_read names line false are lt = signed_operand names line are lt

-- the controls of the lines after a front of the names
pub controls_read : (names front rest : List (List ℕ)) (controls care want line : ℕ) (so_far : List Operand) (tail : List Lexeme) → AreNames names → front ++ rest ≡ names → length front ≡ line
    → length so_far + length (controls_from line rest care want) ≤ controls
    → in_order (with_operand names controls) so_far (map plain (controls_from line rest care want) ++ tail)
    ≡ in_order (with_operand names controls) (so_far ++ control_operands line rest care want) tail
controls_read names front [] controls care want line so_far tail are whole at few = ap (λ (os : List Operand). in_order (with_operand names controls) os tail) (append-nil' so_far)
  where
    append-nil' : (xs : List Operand) → xs ≡ xs ++ []
    append-nil' xs = sym (append-nil xs)
controls_read names front (name ∷ rest) controls care want line so_far tail are whole at few =
    let within : line < length names = omega (arith, ap length whole, length-append front (name ∷ rest)) in
    let here : name_at names line ≡ name = ap (λ ns. get_or ns line []) (sym whole) ∙ get_or_at front name rest [] line at in
    let whole' : (front ++ name ∷ []) ++ rest ≡ names = append_assoc front (name ∷ []) rest ∙ whole in
    let at' : length (front ++ name ∷ []) ≡ line + 1 = omega (arith, length-append front (name ∷ [])) in
    elim (has care line) as (λ t. length so_far + length (cond t (control_word name (has want line) ∷ []) [] ++ controls_from (line + 1) rest care want) ≤ controls
    → in_order (with_operand names controls) so_far (map plain (cond t (control_word name (has want line) ∷ []) [] ++ controls_from (line + 1) rest care want) ++ tail)
    ≡ in_order (with_operand names controls) (so_far ++ (cond t (record { line = line; is_negative = not (has want line) } ∷ []) [] ++ control_operands (line + 1) rest care want)) tail) [
      | true ↦ λ le.
          (let o : Operand = record { line = line; is_negative = not (has want line) } in
          let room : nat_lt (length so_far) controls ≡ true = lt-ltb _ _ (omega (arith, le)) in
          let read : operand_of names true (plain (control_word name (has want line))) ≡ Ok o = ap (λ n. operand_of names true (plain (control_word n (has want line)))) (sym here) ∙ control_read names line (has want line) are within in
          let more = controls_read names (front ++ name ∷ []) rest controls care want (line + 1) (so_far ++ o ∷ []) tail are whole' at' (omega (arith, le, length-append so_far (o ∷ []))) in
          rw (room, read) (more ∙ ap (λ (os : List Operand). in_order (with_operand names controls) os tail) (append_assoc so_far (o ∷ []) (control_operands (line + 1) rest care want))))
      | false ↦ λ le. controls_read names (front ++ name ∷ []) rest controls care want (line + 1) so_far tail are whole' at' le
    ] few

-- ---- the sets of lines

-- a line that a control is on is in the set, and not before the first
control_named : (line : ℕ) (names : List (List ℕ)) (care want x : ℕ) → names_line (control_operands line names care want) x ≡ true → (has care x ≡ true) × (line ≤ x)
control_named line [] care want x h = absurd cc
control_named line (name ∷ names) care want x h = let rest = control_named (line + 1) names care want x in grind (arith, rest, eqb-true)

control_there : (line : ℕ) (names : List (List ℕ)) (care want x : ℕ) → has care x ≡ true → line ≤ x → x < line + length names → names_line (control_operands line names care want) x ≡ true
control_there line [] care want x on le lt = absurd (omega (arith, le, lt))
control_there line (name ∷ names) care want x on le lt = let rest = control_there (line + 1) names care want x on in grind (arith, rest, cases_eq, eq-eqb, ne_eqb)

-- all lines of a set are below the number of names
abbrev pub AreBelow : ℕ → ℕ → Type 0
AreBelow care lines = (line : ℕ) → has care line ≡ true → line < lines

pub named_exactly : (names : List (List ℕ)) (care want x : ℕ) → AreBelow care (length names) → names_line (control_operands 0 names care want) x ≡ has care x
named_exactly names care want x below = grind (arith, cases_Bool, control_there, names_line, control_named)

pub lines_back : (names : List (List ℕ)) (care want : ℕ) → AreBelow care (length names) → line_set (control_operands 0 names care want) ≡ care
lines_back names care want below =
    same_from_bits _ _ (λ i. bits_from_has _ i _ i (has-line_set (control_operands 0 names care want) i ∙ named_exactly names care want i below))

-- the controls that want 1 are those that want it
positive_as : (line : ℕ) (names : List (List ℕ)) (care want : ℕ) → ((x : ℕ) → has want x ≡ true → has care x ≡ true)
    → wanting_one (control_operands line names care want) ≡ control_operands line names want want
positive_as line [] care want within = refl
positive_as line (name ∷ names) care want within =
    let rest = positive_as (line + 1) names care want within in let here = within line in grind (arith, rest, here)

pub positive_back : (names : List (List ℕ)) (care want : ℕ) → AreBelow care (length names) → ((x : ℕ) → has want x ≡ true → has care x ≡ true) → line_set (wanting_one (control_operands 0 names care want)) ≡ want
positive_back names care want below within = ap line_set (positive_as 0 names care want within) ∙ lines_back names want want (λ line on. below line (within line on))

-- no control is repeated
pub controls_once : (line : ℕ) (names : List (List ℕ)) (care want : ℕ) → has_repeated (control_operands line names care want) ≡ false
controls_once line [] care want = refl
controls_once line (name ∷ names) care want =
    let rest = controls_once (line + 1) names care want in let named = control_named (line + 1) names care want line in grind (arith, rest, named)
