-- The body: what its lines give, and the rules of a gate, in the order in which they are looked at.
use Rattle.std.specs.Prelude.{ℕ, ◌-◌, ◌^◌, Bool, false, not, List, [], ◌∷◌, ◌++◌, length, take, drop, ◌==◌, ◌||◌, ◌&&◌, if◌then◌else◌, nat_lt, slice_index, slice_index_or, bit_or, Option, Some, None, Result, Ok, Err, codes}
use Rattle.std.specs.List.{filter, flat_map, list_any}
use Rattle.std.specs.Option.{option_to_list}
use Rattle.std.specs.Result.{result_ok}
use Rattle.std.specs.Str.{bytes_eq, all_ascii_digits}
use Rattle.rv_text.specs.Decimal.{is_short_decimal, decimal_value}
use Rattle.rv_text.specs.Tokens.{Lexeme}
use Rattle.rv_gate.specs.declared.circuit.TheConstants.{MOST_GATES}
use Rattle.rv_gate.specs.declared.gate.Shape.{Shape}
use Rattle.rv_gate.specs.declared.gate.Shape.TheVariants.{Flip, Swap, Peres}
use Rattle.rv_real.specs.declared.code.TheConstants as code
use Rattle.rv_reader.specs.Rules.{◌>>=◌, broken}
use Rattle.rv_real.specs.Rules.{in_order, is_bare}
use Rattle.rv_text.specs.Bytes.{begins_with_dot}
use Rattle.rv_real.specs.Header.{line_of_name}

-- ---- the name of a gate

-- `v` or `v+`, alone or followed by digits
abbrev pub is_root_name : List ℕ → Bool
is_root_name name =
    slice_index name 0 == 118 && all_ascii_digits (if slice_index name 1 == 43 then drop 2 name else drop 1 name)

-- `p` is read as `p3`
abbrev pub full_name : List ℕ → List ℕ
full_name name = if bytes_eq name (codes "p") then codes "p3" else name

-- `t`, `f` or `p`
abbrev pub letter_of : List ℕ → ℕ
letter_of name = slice_index (full_name name) 0

-- what follows the letter
abbrev pub digits_of : List ℕ → List ℕ
digits_of name = drop 1 (full_name name)

-- how many operands the gate has
abbrev pub operand_count : List ℕ → ℕ
operand_count name = decimal_value (digits_of name)

-- a flip has one operand at least, a swap two, and a Peres gate three
abbrev pub takes_operands : ℕ → ℕ → Bool
takes_operands letter count =
    letter == 116 && nat_lt 0 count || letter == 102 && nat_lt 1 count || letter == 112 && count == 3

-- a letter, one to three digits, and such a number of operands
abbrev pub is_known : List ℕ → Bool
is_known name =
    is_short_decimal 3 (digits_of name) && takes_operands (letter_of name) (operand_count name)

-- ---- the operands

-- the line of an operand, and whether `-` stands before its name
pub record Operand : Type 0 where
  pub line : ℕ
  pub is_negative : Bool

abbrev pub has_sign : List ℕ → Bool
has_sign bytes = slice_index bytes 0 == 45

-- an operand without its `-`
abbrev pub without_sign : List ℕ → List ℕ
without_sign bytes = if has_sign bytes then drop 1 bytes else bytes

-- an operand on a line that is known, or not; only a control may have a sign
abbrev pub operand_on : Option ℕ → Bool → Bool → Result Operand ℕ
operand_on None sign is_control = Err code.UNKNOWN_LABEL
operand_on (Some line) sign is_control =
    broken (sign && not is_control) code.SIGN_ON_TARGET
    (Ok (record { line = line; is_negative = sign }))

abbrev pub operand_of : List (List ℕ) → Bool → Lexeme → Result Operand ℕ
operand_of names is_control w =
    broken w.quoted code.UNKNOWN_LABEL
    (operand_on (line_of_name names (without_sign w.bytes)) (has_sign w.bytes) is_control)

-- the operands so far, with an operand; the first ones, of this number, are controls
abbrev pub with_operand : List (List ℕ) → ℕ → List Operand → Lexeme → Result (List Operand) ℕ
with_operand names controls operands w =
    operand_of names (nat_lt (length operands) controls) w >>= λ operand. Ok (operands ++ operand ∷ [])

-- an operand's line is that of one before it
abbrev pub names_line : List Operand → ℕ → Bool
names_line operands line = list_any (λ operand. operand.line == line) operands

-- a line is named twice
abbrev pub has_repeated : List Operand → Bool
has_repeated [] = false
has_repeated (operand ∷ operands) = names_line operands operand.line || has_repeated operands

-- ---- the gate

-- how many of so many operands are controls: all but the targets of a flip or a swap, and none of a Peres gate
abbrev pub control_count : ℕ → ℕ → ℕ
control_count letter count = if letter == 116 then count - 1 else (if letter == 102 then count - 2 else 0)

-- the set of the operands' lines
abbrev pub line_set : List Operand → ℕ
line_set [] = 0
line_set (operand ∷ operands) = bit_or (line_set operands) (2 ^ operand.line)

-- the operands without `-`
abbrev pub wanting_one : List Operand → List Operand
wanting_one operands = filter (λ operand. not operand.is_negative) operands

-- the line of the operand at a place
abbrev pub line_at : List Operand → ℕ → ℕ
line_at operands place = (slice_index_or operands place (record { line = 0; is_negative = false })).line

-- the gate on these operands: its controls, and then its targets
abbrev pub shape_of : ℕ → List Operand → Shape
shape_of letter operands =
    let count = length operands in
    let controls = take (control_count letter count) operands in
    if letter == 116 then Flip (line_set controls) (line_set (wanting_one controls)) (line_at operands (count - 1))
    else (if letter == 102 then Swap (line_set controls) (line_set (wanting_one controls))
    (line_at operands (count - 2)) (line_at operands (count - 1))
    else Peres (line_at operands 0) (line_at operands 1) (line_at operands 2))

-- ---- a gate's line

-- the gate of a letter that is known, with so many operands
abbrev pub gate_of_line : List (List ℕ) → ℕ → ℕ → List Lexeme → Result Shape ℕ
gate_of_line names letter count ws =
    broken (not (length ws == count)) code.WRONG_OPERAND_COUNT
    (in_order (with_operand names (control_count letter count)) [] ws >>= λ operands.
    broken (has_repeated operands) code.REPEATED_OPERAND
    (Ok (shape_of letter operands)))

unfoldable pub named_gate : List (List ℕ) → List ℕ → List Lexeme → Result Shape ℕ
named_gate names name ws =
    broken (is_root_name name) code.NOT_SUPPORTED
    (broken (not (is_known name)) code.UNKNOWN_GATE
    (gate_of_line names (letter_of name) (operand_count name) ws))

-- the gate of a line, by its first token and its operands, on lines with these names;
-- a first token in quotes is no gate's name
abbrev pub gate_of : List (List ℕ) → Lexeme → List Lexeme → Result Shape ℕ
gate_of names w ws =
    broken w.quoted code.UNKNOWN_GATE
    (broken (begins_with_dot w.bytes) code.DIRECTIVE_OUT_OF_PLACE
    (named_gate names w.bytes ws))

-- ---- what the lines of a body give

-- a line without a gate gives none
abbrev pub gates_by : List (List ℕ) → List Lexeme → List Shape
gates_by names [] = []
gates_by names (w ∷ ws) = option_to_list (result_ok (gate_of names w ws))

abbrev pub gates_of_body : List (List ℕ) → List (List Lexeme) → List Shape
gates_of_body names body = flat_map (gates_by names) body

-- ---- the rules of a line of the body, after the lines before it

-- a gate more, after so many
abbrev pub room_fault : ℕ → Result Shape ℕ → Option ℕ
room_fault count (Err fault) = Some fault
room_fault count (Ok gate) = if nat_lt count MOST_GATES then None else Some code.TOO_MANY_GATES

abbrev pub body_fault : List (List ℕ) → List (List Lexeme) → Lexeme → List Lexeme → Option ℕ
body_fault names before w ws =
    if is_bare w (codes ".end") then None else room_fault (length (gates_of_body names before)) (gate_of names w ws)
