-- A statement of a gate on qubits of registers: its name, angles in parentheses if it has some, and its qubits.
use Rattle.std.specs.Prelude.{ℕ, ◌+◌, ◌==◌, ◌&&◌, ◌||◌, List, [], ◌∷◌, drop, length, map, slice_index_or, codes, bytes_eq, if◌then◌else◌, Option, Some, None, option_map}
use Rattle.std.specs.Global.{Vec}
use Rattle.rv_text.specs.Decimal.{decimal_value, is_decimal}
use Rattle.rv_import.specs.Angles.{AnglesSoFar, angles_step, next_angle, right_angles, no_angles}
use Rattle.rv_import.specs.declared.call.Call.{Call}
use Rattle.rv_import.specs.Registers.{qubit_of, Register, register_of}
use Rattle.rv_import.specs.Named.{call_of}
use Rattle.rv_import.specs.declared.call.Qubits.{Qubits}
use Rattle.rv_import.specs.declared.call.Qubits.TheVariants.{One, Two, Three}

abbrev pub bytes_of : List (Vec ℕ) → List (List ℕ)
bytes_of tokens = map (λ (token : Vec ℕ). token.items) tokens

-- ---- qubits

-- the qubit NAME [ N ]
abbrev pub place_of : List Register → List ℕ → List ℕ → List ℕ → List ℕ → Option ℕ
place_of registers name before place after =
    if bytes_eq before (codes "[") && bytes_eq after (codes "]") && is_decimal place
    then qubit_of (register_of name registers) (decimal_value place) else None

-- they differ
abbrev pub two_of : Option ℕ → Option ℕ → Option Qubits
two_of (Some a) (Some b) = if a == b then None else Some (Two a b)
two_of (Some a) None = None
two_of None b = None

abbrev pub three_of : Option ℕ → Option ℕ → Option ℕ → Option Qubits
three_of (Some a) (Some b) (Some c) = if a == b || a == c || b == c then None else Some (Three a b c)
three_of (Some a) (Some b) None = None
three_of (Some a) None c = None
three_of None b c = None

abbrev pub at_comma : List ℕ → Option Qubits → Option Qubits
at_comma token qubits = if bytes_eq token (codes ",") then qubits else None

-- ---- one to three, with commas between them

abbrev pub token_at : List (List ℕ) → ℕ → List ℕ
token_at tokens i = slice_index_or tokens i []

-- the place that four tokens from one on are
abbrev pub place_at : List Register → List (List ℕ) → ℕ → Option ℕ
place_at registers tokens i =
    place_of registers (token_at tokens i) (token_at tokens (i + 1)) (token_at tokens (i + 2)) (token_at tokens (i + 3))

abbrev pub qubits_of : List Register → List (List ℕ) → Option Qubits
qubits_of registers tokens =
    if length tokens == 4 then option_map One (place_at registers tokens 0)
    else (if length tokens == 9
    then at_comma (token_at tokens 4) (two_of (place_at registers tokens 0) (place_at registers tokens 5))
    else (if length tokens == 14
    then at_comma (token_at tokens 4) (at_comma (token_at tokens 9)
    (three_of (place_at registers tokens 0) (place_at registers tokens 5) (place_at registers tokens 10)))
    else None))

-- ---- angles

-- angles, and the tokens after their closing parenthesis
pub record AnglesAnd : Type 0 where
  pub angles : List ℕ
  pub rest : List (List ℕ)

abbrev pub angles_and : List (List ℕ) → Option (List ℕ) → Option AnglesAnd
angles_and rest angles = option_map (λ (all : List ℕ). record { angles = all; rest = rest }) angles

-- after some tokens of the angles
unfoldable pub angles_from : AnglesSoFar → List (List ℕ) → Option AnglesAnd
angles_from a [] = None
angles_from a (token ∷ tokens) =
    if bytes_eq token (codes ")") then angles_and tokens (right_angles (next_angle a))
    else angles_from (angles_step a token) tokens

-- ---- a gate

abbrev pub with_qubits : List ℕ → List ℕ → Option Qubits → Option Call
with_qubits name angles None = None
with_qubits name angles (Some qubits) = call_of name angles qubits

-- of a name and angles, on the qubits that tokens name
abbrev pub call_on : List Register → List ℕ → List ℕ → List (List ℕ) → Option Call
call_on registers name angles tokens = with_qubits name angles (qubits_of registers tokens)

abbrev pub call_with : List Register → List ℕ → Option AnglesAnd → Option Call
call_with registers name None = None
call_with registers name (Some read) = call_on registers name read.angles read.rest

-- after its name
abbrev pub named_call : List Register → List ℕ → List (List ℕ) → Option Call
named_call registers name tokens =
    if length tokens == 0 then None
    else (if bytes_eq (token_at tokens 0) (codes "(")
    then call_with registers name (angles_from no_angles (drop 1 tokens))
    else call_on registers name [] tokens)

-- a statement without its `;`
abbrev pub gate_call : List Register → List (List ℕ) → Option Call
gate_call registers tokens =
    if length tokens == 0 then None else named_call registers (token_at tokens 0) (drop 1 tokens)
