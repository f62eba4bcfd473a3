-- The first fault of a text, by what is wrong with each of its lines.
use Rattle.std.specs.Prelude.{ℕ, zero, suc, ◌+◌, List, [], ◌∷◌, ◌++◌, length, Option, Some, None, Result, Ok, Err}
use Rattle.std.specs.Option.{option_map, option_or}
use Rattle.rv_text.specs.declared.fault.TextFault.{TextFault}

-- the first line that breaks a rule, and the first rule that it breaks, by what `fault_of` finds in a line after
-- others; `before` stand before the lines
abbrev pub first_fault : {L : Type 0} → (List L → L → Option ℕ) → List L → List L → Option TextFault
first_fault fault_of before [] = None
first_fault fault_of before (line ∷ lines) =
    option_or (option_map (λ code. record { line = length before + 1; code = code }) (fault_of before line))
    (first_fault fault_of (before ++ line ∷ []) lines)

-- what a text denotes, unless it has a fault
abbrev pub unless_text : {A E : Type 0} → (TextFault → E) → Option TextFault → Result A E → Result A E
unless_text text None denoted = denoted
unless_text text (Some fault) denoted = Err (text fault)

-- this, unless there is a fault
abbrev pub unless_fault : {A E : Type 0} → A → Option E → Result A E
unless_fault x None = Ok x
unless_fault x (Some fault) = Err fault

-- the fault at the least place below n, by what is wrong at each place
unfoldable pub first_below : {F : Type 0} → (ℕ → Option F) → ℕ → Option F
first_below fault_of zero = None
first_below fault_of (suc n) = option_or (first_below fault_of n) (fault_of n)
