-- The rules of a format that is read line by line, and what they make of a text.
use Rattle.std.specs.Prelude.{ℕ, ◌+◌, Bool, List, [], ◌∷◌, length, if◌then◌else◌, Option, Some, None, Result, Ok, Err}
use Rattle.rv_text.specs.Lines.{lines_of}
use Rattle.rv_text.specs.declared.fault.TextFault.{TextFault}
use Rattle.rv_reader.specs.declared.whole.Whole.{Whole}

-- a step, and then the next one where it found no fault
infixl 10 ◌>>=◌
abbrev pub ◌>>=◌ : {A B E : Type 0} → Result A E → (A → Result B E) → Result B E
(Ok x) >>= f = f x
(Err e) >>= f = Err e

-- a rule: its fault where it is broken, else the rules that follow
abbrev pub broken : {A E : Type 0} → Bool → E → Result A E → Result A E
broken test fault next = if test then Err fault else next

-- what must be there, or else a fault
abbrev pub found_or : {A E : Type 0} → E → Option A → Result A E
found_or fault None = Err fault
found_or fault (Some x) = Ok x

pub record Rules (S : Type 0) : Type 0 where
  -- the state in which a text begins
  pub start : S
  -- the state after a line, or the code of the first rule that the line breaks; by the state before it, its number
  -- counted from 1, and its bytes
  pub line_of : S → ℕ → List ℕ → Result S ℕ

-- a fault with the number of its line
abbrev pub on_line : {A : Type 0} → ℕ → Result A ℕ → Result A TextFault
on_line number (Ok x) = Ok x
on_line number (Err code) = Err (record { line = number; code = code })

-- lines in their order, after so many others
abbrev pub lines_read : {S : Type 0} → Rules S → ℕ → S → List (List ℕ) → Result S TextFault
lines_read rules before state [] = Ok state
lines_read rules before state (line ∷ lines) =
    on_line (before + 1) (rules.line_of state (before + 1) line) >>= λ next. lines_read rules (before + 1) next lines

abbrev pub with_count : {S : Type 0} → ℕ → S → Result (Whole S) TextFault
with_count lines state = Ok (record { state = state; lines = lines })

-- what all lines of a text give and how many they are, or the first fault in them
unfoldable pub whole_of : {S : Type 0} → Rules S → List ℕ → Result (Whole S) TextFault
whole_of rules text = lines_read rules 0 rules.start (lines_of text) >>= with_count (length (lines_of text))
