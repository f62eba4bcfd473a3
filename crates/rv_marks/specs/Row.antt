-- Rows of marks: one byte a line. `-`, `0` and `1` say what is put in, `-` and `1` whether the output is garbage.
use Rattle.std.specs.Prelude.{ℕ, Bool, true, false, List, [], ◌∷◌, ◌==◌, if◌then◌else◌, length, map, Option, Some, None, codes}
use Rattle.rv_gate.specs.declared.circuit.Mark.{Mark}
use Rattle.rv_gate.specs.declared.circuit.Mark.TheVariants.{Input, Zero, One}

-- what is put in: a bit of the input, or a constant
abbrev pub constant_of : ℕ → Option Mark
constant_of byte =
    if byte == 45 then Some Input else (if byte == 48 then Some Zero else (if byte == 49 then Some One else None))

abbrev pub constant_byte : Mark → ℕ
constant_byte Input = 45
constant_byte Zero = 48
constant_byte One = 49

-- whether the output is garbage
abbrev pub garbage_of : ℕ → Option Bool
garbage_of byte = if byte == 45 then Some false else (if byte == 49 then Some true else None)

abbrev pub garbage_byte : Bool → ℕ
garbage_byte true = 49
garbage_byte false = 45

-- a mark before others, where both are there
abbrev pub with_mark : {M : Type 0} → Option M → Option (List M) → Option (List M)
with_mark None marks = None
with_mark (Some mark) None = None
with_mark (Some mark) (Some marks) = Some (mark ∷ marks)

-- the marks of a row, or none where a byte is no mark
abbrev pub marks_of : {M : Type 0} → (ℕ → Option M) → List ℕ → Option (List M)
marks_of mark_of [] = Some []
marks_of mark_of (byte ∷ bytes) = with_mark (mark_of byte) (marks_of mark_of bytes)

-- the marks of a row that has one for each of so many lines
abbrev pub row_of_marks : {M : Type 0} → (ℕ → Option M) → ℕ → List ℕ → Option (List M)
row_of_marks mark_of lines bytes = if length bytes == lines then marks_of mark_of bytes else None

-- `.constants` and `.garbage`, each with its row, as lines of words
abbrev pub mark_lines : List Mark → List Bool → List (List (List ℕ))
mark_lines constants garbage =
    (codes ".constants" ∷ map constant_byte constants ∷ []) ∷ (codes ".garbage" ∷ map garbage_byte garbage ∷ []) ∷ []
