-- A text cut into parts.
use Rattle.std.specs.Prelude.{ℕ, List, [], ◌∷◌, ◌++◌, ◌==◌, Option, Some, None, if◌then◌else◌}
use Rattle.std.specs.List.{flat_map}
use Rattle.std.specs.Str.{bytes_eq}

-- a byte before the first part
abbrev pub onto : ℕ → List (List ℕ) → List (List ℕ)
onto byte [] = (byte ∷ []) ∷ []
onto byte (part ∷ parts) = (byte ∷ part) ∷ parts

-- the parts between the places of a byte
abbrev pub cut : ℕ → List ℕ → List (List ℕ)
cut at [] = [] ∷ []
cut at (byte ∷ text) = if byte == at then [] ∷ cut at text else onto byte (cut at text)

-- lines, each with its line feed
abbrev pub text_of_lines : List (List ℕ) → List ℕ
text_of_lines lines = flat_map (λ line. line ++ 10 ∷ []) lines

-- the lines of a text, and what stands after the last of them
abbrev pub lines_in : List ℕ → List (List ℕ)
lines_in text = cut 10 text

-- what stands in a text after this beginning
abbrev pub after : List ℕ → List ℕ → Option (List ℕ)
after [] text = Some text
after (p ∷ beginning) [] = None
after (p ∷ beginning) (byte ∷ text) = if byte == p then after beginning text else None

-- the first value whose text this is
abbrev pub value_with : {X : Type 0} → (X → List ℕ) → List X → List ℕ → Option X
value_with write [] text = None
value_with write (x ∷ xs) text = if bytes_eq (write x) text then Some x else value_with write xs text
