-- Rows of marks: one byte more, and rows that were written.
use Rattle.std.proofs.Common.{Bool, true, false, arith, ◌≡◌, ℕ, suc, ◌+◌, ◌<◌, List, [], ◌∷◌, ◌++◌, map, length, take, drop, codes, get_or, Option, Some, None, Result, Ok, Err, refl, sym, ap, ◌∙◌, append_assoc, add-one, drop-cons, eq-eqb}
use Rattle.std.specs.Prelude.{IfOk, IfSome}
use Rattle.std.specs.List.{list_all}
use Rattle.std.specs.Option.{option_map}
use Rattle.std.proofs.lemmas.List.{append-nil, length-map, map-append, take_more}
use Rattle.rv_text.specs.Spelled.{spelled}
use Rattle.rv_text.specs.inside.Writable.{is_word_byte, IsPlainWord}
use Rattle.rv_gate.specs.declared.circuit.Mark.{Mark}
use Rattle.rv_gate.specs.declared.circuit.Mark.TheVariants.{Input, Zero, One}
use Rattle.rv_marks.specs.Row.{constant_byte, garbage_byte, mark_lines, with_mark, marks_of, row_of_marks}

module _ {M : Type 0} (mark_of : ℕ → Option M) where
  -- what marks so far, and the bytes from a place on, make of a row
  abbrev pub MakeOf : List ℕ → List M → ℕ → Type 0
  MakeOf row marks i = marks_of mark_of row ≡ option_map (λ rest. marks ++ rest) (marks_of mark_of (drop i row))

  with_mark-more : (marks : List M) (mark : M) (rest : Option (List M))
      → option_map (λ rest. marks ++ rest) (with_mark (Some mark) rest) ≡ option_map (λ rest. (marks ++ mark ∷ []) ++ rest) rest
  with_mark-more marks mark None = refl
  with_mark-more marks mark (Some rest) = ap (λ all. Some all) (sym (append_assoc marks (mark ∷ []) rest))

  pub one_more : (row : List ℕ) (marks : List M) (i : ℕ) (mark : M) → i < length row → mark_of (get_or row i 0) ≡ Some mark → MakeOf row marks i → MakeOf row (marks ++ mark ∷ []) (i + 1)
  one_more row marks i mark lt is so_far =
      so_far ∙ rw (add-one, drop-cons row i 0, is) (with_mark-more marks mark (marks_of mark_of (drop (suc i) row)))

  pub no_mark : (row : List ℕ) (marks : List M) (i : ℕ) → i < length row → mark_of (get_or row i 0) ≡ None → MakeOf row marks i → marks_of mark_of row ≡ None
  no_mark row marks i lt is so_far = so_far ∙ rw (drop-cons row i 0, is) refl

  -- a row has one mark a byte
  pub marks_of-length : (bytes : List ℕ) (marks : List M) → marks_of mark_of bytes ≡ Some marks → length marks ≡ length bytes
  marks_of-length [] marks is = ap length (sym (let same : [] ≡ marks = cc in same))
  marks_of-length (byte ∷ bytes) marks is = split (mark_of byte) (marks_of mark_of bytes) (λ rest there. marks_of-length bytes rest there) is
    where
      split : (mark : Option M) (rest : Option (List M)) → ((ms : List M) → rest ≡ Some ms → length ms ≡ length bytes) → with_mark mark rest ≡ Some marks → length marks ≡ length (byte ∷ bytes)
      split None rest count is = absurd cc
      split (Some mark) None count is = absurd cc
      split (Some mark) (Some ms) count is = (let same : mark ∷ ms ≡ marks = cc in ap length (sym same) ∙ ap suc (count ms refl))

  pub row-length : {V E : Type 0} (items : V → List M) (read : Result (Option V) E) (bytes : List ℕ) (lines : ℕ) → IfOk read (λ marks. option_map items marks ≡ marks_of mark_of bytes) → length bytes ≡ lines
      → IfOk read (λ marks. IfSome marks (λ row. length (items row) ≡ lines))
  row-length items (Ok (Some row)) bytes lines is count = marks_of-length bytes (items row) (sym is) ∙ count
  row-length items (Ok None) bytes lines is count = tt
  row-length items (Err e) bytes lines is count = tt

  -- a row that was written reads back
  module _ (byte_of : M → ℕ) (reads_back : (mark : M) → mark_of (byte_of mark) ≡ Some mark) where
    pub marks_of-map : (marks : List M) → marks_of mark_of (map byte_of marks) ≡ Some marks
    marks_of-map [] = refl
    marks_of-map (mark ∷ marks) = rw (reads_back mark, marks_of-map marks) refl

    pub row_of-map : (marks : List M) → row_of_marks mark_of (length marks) (map byte_of marks) ≡ Some marks
    row_of-map marks = rw (eq-eqb (length (map byte_of marks)) (length marks) (length-map marks byte_of)) (marks_of-map marks)

pub map-more : {M : Type 0} (f : M → ℕ) (xs : List M) (i : ℕ) (x : M) → i < length xs → x ≡ get_or xs i x → map f (take i xs) ++ f x ∷ [] ≡ map f (take (i + 1) xs)
map-more f xs i x lt is = ap (λ y. map f (take i xs) ++ f y ∷ []) is ∙ sym (ap (map f) (take_more xs i x lt) ∙ map-append f (take i xs) (get_or xs i x ∷ []))

-- ---- a row that was written is a word

row_word : {M : Type 0} (byte_of : M → ℕ) → ((mark : M) → is_word_byte [] (byte_of mark) ≡ true) → (marks : List M) → list_all (is_word_byte []) (map byte_of marks) ≡ true
row_word byte_of are [] = refl
row_word byte_of are (mark ∷ marks) = rw (are mark) (row_word byte_of are marks)

pub constant_row_word : (marks : List Mark) → 0 < length marks → IsPlainWord [] (map constant_byte marks)
constant_row_word marks some = (omega (arith, some, length-map marks constant_byte), row_word constant_byte (elim [ Input ↦ refl | Zero ↦ refl | One ↦ refl ]) marks)

pub garbage_row_word : (marks : List Bool) → 0 < length marks → IsPlainWord [] (map garbage_byte marks)
garbage_row_word marks some = (omega (arith, some, length-map marks garbage_byte), row_word garbage_byte (elim [ true ↦ refl | false ↦ refl ]) marks)

-- the rows of a text, as they are sent
pub rows-spelled : (constants garbage : List ℕ) → codes ".constants " ++ (constants ++ (codes "\n.garbage " ++ (garbage ++ codes "\n")))
    ≡ spelled ((codes ".constants" ∷ constants ∷ []) ∷ (codes ".garbage" ∷ garbage ∷ []) ∷ [])
rows-spelled constants garbage = simp append-nil

pub both_rows : {constants wanted : List Mark} {garbage left_out : List Bool} → constants ≡ wanted → garbage ≡ left_out
    → spelled (mark_lines constants garbage) ≡ spelled (mark_lines wanted left_out)
both_rows {wanted = wanted} {garbage = garbage} puts leaves = ap (λ marks. spelled (mark_lines marks garbage)) puts ∙ ap (λ marks. spelled (mark_lines wanted marks)) leaves
