-- Numbers that are sent one after another, sixteen to a line.
use Rattle.std.proofs.lemmas.Grind.{common_steps}
use Rattle.std.proofs.Common.{◌≡◌, ℕ, ◌+◌, ◌<◌, ◌≤◌, ◌*◌, ◌^◌, ◌%◌, List, [], ◌∷◌, ◌++◌, length, map, drop, get_or, refl, sym, ap, ◌∙◌, append_assoc, arith, nat_eq, inl, inr, decimal, cond, drop-cons, add-one}
use Rattle.std.proofs.Math.Dec.{eqb-suc-zero}
use Rattle.std.proofs.lemmas.Bool.Decides.{eqb_tells}
use Rattle.std.proofs.lemmas.List.{append-nil, length-append, map-append, drop_all}
use Rattle.std.proofs.Math.Nat.{pow-le-pow_right}
use Rattle.rv_io.specs.Sink.{SinkView}
use Rattle.rv_io.specs.Writer.{Writer, Adds}
use Rattle.rv_io.proofs.Adding.{adds_then, adds_as}
use Rattle.rv_text.specs.Spelled.{more_words, words_line, spelled}
use Rattle.rv_text.proofs.Pieces.{more_words-append}
use Rattle.rv_perm.specs.Perm.{IsPerm}
use Rattle.rv_perm.specs.Text.{number_lines}
use Rattle.rv_perm.specs.inside.Cells.{cell, next_column, row_end, cells}
use Rattle.rv_perm.proofs.Rows.{rows_from, rows_are_from}

-- the numbers before the place x were sent, and the column is that of the number there
pub record IsSending (first : Writer) (before : SinkView) (numbers : List ℕ) (x column : ℕ) (draft : Writer) (now : SinkView) : Type 0 where
  pub bound : column < 16
  pub done : List ℕ
  pub rest : done ++ cells column (drop x numbers) ≡ cells 0 numbers
  pub adds : Adds first before done draft now

pub sending_more : {first draft new : Writer} {before now then : SinkView} (numbers : List ℕ) (x column next n : ℕ) → n ≡ get_or numbers x 0 → x < length numbers → next ≡ next_column column → next < 16
    → IsSending first before numbers x column draft now → Adds draft now (cell column n) new then → IsSending first before numbers (x + 1) next new then
sending_more numbers x column next n is within turns bound so_far adds =
    let cut : drop x numbers ≡ get_or numbers x 0 ∷ drop (x + 1) numbers = rw add-one (drop-cons numbers x 0 within) in
    record {
      bound = bound;
      done = so_far.done ++ cell column n;
      rest = append_assoc so_far.done (cell column n) (cells next (drop (x + 1) numbers))
          ∙ ap (λ k. so_far.done ++ (cell column n ++ cells k (drop (x + 1) numbers))) turns
          ∙ ap (λ m. so_far.done ++ (cell column m ++ cells (next_column column) (drop (x + 1) numbers))) is
          ∙ ap (λ (ns : List ℕ). so_far.done ++ cells column ns) (sym cut) ∙ so_far.rest;
      adds = adds_then so_far.adds adds;
    }

-- how many numbers there are, as the code counts them
pub word_count : (lines k : ℕ) (images : List ℕ) → k ≡ lines → IsPerm lines images → (1 * 2 ^ k) % 4294967296 ≡ length images
word_count lines k images same is = grind (arith, pow-le-pow_right)

-- ---- the rows as they are sent

more_words-push : (ws : List (List ℕ)) (w : List ℕ) → more_words (ws ++ w ∷ []) ≡ more_words ws ++ (32 ∷ w)
more_words-push ws w = more_words-append ws (w ∷ []) ∙ ap (λ (xs : List ℕ). more_words ws ++ (32 ∷ xs)) (append-nil w)

words_line-push : (row : List ℕ) (n : ℕ) → words_line (map decimal (row ++ n ∷ [])) ≡ words_line (map decimal row) ++ (cond (nat_eq (length row) 0) [] (32 ∷ []) ++ decimal n)
words_line-push row n =
    grind (arith, common_steps, append-nil, map-append, eqb-suc-zero, more_words-push, append_assoc, more_words)

rows_spelled : (row numbers : List ℕ) → length row < 16 → spelled (map (λ r. map decimal r) (rows_from row numbers)) ≡ words_line (map decimal row) ++ cells (length row) numbers
rows_spelled [] [] h = refl
rows_spelled (m ∷ row) [] h = rw (eqb-suc-zero (length row)) refl
rows_spelled row (n ∷ ns) h =
    let gap : List ℕ = cond (nat_eq (length row) 0) [] (32 ∷ []) in
    let joined : (tail : List ℕ) → words_line (map decimal (row ++ n ∷ [])) ++ tail ≡ words_line (map decimal row) ++ (gap ++ (decimal n ++ tail)) = λ tail. rw (words_line-push row n) (simp append_assoc) in
    elim (eqb_tells (length row) 15) [
      | inl e ↦ rw e.0 (rw (rows_spelled [] ns (omega arith)) (joined (10 ∷ cells 0 ns) ∙ simp append_assoc))
      | inr other ↦ rw other.0 (
          let pushed : length (row ++ n ∷ []) ≡ length row + 1 = omega (arith, length-append row (n ∷ [])) in
          rows_spelled (row ++ n ∷ []) ns (omega (arith, pushed, other.1)) ∙ rw pushed (joined (cells (length row + 1) ns) ∙ simp append_assoc))
    ]

-- all numbers were sent, and then the end of the row
pub sending_all : {first draft new : Writer} {before now then : SinkView} (numbers : List ℕ) (x column : ℕ) → length numbers ≤ x → IsSending first before numbers x column draft now
    → Adds draft now (row_end column) new then → Adds first before (spelled (number_lines numbers)) new then
sending_all numbers x column all so_far adds =
    adds_as (ap (λ (ns : List ℕ). so_far.done ++ cells column ns) (sym (drop_all x numbers all)) ∙ so_far.rest ∙ sym (rows_spelled [] numbers (omega arith)) ∙ ap (λ (rows : List (List ℕ)). spelled (map (λ r. map decimal r) rows)) (sym (rows_are_from numbers))) (adds_then so_far.adds adds)
