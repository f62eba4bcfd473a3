-- Statements with `;` between them.
use Rattle.std.proofs.Common.{◌≡◌, ℕ, ◌+◌, ◌-◌, ◌≤◌, ◌<◌, Bool, true, false, cond, List, [], ◌∷◌, None, Some, length, take, drop, refl, sym, ap, ◌∙◌, arith, length-drop}
use Rattle.std.proofs.lemmas.Bool.{ne_eqb}
use Rattle.std.proofs.lemmas.List.{drop-drop, drop-map, take-map}
use Rattle.std.proofs.lemmas.List.Splits.{length-slice_split, slice_split_first}
use Rattle.std.specs.List.{position_or_len, slice_split}
use Rattle.std.specs.Global.{Vec}
use Rattle.rv_import.specs.Reading.{and_then, at_end, is_end, parts_read, read_if, SoFar, statement_read}
use Rattle.rv_import.specs.Statement.{bytes_of}

pub bytes_part : (tokens : List (Vec ℕ)) (start count : ℕ) → bytes_of (take count (drop start tokens)) ≡ take count (drop start (bytes_of tokens))
bytes_part tokens start count =
    sym (take-map (λ (token : Vec ℕ). token.items) count (drop start tokens))
    ∙ ap (take count) (sym (drop-map (λ (token : Vec ℕ). token.items) start tokens))

split_last : (p : List ℕ → Bool) (tokens : List (List ℕ)) → position_or_len p tokens ≡ length tokens → slice_split p tokens ≡ tokens ∷ []
split_last p [] e = refl
split_last p (token ∷ tokens) e = by (p token) refl (split_last p tokens)
  where
    by : (b : Bool) → p token ≡ b → (position_or_len p tokens ≡ length tokens → slice_split p tokens ≡ tokens ∷ []) → slice_split p (token ∷ tokens) ≡ (token ∷ tokens) ∷ []
    by true t rest = let f = rw t at e in absurd (omega (arith, f))
    by false t rest = let f = rw t at e in rw (t, rest (omega (arith, f))) refl

last : (n : ℕ) (s : SoFar) (xs : List (List ℕ)) → position_or_len is_end xs ≡ length xs → parts_read n s (slice_split is_end xs) ≡ at_end n s xs
unfolding parts_read
last n s xs e = rw (split_last is_end xs e) refl

-- a part that is not the last
read-more : (n : ℕ) (s : SoFar) (part : List (List ℕ)) (parts : List (List (List ℕ))) → 0 < length parts
    → parts_read n s (part ∷ parts) ≡ and_then n (statement_read s part) (λ next. parts_read (n + 1) next parts)
unfolding parts_read
read-more n s part parts h =
    ap (λ b. cond b (at_end n s part) (and_then n (statement_read s part) (λ next. parts_read (n + 1) next parts))) (ne_eqb (length parts) 0 (λ e. omega (arith, e)))

more : (n : ℕ) (s : SoFar) (xs : List (List ℕ)) → position_or_len is_end xs < length xs
    → parts_read n s (slice_split is_end xs)
    ≡ and_then n (statement_read s (take (position_or_len is_end xs) xs)) (λ next. parts_read (n + 1) next (slice_split is_end (drop (position_or_len is_end xs + 1) xs)))
more n s xs h =
    ap (parts_read n s) (slice_split_first is_end xs [] h)
    ∙ read-more n s _ (slice_split is_end (drop (position_or_len is_end xs + 1) xs)) (omega (arith, length-slice_split is_end (drop (position_or_len is_end xs + 1) xs)))

pub part_last : (n : ℕ) (s : SoFar) (xs : List (List ℕ)) (start : ℕ) → start ≤ length xs → length xs ≤ start + position_or_len is_end (drop start xs)
    → start + position_or_len is_end (drop start xs) ≤ length xs → parts_read n s (slice_split is_end (drop start xs)) ≡ at_end n s (drop start xs)
part_last n s xs start within least most = last n s (drop start xs) (omega (arith, length-drop start xs))

pub part_more : (n : ℕ) (s : SoFar) (xs : List (List ℕ)) (start end : ℕ) → end ≡ start + position_or_len is_end (drop start xs) → start ≤ length xs → end < length xs
    → parts_read n s (slice_split is_end (drop start xs))
    ≡ and_then n (statement_read s (take (end - start) (drop start xs))) (λ next. parts_read (n + 1) next (slice_split is_end (drop (end + 1) xs)))
part_more n s xs start end e within h =
    let k : end - start ≡ position_or_len is_end (drop start xs) = omega arith in
    let j : start + (position_or_len is_end (drop start xs) + 1) ≡ end + 1 = omega arith in
    more n s (drop start xs) (omega (arith, length-drop start xs))
    ∙ ap (λ m. and_then n (statement_read s (take m (drop start xs))) (λ next. parts_read (n + 1) next (slice_split is_end (drop (position_or_len is_end (drop start xs) + 1) (drop start xs))))) (sym k)
    ∙ ap (λ ys. and_then n (statement_read s (take (end - start) (drop start xs))) (λ next. parts_read (n + 1) next (slice_split is_end ys)))
    (drop-drop (position_or_len is_end (drop start xs) + 1) start xs ∙ ap (λ m. drop m xs) j)

pub read_no : (is_right : Bool) (s : SoFar) → is_right ≡ false → read_if is_right s ≡ None
read_no is_right s e = rw e refl

pub read_yes : (is_right : Bool) (s : SoFar) → is_right ≡ true → read_if is_right s ≡ Some s
read_yes is_right s e = rw e refl
