-- The rows of numbers, one number after another.
use Rattle.std.proofs.Common.{◌≡◌, ℕ, zero, suc, ◌+◌, ◌*◌, ◌/◌, ◌<◌, cond, List, [], ◌∷◌, ◌++◌, length, map, take, drop, refl, sym, ap, ◌∙◌, inl, inr, append_assoc, arith, nat_eq}
use Rattle.std.specs.List.{range_with_len}
use Rattle.std.proofs.Math.Seq.{take-append_seam, drop-append-add}
use Rattle.std.proofs.lemmas.Bool.Decides.{eqb_tells}
use Rattle.std.proofs.lemmas.List.{append-nil, length-append}
use Rattle.rv_perm.specs.Text.{row_at, rows_of}

-- a last row, where it has a number
abbrev pub last_row : List ℕ → List (List ℕ)
last_row [] = []
last_row (n ∷ ns) = (n ∷ ns) ∷ []

-- the rows of numbers after a row that was begun
abbrev pub rows_from : List ℕ → List ℕ → List (List ℕ)
rows_from row [] = last_row row
rows_from row (n ∷ ns) = cond (nat_eq (length row) 15) ((row ++ n ∷ []) ∷ rows_from [] ns) (rows_from (row ++ n ∷ []) ns)

map-range_later : (f g : ℕ → List ℕ) (a n : ℕ) → ((k : ℕ) → f (k + 1) ≡ g k) → map f (range_with_len (a + 1) n) ≡ map g (range_with_len a n)
map-range_later f g a zero same = refl
map-range_later f g a (suc n) same = rw (same a) (ap (λ rest. g a ∷ rest) (map-range_later f g (a + 1) n same))

-- a whole row, and the rows after it
rows_of-full : (row ns : List ℕ) → length row ≡ 16 → rows_of (row ++ ns) ≡ row ∷ rows_of ns
rows_of-full row ns full =
    let count : (length (row ++ ns) + 15) / 16 ≡ suc ((length ns + 15) / 16) = omega (arith, length-append row ns, full) in
    let here : row_at (row ++ ns) 0 ≡ row = ap (λ n. take n (row ++ ns)) (sym full) ∙ take-append_seam row ns in
    let place : (k : ℕ) → 16 * (k + 1) ≡ length row + 16 * k = λ k. omega (arith, full) in
    let later : (k : ℕ) → row_at (row ++ ns) (k + 1) ≡ row_at ns k = λ k. ap (λ n. take 16 (drop n (row ++ ns))) (place k) ∙ ap (take 16) (drop-append-add row ns (16 * k)) in
    ap (λ n. map (row_at (row ++ ns)) (range_with_len 0 n)) count
    ∙ ap (λ first. first ∷ map (row_at (row ++ ns)) (range_with_len 1 ((length ns + 15) / 16))) here
    ∙ ap (λ rest. row ∷ rest) (map-range_later (row_at (row ++ ns)) (row_at ns) 0 ((length ns + 15) / 16) later)

rows_of-last : (row : List ℕ) → length row < 16 → rows_of row ≡ last_row row
rows_of-last row h = grind arith

-- what was begun, and the numbers after it, in rows
rows_of-append : (row ns : List ℕ) → length row < 16 → rows_of (row ++ ns) ≡ rows_from row ns
rows_of-append row [] h = ap rows_of (append-nil row) ∙ rows_of-last row h
rows_of-append row (n ∷ ns) h =
    let one : row ++ (n ∷ ns) ≡ (row ++ n ∷ []) ++ ns = sym (append_assoc row (n ∷ []) ns) in
    let pushed : length (row ++ n ∷ []) ≡ length row + 1 = length-append row (n ∷ []) in
    elim (eqb_tells (length row) 15) [
      | inl e ↦ rw e.0 (ap rows_of one ∙ rows_of-full (row ++ n ∷ []) ns (omega arith) ∙ ap (λ rest. (row ++ n ∷ []) ∷ rest) (rows_of-append [] ns (omega arith)))
      | inr other ↦ rw other.0 (ap rows_of one ∙ rows_of-append (row ++ n ∷ []) ns (omega (arith, other.1)))
    ]

pub rows_are_from : (ns : List ℕ) → rows_of ns ≡ rows_from [] ns
rows_are_from ns = rows_of-append [] ns (omega arith)
