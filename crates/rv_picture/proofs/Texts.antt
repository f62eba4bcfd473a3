-- Texts, as pieces that are added one after another.
use Rattle.std.proofs.Common.{◌≡◌, ◌∙◌, ℕ, List, [], ◌∷◌, ◌++◌, map, refl, ap, sym, append_assoc, arith, ◌+◌}
use Rattle.std.specs.List.{flat_map, range_with_len}
use Rattle.std.proofs.lemmas.Grind.{flat_map-append}
use Rattle.std.proofs.lemmas.List.{append-nil}
use Rattle.std.proofs.lemmas.List.FromFn.{map-range_with_len_more}
use Rattle.rv_draw.proofs.Texts.{flat_map-range_more}
use Rattle.rv_picture.specs.Cut.{text_of_lines}

-- the text of pieces is the pieces' texts
pub flat_map-flat_map : {X : Type 0} (g : ℕ → List ℕ) (f : X → List ℕ) (xs : List X) → flat_map (λ x. flat_map g (f x)) xs ≡ flat_map g (flat_map f xs)
flat_map-flat_map g f [] = refl
flat_map-flat_map g f (x ∷ xs) = ap (λ rest. flat_map g (f x) ++ rest) (flat_map-flat_map g f xs) ∙ sym (flat_map-append g (f x) (flat_map f xs))

pub lines-append : (a b : List (List ℕ)) → text_of_lines (a ++ b) ≡ text_of_lines a ++ text_of_lines b
lines-append a b = flat_map-append (λ line. line ++ 10 ∷ []) a b

-- one line more
pub lines_more : (line : ℕ → List ℕ) (n : ℕ)
    → text_of_lines (map line (range_with_len 0 n)) ++ text_of_lines (line n ∷ []) ≡ text_of_lines (map line (range_with_len 0 (n + 1)))
lines_more line n = sym (lines-append (map line (range_with_len 0 n)) (line n ∷ [])) ∙ sym (ap text_of_lines (map-range_with_len_more line 0 n n (omega arith)))

-- one block more
pub blocks_more : (block : ℕ → List (List ℕ)) (n : ℕ)
    → text_of_lines (flat_map block (range_with_len 0 n)) ++ text_of_lines (block n) ≡ text_of_lines (flat_map block (range_with_len 0 (n + 1)))
blocks_more block n = sym (lines-append (flat_map block (range_with_len 0 n)) (block n)) ∙ ap text_of_lines (sym (flat_map-range_more block n))

-- one line
pub line_text : (line : List ℕ) → line ++ 10 ∷ [] ≡ text_of_lines (line ∷ [])
line_text line = sym (append-nil (line ++ 10 ∷ []))

-- the parts of a row in LaTeX
pub row_parts : (a b c : List ℕ) → a ++ (b ++ (38 ∷ [] ++ (c ++ 10 ∷ []))) ≡ text_of_lines ((a ++ (b ++ 38 ∷ c)) ∷ [])
row_parts a b c =
    ap (λ t. a ++ t) (sym (append_assoc b (38 ∷ c) (10 ∷ []))) ∙ sym (append_assoc a (b ++ 38 ∷ c) (10 ∷ [])) ∙ line_text (a ++ (b ++ 38 ∷ c))
