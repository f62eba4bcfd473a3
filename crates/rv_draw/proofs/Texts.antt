-- The text of a drawing, as pieces that are added one after another.
use Rattle.std.proofs.Common.{◌≡◌, ◌∙◌, ℕ, ◌+◌, List, [], ◌∷◌, ◌++◌, length, map, map-id, take, get_or, slice_get, Some}
use Rattle.std.proofs.Common.{refl, ap, sym, append_assoc, arith, max}
use Rattle.std.specs.Prelude.{replicate}
use Rattle.std.specs.List.{flat_map, range_with_len}
use Rattle.std.proofs.lemmas.Grind.{flat_map-append}
use Rattle.std.proofs.lemmas.List.{append-nil, take_more, replicate_more}
use Rattle.std.proofs.lemmas.List.FromFn.{map-range_with_len_more}
use Rattle.std.proofs.lemmas.Option.{get_or_from_slice_get, slice_get_within}
use Rattle.rv_text.specs.Spelled.{spelled}
use Rattle.rv_text.proofs.Pieces.{spelled-append}
use Rattle.rv_draw.specs.declared.symbol.Symbol.{Symbol}
use Rattle.rv_draw.specs.declared.symbol.Symbol.TheVariants.{Wire}
use Rattle.rv_draw.specs.Symbols.{glyph}
use Rattle.rv_gate.specs.Circuit.{Cascade}
use Rattle.rv_draw.specs.Drawing.{width, widest, block_rows, block_count, text_with}

pub widest-push : (labels : List (List ℕ)) (label : List ℕ) → widest (labels ++ label ∷ []) ≡ max (widest labels) (width label)
widest-push [] label = omega arith
widest-push (first ∷ labels) label = (let rest = widest-push labels label in omega (arith, rest))

-- one label more
pub widest-more : (labels : List (List ℕ)) (i : ℕ) (label : List ℕ) → slice_get labels i ≡ Some label
    → max (widest (take i labels)) (width label) ≡ widest (take (i + 1) labels)
widest-more labels i label h =
    let here : get_or labels i label ≡ label = get_or_from_slice_get labels i label label h in
    sym (ap widest (take_more labels i label (slice_get_within labels i label h) ∙ ap (λ l. take i labels ++ l ∷ []) here) ∙ widest-push (take i labels) label)

-- one symbol of the wire more
pub pad_more : (n : ℕ) → flat_map glyph (replicate n Wire) ++ glyph Wire ≡ flat_map glyph (replicate (n + 1) Wire)
pad_more n = sym (ap (flat_map glyph) (sym (replicate_more n Wire)) ∙ flat_map-append glyph (replicate n Wire) (Wire ∷ []))

-- the text of pieces is the pieces' texts
pub flat_map-flat_map : {X : Type 0} (f : X → List Symbol) (xs : List X) → flat_map (λ x. flat_map glyph (f x)) xs ≡ flat_map glyph (flat_map f xs)
flat_map-flat_map f [] = refl
flat_map-flat_map f (x ∷ xs) = ap (λ rest. flat_map glyph (f x) ++ rest) (flat_map-flat_map f xs) ∙ sym (flat_map-append glyph (f x) (flat_map f xs))

-- the parts of a wire
pub wire_text : (first last : Symbol) (pad cells : List Symbol)
    → glyph first ++ (flat_map glyph pad ++ (flat_map glyph cells ++ glyph last)) ≡ flat_map glyph (first ∷ (pad ++ (cells ++ last ∷ [])))
wire_text first last pad cells =
    ap (λ t. glyph first ++ (flat_map glyph pad ++ (flat_map glyph cells ++ t))) (sym (append-nil (glyph last)))
    ∙ ap (λ t. glyph first ++ (flat_map glyph pad ++ t)) (sym (flat_map-append glyph cells (last ∷ [])))
    ∙ ap (λ t. glyph first ++ t) (sym (flat_map-append glyph pad (cells ++ last ∷ [])))

-- the parts of a row
pub row_text : (a b c : List ℕ) → a ++ (32 ∷ [] ++ (b ++ (32 ∷ [] ++ (c ++ 10 ∷ [])))) ≡ spelled ((a ∷ b ∷ c ∷ []) ∷ [])
row_text a b c =
    ap (λ t. a ++ (32 ∷ (b ++ (32 ∷ (t ++ 10 ∷ []))))) (sym (append-nil c))
    ∙ ap (λ t. a ++ (32 ∷ t)) (sym (append_assoc b (32 ∷ (c ++ [])) (10 ∷ [])))
    ∙ sym (append_assoc a (32 ∷ (b ++ (32 ∷ (c ++ [])))) (10 ∷ []))

-- one row more
pub rows_more : (words : ℕ → List (List ℕ)) (n : ℕ)
    → spelled (map words (range_with_len 0 n)) ++ spelled (words n ∷ []) ≡ spelled (map words (range_with_len 0 (n + 1)))
rows_more words n =
    sym (spelled-append (map words (range_with_len 0 n)) (words n ∷ [])) ∙ sym (ap spelled (map-range_with_len_more words 0 n n (omega arith)))

pub flat_map-range_more : {X : Type 0} (f : ℕ → List X) (n : ℕ) → flat_map f (range_with_len 0 (n + 1)) ≡ flat_map f (range_with_len 0 n) ++ f n
flat_map-range_more f n =
    ap (flat_map f) (sym (map-id (range_with_len 0 (n + 1))) ∙ map-range_with_len_more (λ k. k) 0 n n (omega arith) ∙ ap (λ ks. ks ++ n ∷ []) (map-id (range_with_len 0 n)))
    ∙ flat_map-append f (range_with_len 0 n) (n ∷ []) ∙ ap (λ xs. flat_map f (range_with_len 0 n) ++ xs) (append-nil (f n))

-- one block more
pub blocks_more : (rows : ℕ → List (List (List ℕ))) (n : ℕ)
    → spelled (flat_map rows (range_with_len 0 n)) ++ spelled (rows n) ≡ spelled (flat_map rows (range_with_len 0 (n + 1)))
blocks_more rows n =
    sym (spelled-append (flat_map rows (range_with_len 0 n)) (rows n)) ∙ ap spelled (sym (flat_map-range_more rows n))

-- the blocks are the drawing
pub drawing_text : {G : Type 0} (draws : G → ℕ → Symbol) (per_block : ℕ) (c : Cascade) (gates : List G)
    → spelled (flat_map (block_rows draws per_block c gates) (range_with_len 0 (block_count per_block (length gates)))) ≡ text_with draws per_block c gates
unfolding text_with
drawing_text draws per_block c gates = refl
