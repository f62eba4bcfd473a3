-- The rows of a drawing that was written stand below one another.
use Rattle.std.proofs.Common.{◌≡◌, ℕ, zero, suc, ◌+◌, ◌*◌, ◌<◌, ◌≤◌, List, [], ◌∷◌, ◌++◌, length, map, Some, refl, sym}
use Rattle.std.proofs.Common.{ap, ◌∙◌, subst, arith, length-append, All}
use Rattle.std.specs.Prelude.{Option, false, replicate, slice_index_or}
use Rattle.std.specs.Fork.{slice_chunk}
use Rattle.std.specs.List.{range_with_len}
use Rattle.std.proofs.lemmas.List.{length-drop, length-replicate, length-take}
use Rattle.std.proofs.lemmas.List.Elements.{All-cons, All-nil}
use Rattle.rv_gate.specs.Circuit.{Cascade, IsCascade}
use Rattle.rv_draw.specs.declared.symbol.Symbol.{Symbol}
use Rattle.rv_draw.specs.declared.symbol.Symbol.TheVariants.{Wire}
use Rattle.rv_draw.specs.Drawing.{block_count, cells_on, label_at, last_symbol, pad_after, text_with, widest, width}
use Rattle.rv_draw.specs.Drawing.{wire_on}
use Rattle.rv_draw.specs.Layout.{IsAligned, IsLaidOut, rows_in}
use Rattle.rv_draw.specs.Reading.{Row, before, each_of, row_of}
use Rattle.rv_draw.proofs.inside.ReadBack.{blocks_read, lexemes_of}
use Rattle.rv_draw.proofs.inside.SheetBack.{inputs_back, row_at, rows_back}

-- ---- how long a wire is

width-le : (labels : List (List ℕ)) (line : ℕ) → line < length labels → width (label_at labels line) ≤ widest labels
width-le [] line lt = absurd (omega arith)
width-le (label ∷ labels) zero lt = omega arith
width-le (label ∷ labels) (suc line) lt = let le = width-le labels line (omega arith) in omega (arith, le)

length-cells_on : {G : Type 0} (draws : G → ℕ → Symbol) (line : ℕ) (gates : List G) → length (cells_on draws line gates) ≡ 3 * length gates
length-cells_on draws line [] = omega arith
length-cells_on draws line (gate ∷ gates) = let rest = length-cells_on draws line gates in omega (arith, rest)

length-wire_on : {G : Type 0} (draws : G → ℕ → Symbol) (c : Cascade) (gates : List G) (line : ℕ)
    → length (wire_on draws c gates line) ≡ 2 + pad_after c.input_labels (label_at c.input_labels line) + 3 * length gates
length-wire_on draws c gates line =
    let pad : ℕ = pad_after c.input_labels (label_at c.input_labels line) in
    let cells : List Symbol = cells_on draws line gates in
    let last : Symbol = last_symbol (slice_index_or c.garbage line false) in
    let all = length-append (replicate pad Wire) (cells ++ last ∷ []) in
    let some = length-append cells (last ∷ []) in
    omega (arith, all, some, length-replicate pad Wire, length-cells_on draws line gates)

-- ---- rows

abbrev reaches : List (List ℕ) → ℕ → Row → Type 0
reaches labels columns row = width row.input_label + 1 + length row.symbols ≡ widest labels + 3 + 3 * columns

rows_reach : {G : Type 0} (draws : G → ℕ → Symbol) (c : Cascade) (gates : List G) (start n : ℕ) → start + n ≤ length c.input_labels
    → All (reaches c.input_labels (length gates)) (map (row_at draws c gates) (range_with_len start n))
rows_reach draws c gates start zero within = All-nil (reaches c.input_labels (length gates))
rows_reach draws c gates start (suc n) within =
    let le = width-le c.input_labels start (omega (arith, within)) in
    All-cons (reaches c.input_labels (length gates)) (row_at draws c gates start) (map (row_at draws c gates) (range_with_len (start + 1) n))
    (omega (arith, le, length-wire_on draws c gates start)) (rows_reach draws c gates (start + 1) n (omega (arith, within)))

aligned : {G : Type 0} (draws : G → ℕ → Symbol) (most : ℕ) (c : Cascade) (gates : List G) → IsCascade c → length gates ≤ most
    → IsAligned most (map (row_at draws c gates) (range_with_len 0 (length c.names)))
aligned draws most c gates is le =
    let rows : List Row = map (row_at draws c gates) (range_with_len 0 (length c.names)) in
    let Reach : List (List ℕ) → Type 0 = λ labels. All (reaches labels (length gates)) rows in
    record {
      columns = length gates;
      few = le;
      reach = subst Reach (sym (inputs_back draws c gates is)) (rows_reach draws c gates 0 (length c.names) (omega (arith, is.input_labels.count)));
    }

-- ---- blocks

abbrev rows_of : {G : Type 0} → (G → ℕ → Symbol) → ℕ → Cascade → List G → ℕ → List Row
rows_of draws per c gates k = map (row_at draws c (slice_chunk gates per k)) (range_with_len 0 (length c.names))

blocks_rows : {G : Type 0} (draws : G → ℕ → Symbol) (per : ℕ) (c : Cascade) (gates : List G) (ks : List ℕ)
    → each_of (λ block. each_of row_of block) (map (lexemes_of draws per c gates) ks) ≡ Some (map (rows_of draws per c gates) ks)
blocks_rows draws per c gates [] = refl
blocks_rows draws per c gates (k ∷ ks) =
    ap (λ (rows : Option (List Row)). before rows (each_of (λ block. each_of row_of block) (map (lexemes_of draws per c gates) ks))) (rows_back draws c (slice_chunk gates per k) 0 (length c.names))
    ∙ ap (before (Some (rows_of draws per c gates k))) (blocks_rows draws per c gates ks)

few_gates : {G : Type 0} (per : ℕ) (gates : List G) (k : ℕ) → length (slice_chunk gates per k) ≤ per
few_gates per gates k = simp (length-take, length-drop) (omega arith)

all_aligned : {G : Type 0} (draws : G → ℕ → Symbol) (per : ℕ) (c : Cascade) (gates : List G) (ks : List ℕ) → IsCascade c
    → All (IsAligned per) (map (rows_of draws per c gates) ks)
all_aligned draws per c gates [] is = All-nil (IsAligned per)
all_aligned draws per c gates (k ∷ ks) is =
    All-cons (IsAligned per) (rows_of draws per c gates k) (map (rows_of draws per c gates) ks)
    (aligned draws per c (slice_chunk gates per k) is (few_gates per gates k)) (all_aligned draws per c gates ks is)

-- ---- the whole

pub laid_out : {G : Type 0} (draws : G → ℕ → Symbol) (per : ℕ) (c : Cascade) (gates : List G) → IsCascade c → IsLaidOut per (text_with draws per c gates)
unfolding rows_in
laid_out draws per c gates is =
    let ks : List ℕ = range_with_len 0 (block_count per (length gates)) in
    record {
      blocks = map (rows_of draws per c gates) ks;
      read = ap (each_of (λ block. each_of row_of block)) (blocks_read draws per c gates is) ∙ blocks_rows draws per c gates ks;
      each = all_aligned draws per c gates ks is;
    }
