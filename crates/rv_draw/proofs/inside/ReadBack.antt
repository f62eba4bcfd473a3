-- A drawing that was written shows its circuit.
use Rattle.std.proofs.Common.{◌≡◌, ℕ, zero, suc, ◌+◌, ◌-◌, ◌*◌, ◌/◌, ◌<◌, ◌≤◌, Bool, true, false, cond, nat_eq, List}
use Rattle.std.proofs.Common.{[], ◌∷◌, ◌++◌, length, map, take, drop, Some, None, refl, sym, ap, ◌∙◌, arith, ne_eqb}
use Rattle.std.proofs.Common.{All}
use Rattle.std.specs.Prelude.{Option}
use Rattle.std.specs.Fork.{slice_chunk}
use Rattle.std.specs.List.{flat_map, range_with_len}
use Rattle.std.specs.Option.{option_map}
use Rattle.std.proofs.lemmas.List.{append-nil, map-append, take_all}
use Rattle.std.proofs.lemmas.List.Elements.{All-take, All-drop, All-head, All-tail}
use Rattle.std.proofs.Math.Nat.{lt-div-mul-add}
use Rattle.std.proofs.Math.Seq.{take-add}
use Rattle.rv_text.specs.Lines.{lines_of}
use Rattle.rv_text.specs.Tokens.{Lexeme, tokens_of}
use Rattle.rv_text.specs.Spelled.{spelled, words_line}
use Rattle.rv_text.specs.inside.Writable.{AreLines}
use Rattle.rv_text.proofs.inside.Spelled.{lines_of-spelled}
use Rattle.rv_gate.specs.Circuit.{Cascade, IsCascade}
use Rattle.rv_draw.specs.declared.symbol.Symbol.{Symbol}
use Rattle.rv_draw.specs.Drawing.{block_count, block_rows, first_symbol, gap, last_symbol, sheet_rows, text_with}
use Rattle.rv_draw.specs.Reading.{Picture, before, each_of, picture_on, with_row, blocks_of, joined, joined_if}
use Rattle.rv_draw.specs.Reading.{same_lines, same_words, block_shown, shown_by}
use Rattle.std.proofs.lemmas.Slice.Eq.{bytes_eq-Decides}
use Rattle.std.specs.Str.{bytes_eq}
use Rattle.rv_draw.specs.Symbols.{glyph}
use Rattle.rv_draw.proofs.Texts.{drawing_text, flat_map-range_more}
use Rattle.rv_draw.proofs.inside.SheetBack.{columns_of, row_lexemes, sheet_lexemes, tokens_back, rows_lines, sheet_back}

-- ---- what is read from columns

-- each gate is read from the column that it draws on so many lines
abbrev pub AreRead : {G K : Type 0} → (G → ℕ → Symbol) → (List Symbol → Option K) → (G → K) → ℕ → List G → Type 0
AreRead draws read kept n gates = All (λ gate. read (map (draws gate) (range_with_len 0 n)) ≡ Some (kept gate)) gates

pub all_read : {G K : Type 0} (draws : G → ℕ → Symbol) (read : List Symbol → Option K) (kept : G → K) (n : ℕ) (gates : List G)
    → AreRead draws read kept n gates → each_of read (columns_of draws n gates) ≡ Some (map kept gates)
all_read draws read kept n [] are = refl
all_read draws read kept n (gate ∷ gates) are =
    rw (
      All-head (λ g. read (map (draws g) (range_with_len 0 n)) ≡ Some (kept g)) gate gates are,
      all_read draws read kept n gates (All-tail (λ g. read (map (draws g) (range_with_len 0 n)) ≡ Some (kept g)) gate gates are),
    ) refl

pub chunk_read : {G K : Type 0} (draws : G → ℕ → Symbol) (read : List Symbol → Option K) (kept : G → K) (n per : ℕ) (gates : List G) (k : ℕ)
    → AreRead draws read kept n gates → AreRead draws read kept n (slice_chunk gates per k)
chunk_read {G = G} draws read kept n per gates k are =
    let Reads : G → Type 0 = λ g. read (map (draws g) (range_with_len 0 n)) ≡ Some (kept g) in
    All-take Reads per (drop (k * per) gates) (All-drop Reads (k * per) gates are)

-- ---- tokens

abbrev gap_tokens : ℕ → List (List Lexeme)
gap_tokens k = cond (nat_eq k 0) [] ([] ∷ [])

abbrev pub lexemes_of : {G : Type 0} → (G → ℕ → Symbol) → ℕ → Cascade → List G → ℕ → List (List Lexeme)
lexemes_of draws per c gates k = sheet_lexemes draws c (slice_chunk gates per k) 0 (length c.names)

abbrev block_tokens : {G : Type 0} → (G → ℕ → Symbol) → ℕ → Cascade → List G → ℕ → List (List Lexeme)
block_tokens draws per c gates k = gap_tokens k ++ lexemes_of draws per c gates k

abbrev tokens_in : List (List (List ℕ)) → List (List Lexeme)
tokens_in rows = map (λ line. tokens_of true [] line) (map words_line rows)

gap_back : (k : ℕ) → tokens_in (gap k) ≡ gap_tokens k
gap_back k = elim (nat_eq k 0) as (λ t. tokens_in (cond t [] ([] ∷ [])) ≡ cond t [] ([] ∷ [])) [ true ↦ refl | false ↦ refl ]

tokens_in-append : (a b : List (List (List ℕ))) → tokens_in (a ++ b) ≡ tokens_in a ++ tokens_in b
tokens_in-append a b = ap (map (λ line. tokens_of true [] line)) (map-append words_line a b) ∙ map-append (λ line. tokens_of true [] line) (map words_line a) (map words_line b)

block_back : {G : Type 0} (draws : G → ℕ → Symbol) (per : ℕ) (c : Cascade) (gates : List G) (k : ℕ) → IsCascade c → tokens_in (block_rows draws per c gates k) ≡ block_tokens draws per c gates k
block_back draws per c gates k is =
    tokens_in-append (gap k) (sheet_rows draws c (slice_chunk gates per k))
    ∙ ap (λ (rows : List (List Lexeme)). rows ++ tokens_in (sheet_rows draws c (slice_chunk gates per k))) (gap_back k)
    ∙ ap (λ (rows : List (List Lexeme)). gap_tokens k ++ rows) (tokens_back draws c (slice_chunk gates per k) 0 (length c.names) is (omega arith))

all_tokens : {G : Type 0} (draws : G → ℕ → Symbol) (per : ℕ) (c : Cascade) (gates : List G) (ks : List ℕ) → IsCascade c → tokens_in (flat_map (block_rows draws per c gates) ks) ≡ flat_map (block_tokens draws per c gates) ks
all_tokens draws per c gates [] is = refl
all_tokens draws per c gates (k ∷ ks) is =
    tokens_in-append (block_rows draws per c gates k) (flat_map (block_rows draws per c gates) ks)
    ∙ ap (λ (rows : List (List Lexeme)). rows ++ tokens_in (flat_map (block_rows draws per c gates) ks)) (block_back draws per c gates k is)
    ∙ ap (λ (rows : List (List Lexeme)). block_tokens draws per c gates k ++ rows) (all_tokens draws per c gates ks is)

lines_append : (a b : List (List (List ℕ))) → AreLines a → AreLines b → AreLines (a ++ b)
lines_append [] b ha hb = hb
lines_append (row ∷ a) b ha hb = (ha.0, lines_append a b ha.1 hb)

gap_lines : (k : ℕ) → AreLines (gap k)
gap_lines k = elim (nat_eq k 0) as (λ t. AreLines (cond t [] ([] ∷ []))) [ true ↦ tt | false ↦ (tt, tt) ]

all_lines : {G : Type 0} (draws : G → ℕ → Symbol) (per : ℕ) (c : Cascade) (gates : List G) (ks : List ℕ) → IsCascade c → AreLines (flat_map (block_rows draws per c gates) ks)
all_lines draws per c gates [] is = tt
all_lines draws per c gates (k ∷ ks) is =
    lines_append (block_rows draws per c gates k) (flat_map (block_rows draws per c gates) ks)
    (lines_append (gap k) (sheet_rows draws c (slice_chunk gates per k)) (gap_lines k) (rows_lines draws c (slice_chunk gates per k) 0 (length c.names) is (omega arith)))
    (all_lines draws per c gates ks is)

-- ---- the blocks of the tokens

rows_before : {G : Type 0} (draws : G → ℕ → Symbol) (c : Cascade) (gates : List G) (start n : ℕ) (rest : List (List Lexeme))
    → blocks_of (sheet_lexemes draws c gates start n ++ ([] ∷ rest)) ≡ sheet_lexemes draws c gates start n ∷ blocks_of rest
rows_before draws c gates start zero rest = refl
rows_before draws c gates start (suc n) rest = ap (with_row (row_lexemes draws c gates start)) (rows_before draws c gates (start + 1) n rest)

rows_last : {G : Type 0} (draws : G → ℕ → Symbol) (c : Cascade) (gates : List G) (start n : ℕ)
    → blocks_of (sheet_lexemes draws c gates start n) ≡ sheet_lexemes draws c gates start n ∷ []
rows_last draws c gates start zero = refl
rows_last draws c gates start (suc n) = ap (with_row (row_lexemes draws c gates start)) (rows_last draws c gates (start + 1) n)

blocks_back : {G : Type 0} (draws : G → ℕ → Symbol) (per : ℕ) (c : Cascade) (gates : List G) (k more : ℕ)
    → blocks_of (lexemes_of draws per c gates k ++ flat_map (block_tokens draws per c gates) (range_with_len (k + 1) more)) ≡ lexemes_of draws per c gates k ∷ map (lexemes_of draws per c gates) (range_with_len (k + 1) more)
blocks_back draws per c gates k zero = ap blocks_of (append-nil (lexemes_of draws per c gates k)) ∙ rows_last draws c (slice_chunk gates per k) 0 (length c.names)
blocks_back draws per c gates k (suc more) =
    ap (λ (t : Bool). blocks_of (lexemes_of draws per c gates k ++ ((cond t [] ([] ∷ []) ++ lexemes_of draws per c gates (k + 1)) ++ flat_map (block_tokens draws per c gates) (range_with_len (k + 1 + 1) more)))) (ne_eqb (k + 1) 0 (λ e. omega (arith, e)))
    ∙ rows_before draws c (slice_chunk gates per k) 0 (length c.names) (lexemes_of draws per c gates (k + 1) ++ flat_map (block_tokens draws per c gates) (range_with_len (k + 1 + 1) more))
    ∙ ap (λ (blocks : List (List (List Lexeme))). lexemes_of draws per c gates k ∷ blocks) (blocks_back draws per c gates (k + 1) more)

-- ---- the pictures of the blocks

-- the picture of a block's gates
abbrev pub block_picture : {G K : Type 0} → (G → K) → ℕ → Cascade → List G → ℕ → Picture K
block_picture kept per c gates k = picture_on c (map kept (slice_chunk gates per k))

pictures_back : {G K : Type 0} (draws : G → ℕ → Symbol) (read : List Symbol → Option K) (kept : G → K) (per : ℕ) (c : Cascade) (gates : List G) (ks : List ℕ)
    → IsCascade c → AreRead draws read kept (length c.names) gates
    → each_of (block_shown read) (map (lexemes_of draws per c gates) ks) ≡ Some (map (block_picture kept per c gates) ks)
pictures_back draws read kept per c gates [] is are = refl
pictures_back {K = K} draws read kept per c gates (k ∷ ks) is are =
    ap (λ (picture : Option (Picture K)). before picture (each_of (block_shown read) (map (lexemes_of draws per c gates) ks)))
    (sheet_back draws read c (slice_chunk gates per k) (map kept (slice_chunk gates per k)) is (all_read draws read kept (length c.names) (slice_chunk gates per k) (chunk_read draws read kept (length c.names) per gates k are)))
    ∙ ap (before (Some (block_picture kept per c gates k))) (pictures_back draws read kept per c gates ks is are)

bytes_same : (a : List ℕ) → bytes_eq a a ≡ true
bytes_same a = (bytes_eq-Decides a a).1 refl

words_same : (ws : List (List ℕ)) → same_words ws ws ≡ true
words_same [] = refl
words_same (w ∷ ws) = rw (bytes_same w) (words_same ws)

pub lines_same : {K : Type 0} (c : Cascade) (k m : List K) → same_lines (picture_on c k) (picture_on c m) ≡ true
lines_same c k m =
    rw (words_same c.input_labels, words_same c.output_labels, bytes_same (flat_map (λ mark. glyph (first_symbol mark)) c.constants))
    (bytes_same (flat_map (λ is_garbage. glyph (last_symbol is_garbage)) c.garbage))

pub joined_back : {G K : Type 0} (kept : G → K) (per : ℕ) (c : Cascade) (gates : List G) (start more : ℕ)
    → joined (map (block_picture kept per c gates) (range_with_len start (suc more))) ≡ Some (picture_on c (map kept (flat_map (slice_chunk gates per) (range_with_len start (suc more)))))
joined_back {G = G} kept per c gates start zero = ap (λ (some : List G). Some (picture_on c (map kept some))) (sym (append-nil (slice_chunk gates per start)))
joined_back {G = G} {K = K} kept per c gates start (suc more) =
    let later : List G = flat_map (slice_chunk gates per) (range_with_len (start + 1) (suc more)) in
    let first : Picture K = block_picture kept per c gates start in
    ap (λ (same : Bool). cond same (option_map (λ (rest : Picture K). record first { gates = first.gates ++ rest.gates }) (joined (map (block_picture kept per c gates) (range_with_len (start + 1) (suc more))))) None)
    (lines_same c (map kept (slice_chunk gates per start)) (map kept (slice_chunk gates per (start + 1))))
    ∙ ap (option_map (λ (rest : Picture K). record first { gates = first.gates ++ rest.gates })) (joined_back kept per c gates (start + 1) more)
    ∙ ap (λ (some : List K). Some (record first { gates = some })) (sym (map-append kept (slice_chunk gates per start) later))

-- ---- the gates of all blocks

one_more : (n per : ℕ) → n * per + per ≡ (n + 1) * per
one_more n per = grind arith

chunks_back : {G : Type 0} (per : ℕ) (gates : List G) (n : ℕ) → flat_map (slice_chunk gates per) (range_with_len 0 n) ≡ take (n * per) gates
chunks_back {G = G} per gates zero = (let none : 0 ≡ 0 * per = omega arith in ap (λ (m : ℕ). take m gates) none)
chunks_back {G = G} per gates (suc n) =
    let next : suc n ≡ n + 1 = omega arith in
    let sum : n * per + per ≡ suc n * per = one_more n per ∙ ap (λ (m : ℕ). m * per) (sym next) in
    ap (λ (m : ℕ). flat_map (slice_chunk gates per) (range_with_len 0 m)) next
    ∙ flat_map-range_more (slice_chunk gates per) n
    ∙ ap (λ (front : List G). front ++ slice_chunk gates per n) (chunks_back per gates n)
    ∙ sym (take-add (n * per) per gates)
    ∙ ap (λ (m : ℕ). take m gates) sum

enough : (per gates : ℕ) → 1 ≤ per → gates ≤ block_count per gates * per
enough per gates some =
    let below : gates - 1 < (gates - 1) / per * per + per = lt-div-mul-add some in
    let sum = one_more ((gates - 1) / per) per in
    omega (arith, below, sum)

-- the gates of all blocks are the gates
pub whole : {G : Type 0} (per : ℕ) (gates : List G) → 1 ≤ per → flat_map (slice_chunk gates per) (range_with_len 0 (block_count per (length gates))) ≡ gates
whole per gates some = chunks_back per gates (block_count per (length gates)) ∙ take_all (block_count per (length gates) * per) gates (enough per (length gates) some)

-- the pictures of all blocks, joined
pub all_joined : {G K : Type 0} (kept : G → K) (per : ℕ) (c : Cascade) (gates : List G) → 1 ≤ per
    → joined (map (block_picture kept per c gates) (range_with_len 0 (block_count per (length gates)))) ≡ Some (picture_on c (map kept gates))
all_joined {G = G} kept per c gates some =
    let more : ℕ = (length gates - 1) / per in
    let count : block_count per (length gates) ≡ suc more = omega arith in
    ap (λ (n : ℕ). joined (map (block_picture kept per c gates) (range_with_len 0 n))) count
    ∙ joined_back kept per c gates 0 more
    ∙ ap (λ (n : ℕ). Some (picture_on c (map kept (flat_map (slice_chunk gates per) (range_with_len 0 n))))) (sym count)
    ∙ ap (λ (all : List G). Some (picture_on c (map kept all))) (whole per gates some)

-- ---- the whole

-- the blocks of rows of a drawing
pub blocks_read : {G : Type 0} (draws : G → ℕ → Symbol) (per : ℕ) (c : Cascade) (gates : List G) → IsCascade c
    → blocks_of (map (λ line. tokens_of true [] line) (lines_of (text_with draws per c gates))) ≡ map (lexemes_of draws per c gates) (range_with_len 0 (block_count per (length gates)))
blocks_read draws per c gates is =
    let more : ℕ = (length gates - 1) / per in
    let count : block_count per (length gates) ≡ suc more = omega arith in
    let rows : List (List (List ℕ)) = flat_map (block_rows draws per c gates) (range_with_len 0 (suc more)) in
    let text : spelled rows ≡ text_with draws per c gates = ap (λ (n : ℕ). spelled (flat_map (block_rows draws per c gates) (range_with_len 0 n))) (sym count) ∙ drawing_text draws per c gates in
    let lines : lines_of (text_with draws per c gates) ≡ map words_line rows = ap lines_of (sym text) ∙ lines_of-spelled rows (all_lines draws per c gates (range_with_len 0 (suc more)) is) in
    ap (λ (ls : List (List ℕ)). blocks_of (map (λ line. tokens_of true [] line) ls)) lines
    ∙ ap blocks_of (all_tokens draws per c gates (range_with_len 0 (suc more)) is)
    ∙ blocks_back draws per c gates 0 more
    ∙ ap (λ (n : ℕ). map (lexemes_of draws per c gates) (range_with_len 0 n)) (sym count)

pub read_back : {G K : Type 0} (draws : G → ℕ → Symbol) (read : List Symbol → Option K) (kept : G → K) (per : ℕ) (c : Cascade) (gates : List G)
    → 1 ≤ per → IsCascade c → AreRead draws read kept (length c.names) gates
    → shown_by read (text_with draws per c gates) ≡ Some (picture_on c (map kept gates))
unfolding shown_by
read_back draws read kept per c gates some is are =
    ap (λ (blocks : List (List (List Lexeme))). joined_if (each_of (block_shown read) blocks)) (blocks_read draws per c gates is)
    ∙ ap joined_if (pictures_back draws read kept per c gates (range_with_len 0 (block_count per (length gates))) is are)
    ∙ all_joined kept per c gates some
