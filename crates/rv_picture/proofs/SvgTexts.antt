-- The text of an SVG, as pieces that are added one after another.
use Rattle.std.proofs.Common.{◌≡◌, ◌∙◌, ℕ, ◌+◌, ◌<◌, List, [], ◌∷◌, ◌++◌, length, take, get_or, refl, ap, sym}
use Rattle.std.proofs.Common.{append_assoc, arith, max, slice_get, Some}
use Rattle.std.specs.Prelude.{codes, decimal}
use Rattle.std.specs.List.{flat_map, range_with_len}
use Rattle.std.proofs.lemmas.List.{append-nil, length-take, take_more}
use Rattle.std.proofs.lemmas.Fmt.{decimal_digit}
use Rattle.std.proofs.lemmas.Option.{get_or_from_slice_get, slice_get_within}
use Rattle.rv_gate.specs.Circuit.{Cascade}
use Rattle.rv_draw.specs.declared.symbol.Symbol.{Symbol}
use Rattle.rv_draw.specs.Drawing.{block_count}
use Rattle.rv_picture.specs.Cut.{text_of_lines}
use Rattle.rv_picture.specs.Svg.{all_gate_lines, block_lines, break_at, breaks, column_count, gate_lines, head, margin}
use Rattle.rv_picture.specs.Svg.{middle_of, picture_height, picture_width, placed, size, svg_with, titled, widest, width}
use Rattle.rv_picture.proofs.Texts.{line_text, lines-append}

-- what stands in a group
pub placed_then : (x y : ℕ) (body : List ℕ) → placed x y [] ++ body ≡ placed x y body
placed_then x y body =
    ap (λ t. codes "<g transform=\"translate(" ++ t) (append_assoc (decimal x) (32 ∷ (decimal y ++ codes ")\">")) body ∙ ap (λ t. decimal x ++ (32 ∷ t)) (append_assoc (decimal y) (codes ")\">") body))

pub placed_line : (x y : ℕ) (body : List ℕ) → placed x y [] ++ (body ++ 10 ∷ []) ≡ text_of_lines (placed x y body ∷ [])
placed_line x y body = sym (append_assoc (placed x y []) body (10 ∷ [])) ∙ ap (λ t. t ++ 10 ∷ []) (placed_then x y body) ∙ line_text (placed x y body)

-- the beginning of a gate's group
pub titled_line : (x : ℕ) (title : List ℕ) → placed x 0 [] ++ (codes "<title>" ++ (title ++ codes "</title>\n")) ≡ text_of_lines (placed x 0 (titled title) ∷ [])
titled_line x title = ap (λ t. placed x 0 [] ++ (codes "<title>" ++ t)) (sym (append_assoc title (codes "</title>") (10 ∷ []))) ∙ placed_line x 0 (titled title)

-- a symbol's group
pub stroke_line : (y : ℕ) (up down shape : List ℕ)
    → codes "<g transform=\"translate(0 " ++ (decimal y ++ (codes ")\">" ++ (up ++ (down ++ (shape ++ codes "</g>\n"))))) ≡ text_of_lines (placed 0 y (up ++ (down ++ (shape ++ codes "</g>"))) ∷ [])
stroke_line y up down shape =
    let first : codes "0" ≡ decimal 0 = sym (decimal_digit 0 (omega arith)) in
    let last : up ++ (down ++ (shape ++ codes "</g>\n")) ≡ (up ++ (down ++ (shape ++ codes "</g>"))) ++ 10 ∷ [] =
    ap (λ t. up ++ (down ++ t)) (sym (append_assoc shape (codes "</g>") (10 ∷ []))) ∙ ap (λ t. up ++ t) (sym (append_assoc down (shape ++ codes "</g>") (10 ∷ [])))
    ∙ sym (append_assoc up (down ++ (shape ++ codes "</g>")) (10 ∷ [])) in
    ap (λ (t : List ℕ). codes "<g transform=\"translate(" ++ (t ++ (32 ∷ (decimal y ++ (codes ")\">" ++ (up ++ (down ++ (shape ++ codes "</g>\n")))))))) first
    ∙ ap (λ (t : List ℕ). codes "<g transform=\"translate(" ++ (decimal 0 ++ (32 ∷ (decimal y ++ (codes ")\">" ++ t))))) last
    ∙ sym (ap (λ t. codes "<g transform=\"translate(" ++ t) (append_assoc (decimal 0) (32 ∷ (decimal y ++ (codes ")\">" ++ (up ++ (down ++ (shape ++ codes "</g>")))))) (10 ∷ []) ∙ ap (λ t. decimal 0 ++ (32 ∷ t)) (append_assoc (decimal y) (codes ")\">" ++ (up ++ (down ++ (shape ++ codes "</g>")))) (10 ∷ []))))
    ∙ line_text (placed 0 y (up ++ (down ++ (shape ++ codes "</g>"))))

-- lines one after another
pub three_lines : (a b c : List ℕ) → text_of_lines (a ∷ []) ++ (text_of_lines (b ∷ []) ++ text_of_lines (c ∷ [])) ≡ text_of_lines (a ∷ b ∷ c ∷ [])
three_lines a b c = ap (λ t. text_of_lines (a ∷ []) ++ t) (sym (lines-append (b ∷ []) (c ∷ []))) ∙ sym (lines-append (a ∷ []) (b ∷ c ∷ []))

pub lines_between : (a : List ℕ) (b : List (List ℕ)) (c : List ℕ) → text_of_lines (a ∷ []) ++ (text_of_lines b ++ text_of_lines (c ∷ [])) ≡ text_of_lines (a ∷ (b ++ c ∷ []))
lines_between a b c = ap (λ t. text_of_lines (a ∷ []) ++ t) (sym (lines-append b (c ∷ []))) ∙ sym (lines-append (a ∷ []) (b ++ c ∷ []))

pub four_parts : (a : List ℕ) (b c : List (List ℕ)) (d : List ℕ)
    → text_of_lines (a ∷ []) ++ (text_of_lines b ++ (text_of_lines c ++ text_of_lines (d ∷ []))) ≡ text_of_lines (a ∷ (b ++ (c ++ d ∷ [])))
four_parts a b c d =
    ap (λ t. text_of_lines (a ∷ []) ++ (text_of_lines b ++ t)) (sym (lines-append c (d ∷ [])))
    ∙ ap (λ t. text_of_lines (a ∷ []) ++ t) (sym (lines-append b (c ++ d ∷ []))) ∙ sym (lines-append (a ∷ []) (b ++ (c ++ d ∷ [])))

-- ---- one gate more

breaks-append : {G : Type 0} (draws : G → ℕ → Symbol) (line place : ℕ) (a b : List G) → breaks draws line place (a ++ b) ≡ breaks draws line place a ++ breaks draws line (place + length a) b
breaks-append draws line place [] b = (let same : place ≡ place + 0 = omega arith in ap (λ (p : ℕ). breaks draws line p b) same)
breaks-append draws line place (gate ∷ a) b =
    let far : place + 1 + length a ≡ place + length (gate ∷ a) = omega arith in
    ap (λ t. break_at (draws gate line) (middle_of place) (middle_of line) ++ t) (breaks-append draws line (place + 1) a b ∙ ap (λ (p : ℕ). breaks draws line (place + 1) a ++ breaks draws line p b) far)
    ∙ sym (append_assoc (break_at (draws gate line) (middle_of place) (middle_of line)) (breaks draws line (place + 1) a) (breaks draws line (place + length (gate ∷ a)) b))

pub breaks_more : {G : Type 0} (draws : G → ℕ → Symbol) (line : ℕ) (gates : List G) (i : ℕ) (gate : G) → i < length gates → gate ≡ get_or gates i gate
    → breaks draws line 0 (take i gates) ++ break_at (draws gate line) (middle_of i) (middle_of line) ≡ breaks draws line 0 (take (i + 1) gates)
breaks_more {G = G} draws line gates i gate lt is =
    let count : 0 + length (take i gates) ≡ i = simp length-take (omega (arith, lt)) in
    let more : take (i + 1) gates ≡ take i gates ++ gate ∷ [] = take_more gates i gate lt ∙ ap (λ (g : G). take i gates ++ g ∷ []) (sym is) in
    ap (λ t. breaks draws line 0 (take i gates) ++ t) (sym (append-nil (break_at (draws gate line) (middle_of i) (middle_of line))) ∙ ap (λ (p : ℕ). breaks draws line p (gate ∷ [])) (sym count))
    ∙ sym (breaks-append draws line 0 (take i gates) (gate ∷ [])) ∙ ap (breaks draws line 0) (sym more)

gates-append : {G : Type 0} (draws : G → ℕ → Symbol) (title : G → List ℕ) (lines place : ℕ) (a b : List G)
    → all_gate_lines draws title lines place (a ++ b) ≡ all_gate_lines draws title lines place a ++ all_gate_lines draws title lines (place + length a) b
gates-append draws title lines place [] b = (let same : place ≡ place + 0 = omega arith in ap (λ (p : ℕ). all_gate_lines draws title lines p b) same)
gates-append draws title lines place (gate ∷ a) b =
    let far : place + 1 + length a ≡ place + length (gate ∷ a) = omega arith in
    ap (λ t. gate_lines (draws gate) (title gate) lines place ++ t) (gates-append draws title lines (place + 1) a b ∙ ap (λ (p : ℕ). all_gate_lines draws title lines (place + 1) a ++ all_gate_lines draws title lines p b) far)
    ∙ sym (append_assoc (gate_lines (draws gate) (title gate) lines place) (all_gate_lines draws title lines (place + 1) a) (all_gate_lines draws title lines (place + length (gate ∷ a)) b))

pub gates_more : {G : Type 0} (draws : G → ℕ → Symbol) (title : G → List ℕ) (lines : ℕ) (gates : List G) (i : ℕ) (gate : G) → i < length gates → gate ≡ get_or gates i gate
    → text_of_lines (all_gate_lines draws title lines 0 (take i gates)) ++ text_of_lines (gate_lines (draws gate) (title gate) lines i) ≡ text_of_lines (all_gate_lines draws title lines 0 (take (i + 1) gates))
gates_more {G = G} draws title lines gates i gate lt is =
    let count : 0 + length (take i gates) ≡ i = simp length-take (omega (arith, lt)) in
    let more : take (i + 1) gates ≡ take i gates ++ gate ∷ [] = take_more gates i gate lt ∙ ap (λ (g : G). take i gates ++ g ∷ []) (sym is) in
    ap (λ t. text_of_lines (all_gate_lines draws title lines 0 (take i gates)) ++ text_of_lines t) (sym (append-nil (gate_lines (draws gate) (title gate) lines i)) ∙ ap (λ (p : ℕ). all_gate_lines draws title lines p (gate ∷ [])) (sym count))
    ∙ sym (lines-append (all_gate_lines draws title lines 0 (take i gates)) (all_gate_lines draws title lines (0 + length (take i gates)) (gate ∷ [])))
    ∙ ap text_of_lines (sym (gates-append draws title lines 0 (take i gates) (gate ∷ [])) ∙ ap (all_gate_lines draws title lines 0) (sym more))

-- ---- one label more

widest-push : (labels : List (List ℕ)) (label : List ℕ) → widest (labels ++ label ∷ []) ≡ max (widest labels) (width label)
widest-push [] label = omega arith
widest-push (first ∷ labels) label = (let rest = widest-push labels label in omega (arith, rest))

pub widest_more : (labels : List (List ℕ)) (i : ℕ) (label : List ℕ) → slice_get labels i ≡ Some label
    → max (widest (take i labels)) (width label) ≡ widest (take (i + 1) labels)
widest_more labels i label h =
    let here : get_or labels i label ≡ label = get_or_from_slice_get labels i label label h in
    sym (ap widest (take_more labels i label (slice_get_within labels i label h) ∙ ap (λ l. take i labels ++ l ∷ []) here) ∙ widest-push (take i labels) label)

-- ---- the whole

-- the first line
pub head_line : (c : Cascade) (columns blocks : ℕ)
    → codes "<svg xmlns=\"http://www.w3.org/2000/svg\" viewBox=\"-"
    ++ (decimal (margin c) ++ (codes " 0 " ++ (size (picture_width c columns) (picture_height c blocks)
    ++ codes " font-family=\"monospace\" font-size=\"13\" fill=\"none\" stroke=\"currentColor\">\n")))
    ≡ text_of_lines (head c columns blocks ∷ [])
head_line c columns blocks =
    let wide : ℕ = picture_width c columns in
    let high : ℕ = picture_height c blocks in
    let last : List ℕ = codes " font-family=\"monospace\" font-size=\"13\" fill=\"none\" stroke=\"currentColor\">" in
    ap (λ t. codes "<svg xmlns=\"http://www.w3.org/2000/svg\" viewBox=\"-" ++ t) (
    ap (λ t. decimal (margin c) ++ (codes " 0 " ++ t)) (sym (append_assoc (size wide high) last (10 ∷ [])))
    ∙ sym (append_assoc (decimal (margin c)) (codes " 0 " ++ (size wide high ++ last)) (10 ∷ []))
    )
    ∙ line_text (head c columns blocks)

pub svg_text : {G : Type 0} (draws : G → ℕ → Symbol) (title : List (List ℕ) → G → List ℕ) (per : ℕ) (c : Cascade) (gates : List G)
    → text_of_lines (
    head c (column_count per (length gates)) (block_count per (length gates))
    ∷ (flat_map (block_lines draws title per c gates) (range_with_len 0 (block_count per (length gates))) ++ codes "</svg>" ∷ [])
    ) ≡ svg_with draws title per c gates
unfolding svg_with
svg_text draws title per c gates = refl
