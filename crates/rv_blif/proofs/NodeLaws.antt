-- Nodes on many words at once.
use Rattle.std.proofs.Common.{◌≡◌, ℕ, zero, suc, ◌+◌, ◌<◌, Bool, true, false, cond, not, ◌&&◌, ◌||◌, List, [], ◌∷◌, ◌++◌, length, get_or, set, map, take, drop, refl, sym, ap, ◌∙◌, arith, add-one, length-append}
use Rattle.std.proofs.lemmas.List.{ext_get_or, get_or-map, length-map, map-append, take-append-le, take_all, take_more, take_more_set, take-map}
use Rattle.rv_gate.specs.Word.{has, bit_of}
use Rattle.rv_gate.specs.Gate.{all_below, holds, same}
use Rattle.rv_gate.proofs.Bits.{and_comm, or_assoc, or_false}
use Rattle.rv_many.specs.Column.{column, row_bit}
use Rattle.rv_many.specs.declared.row.Row.{Row}
use Rattle.rv_many.proofs.Columns.{bit_of-column, blank, column-set, length-column}
use Rattle.rv_blif.specs.declared.product.Product.{Product}
use Rattle.rv_blif.specs.Logic.{Node, Output, any_holds, node_value, operand_word, with_nodes, AreNodes, IsNode}

-- ---- a product

-- the literal of a line
abbrev pub literal : ℕ → ℕ → List Bool → ℕ → Bool
literal care want word line = cond (has care line) (same (bit_of word line) (has want line)) true

pub asked : (rows : List Row) (care want i : ℕ) (on next row : Row) (j : ℕ) → i < length rows → has care i ≡ true
    → row_bit on j ≡ all_below (literal care want (column rows j)) i
    → row_bit next j ≡ (row_bit on j && same (row_bit (get_or rows i row) j) (has want i))
    → row_bit next j ≡ all_below (literal care want (column rows j)) (i + 1)
asked rows care want i on next row j lt cared so_far is =
    let p : ℕ → Bool = literal care want (column rows j) in
    let here : p i ≡ same (row_bit (get_or rows i row) j) (has want i) = rw (cared, bit_of-column rows i j row lt) refl in
    is
    ∙ and_comm (row_bit on j) (same (row_bit (get_or rows i row) j) (has want i))
    ∙ ap (λ b. b && row_bit on j) (sym here)
    ∙ ap (λ b. p i && b) so_far
    ∙ ap (all_below p) (sym (add-one i))

pub not_asked : (rows : List Row) (care want i : ℕ) (on : Row) (j : ℕ) → has care i ≡ false
    → row_bit on j ≡ all_below (literal care want (column rows j)) i
    → row_bit on j ≡ all_below (literal care want (column rows j)) (i + 1)
not_asked rows care want i on j free so_far = so_far ∙ rw (add-one, free) refl

pub held : (rows : List Row) (care want : ℕ) (on : Row) (j : ℕ) → row_bit on j ≡ all_below (literal care want (column rows j)) (length rows)
    → row_bit on j ≡ holds care want (column rows j)
unfolding holds
held rows care want on j is = is ∙ ap (all_below (literal care want (column rows j))) (sym (length-column rows j))

-- ---- the products

pub any_holds-push : (ps : List Product) (p : Product) (word : List Bool) → any_holds (ps ++ p ∷ []) word ≡ (any_holds ps word || holds p.care p.want word)
any_holds-push [] p word = or_false (holds p.care p.want word)
any_holds-push (q ∷ ps) p word =
    ap (λ b. holds q.care q.want word || b) (any_holds-push ps p word)
    ∙ or_assoc (holds q.care q.want word) (any_holds ps word) (holds p.care p.want word)

none_more : (a b : Bool) → (not a && same b false) ≡ not (a || b)
none_more true b = refl
none_more false true = refl
none_more false false = refl

pub none_step : (ps : List Product) (k : ℕ) (d : Product) (word : List Bool) (none row next : Bool) → k < length ps
    → none ≡ not (any_holds (take k ps) word) → row ≡ holds (get_or ps k d).care (get_or ps k d).want word → next ≡ (none && same row false)
    → next ≡ not (any_holds (take (k + 1) ps) word)
none_step ps k d word none row next lt so_far row_is is =
    is
    ∙ ap (λ b. b && same row false) so_far
    ∙ none_more (any_holds (take k ps) word) row
    ∙ ap (λ b. not (any_holds (take k ps) word || b)) row_is
    ∙ ap not (sym (ap (λ l. any_holds l word) (take_more ps k d lt) ∙ any_holds-push (take k ps) (get_or ps k d) word))

same_not : (a b : Bool) → same (not a) (not b) ≡ same a b
same_not true true = refl
same_not true false = refl
same_not false true = refl
same_not false false = refl

pub node_bit : (node : Node) (rows own : List Row) (j : ℕ) (none on : Bool) → none ≡ not (any_holds node.products (column own j)) → on ≡ node.on
    → column own j ≡ operand_word node (column rows j) → same none (not on) ≡ node_value node (column rows j)
node_bit node rows own j none on none_is on_is own_is =
    ap (λ b. same b (not on)) none_is
    ∙ same_not (any_holds node.products (column own j)) on
    ∙ ap (λ w. same (any_holds node.products w) on) own_is
    ∙ ap (same (any_holds node.products (operand_word node (column rows j)))) on_is

-- ---- the operands

pub operand_rows : (operands : List ℕ) (rows own : List Row) (j : ℕ) → length own ≡ length operands
    → ((k : ℕ) → k < length operands → get_or own k blank ≡ get_or rows (get_or operands k 0) blank)
    → ((k : ℕ) → k < length operands → get_or operands k 0 < length rows)
    → column own j ≡ map (bit_of (column rows j)) operands
operand_rows operands rows own j count each within =
    ext_get_or false (column own j) (map (bit_of (column rows j)) operands) (length-column own j ∙ count ∙ sym (length-map operands (bit_of (column rows j))))
    (λ k h.
    let lt : k < length own = omega (arith, length-column own j) in
    let lt_o : k < length operands = omega (arith, count) in
    bit_of-column own k j blank lt
    ∙ ap (λ row. row_bit row j) (each k lt_o)
    ∙ sym (get_or-map (bit_of (column rows j)) operands k 0 false lt_o ∙ bit_of-column rows (get_or operands k 0) j blank (within k lt_o)))

-- ---- one node more

pub with_nodes-push : (nodes : List Node) (node : Node) (bits : List Bool)
    → with_nodes (nodes ++ node ∷ []) bits ≡ with_nodes nodes bits ++ node_value node (with_nodes nodes bits) ∷ []
with_nodes-push [] node bits = refl
with_nodes-push (first ∷ nodes) node bits = with_nodes-push nodes node (bits ++ node_value first bits ∷ [])

pub node_more : (nodes : List Node) (rows : List Row) (inputs k : ℕ) (node none : Node) (bits : List Bool) (row : Row) (j : ℕ)
    → inputs + k < length rows → k < length nodes → get_or nodes k none ≡ node
    → take (inputs + k) (column rows j) ≡ with_nodes (take k nodes) bits
    → row_bit row j ≡ node_value node (column (take (inputs + k) rows) j)
    → take (inputs + (k + 1)) (column (set rows (inputs + k) row) j) ≡ with_nodes (take (k + 1) nodes) bits
node_more nodes rows inputs k node none bits row j lt k_lt is so_far row_is =
    let word : List Bool = column rows j in
    let at : inputs + k < length word = omega (arith, length-column rows j) in
    let value : row_bit row j ≡ node_value node (with_nodes (take k nodes) bits) =
    row_is ∙ ap (node_value node) (sym (take-map (λ r. row_bit r j) (inputs + k) rows) ∙ so_far) in
    let last : inputs + (k + 1) ≡ inputs + k + 1 = omega arith in
    ap (take (inputs + (k + 1))) (column-set rows (inputs + k) row j)
    ∙ ap (λ m. take m (set word (inputs + k) (row_bit row j))) last
    ∙ take_more_set word (inputs + k) (row_bit row j) at
    ∙ rw (so_far, value, take_more nodes k none k_lt, is) (sym (with_nodes-push (take k nodes) node bits))

pub AreNodes-at : (before : ℕ) (nodes : List Node) (k : ℕ) (none : Node) → AreNodes before nodes → k < length nodes → IsNode (before + k) (get_or nodes k none)
AreNodes-at before [] k none are lt = absurd (omega arith)
AreNodes-at before (node ∷ nodes) zero none are lt = rw (let e : before + 0 ≡ before = omega arith in e) are.0
AreNodes-at before (node ∷ nodes) (suc k) none are lt =
    rw (let e : before + suc k ≡ before + 1 + k = omega arith in e) (AreNodes-at (before + 1) nodes k none are.1 (omega arith))

-- ---- outputs

pub picked_more : (rows made : List Row) (outputs : List Output) (i : ℕ) (output d : Output) (signal : ℕ) (e : Row) (j : ℕ) → i < length outputs
    → get_or outputs i d ≡ output → output.signal < length rows → signal ≡ output.signal
    → column made j ≡ map (λ o. bit_of (column rows j) o.signal) (take i outputs)
    → column (made ++ get_or rows signal e ∷ []) j ≡ map (λ o. bit_of (column rows j) o.signal) (take (i + 1) outputs)
picked_more rows made outputs i output d signal e j lt is within signal_is so_far =
    let f : Output → Bool = λ o. bit_of (column rows j) o.signal in
    let row : Row = get_or rows signal e in
    let bit : row_bit row j ≡ f output = ap (λ k. row_bit (get_or rows k e) j) signal_is ∙ sym (bit_of-column rows output.signal j e within) in
    map-append (λ r. row_bit r j) made (row ∷ [])
    ∙ ap (λ l. l ++ row_bit row j ∷ []) so_far
    ∙ ap (λ b. map f (take i outputs) ++ b ∷ []) (bit ∙ ap f (sym is))
    ∙ sym (ap (map f) (take_more outputs i d lt) ∙ map-append f (take i outputs) (get_or outputs i d ∷ []))

-- a list that is written back
pub written_back : {A : Type 0} (old new : List A) (n : ℕ) → length new ≡ n → take n (new ++ drop (length new) old) ≡ new
written_back old new n len = take-append-le n new (drop (length new) old) (omega (arith, len)) ∙ take_all n new (omega (arith, len))
