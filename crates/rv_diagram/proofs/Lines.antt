-- Functions on lines: what gates make of them.
use Rattle.std.proofs.Common.{◌≡◌, ℕ, suc, ◌+◌, ◌<◌, Bool, true, false, cond, ◌&&◌, List, [], ◌∷◌, ◌++◌, length, get_or, set, map, All, refl, sym, ap, ◌∙◌, arith, add-one, length-set}
use Rattle.std.proofs.lemmas.List.{get_or-map, length-map, map-set, set-get_or}
use Rattle.std.proofs.lemmas.List.Elements.{All-set}
use Rattle.rv_gate.specs.Word.{has, bit_of}
use Rattle.rv_gate.specs.Gate.{same, xor, holds, all_below, flip, exchanged, peres, act, run}
use Rattle.rv_gate.specs.declared.gate.Shape.{Shape}
use Rattle.rv_gate.specs.declared.gate.Shape.TheVariants.{Flip, Swap, Peres}
use Rattle.rv_gate.proofs.Bits.{xor_comm}
use Rattle.rv_gate.proofs.inside.GateLemmas.{flip_if}
use Rattle.rv_diagram.specs.declared.edge.Edge.{Edge}
use Rattle.rv_diagram.specs.declared.edge.Node.{Node}
use Rattle.rv_diagram.specs.Diagram.{value, word_at, IsEdge, Keeps, HaveRun}
use Rattle.rv_diagram.proofs.Values.{keeps_self, keeps_on}

-- ---- as a diagram grows

pub edges_on : (old new : List Node) (lines : List Edge) → Keeps old new → All (IsEdge old) lines → All (IsEdge new) lines
edges_on old new lines k are = λ i d lt. omega (arith, k.longer, are i d lt)

pub word_on : (old new : List Node) (lines : List Edge) (x : List Bool) → Keeps old new → All (IsEdge old) lines → word_at new lines x ≡ word_at old lines x
word_on old new [] x k are = refl
word_on old new (e ∷ lines) x k are =
    let here : value new e x ≡ value old e x = k.same e x (are 0 e (omega arith)) in
    let rest = word_on old new lines x k (λ i d lt. are (suc i) d (omega arith)) in
    (λ i. here i ∷ rest i)

pub bit_at_line : (nodes : List Node) (lines : List Edge) (line : ℕ) (d : Edge) (x : List Bool) → line < length lines → bit_of (word_at nodes lines x) line ≡ value nodes (get_or lines line d) x
bit_at_line nodes lines line d x lt = get_or-map (λ e. value nodes e x) lines line d false lt

-- ---- controls

abbrev pub literal : ℕ → ℕ → List Bool → ℕ → Bool
literal care want word line = cond (has care line) (same (bit_of word line) (has want line)) true

pub record HeldBelow (start now : List Node) (lines : List Edge) (care want line : ℕ) (on : Edge) : Type 0 where
  pub keeps : Keeps start now
  pub edge : IsEdge now on
  pub value : (x : List Bool) → value now on x ≡ all_below (literal care want (word_at start lines x)) line

pub held_more : (start now next : List Node) (lines : List Edge) (care want line : ℕ) (on made d : Edge) (cared wanted : Bool) → All (IsEdge start) lines → line < length lines
    → HeldBelow start now lines care want line on → cared ≡ has care line → wanted ≡ has want line → Keeps now next → IsEdge next made
    → ((x : List Bool) → value next made x ≡ (cond cared (same (value now (get_or lines line d) x) wanted) true && value now on x))
    → HeldBelow start next lines care want (line + 1) made
held_more start now next lines care want line on made d cared wanted are lt h at_care at_want k is at = record {
  keeps = keeps_on start now next h.keeps k;
  edge = is;
  value = λ x.
      let e : Edge = get_or lines line d in
      let here : value now e x ≡ bit_of (word_at start lines x) line = h.keeps.same e x (are line d lt) ∙ sym (bit_at_line start lines line d x lt) in
      at x
      ∙ rw (at_care, at_want, here, h.value x) refl
      ∙ sym (ap (all_below (literal care want (word_at start lines x))) (add-one line));
}

pub held_all : (start now : List Node) (lines : List Edge) (care want line : ℕ) (on : Edge) → line ≡ length lines → HeldBelow start now lines care want line on
    → (x : List Bool) → value now on x ≡ holds care want (word_at start lines x)
unfolding holds
held_all start now lines care want line on at h x =
    h.value x ∙ ap (all_below (literal care want (word_at start lines x))) (at ∙ sym (length-map lines (λ e. value start e x)))

-- ---- what each kind of gate does, for any meaning of edges

flip_edges : (f : Edge → Bool) (lines : List Edge) (care want target : ℕ) (next : Edge) (on : Bool) → on ≡ holds care want (map f lines) → f next ≡ xor (bit_of (map f lines) target) on
    → map f (set lines target next) ≡ act (Flip care want target) (map f lines)
flip_edges f lines care want target next on held is =
    let word : List Bool = map f lines in
    map-set f lines target next
    ∙ ap (set word target) (is ∙ xor_comm (bit_of word target) on)
    ∙ sym (flip_if on word target)
    ∙ ap (λ t. cond t (flip word target) word) held

xor-back : (x y : Bool) → xor x (xor x y && true) ≡ y
xor-back true true = refl
xor-back true false = refl
xor-back false true = refl
xor-back false false = refl

xor-over : (x y : Bool) → xor y (xor x y && true) ≡ x
xor-over true true = refl
xor-over true false = refl
xor-over false true = refl
xor-over false false = refl

xor-none : (x y : Bool) → xor x (y && false) ≡ x
xor-none true true = refl
xor-none true false = refl
xor-none false true = refl
xor-none false false = refl

exchanged_if : (t : Bool) (word : List Bool) (a b : ℕ)
    → set (set word a (xor (bit_of word a) (xor (bit_of word a) (bit_of word b) && t))) b (xor (bit_of word b) (xor (bit_of word a) (bit_of word b) && t))
    ≡ cond t (exchanged word a b) word
exchanged_if true word a b =
    ap (λ v. set (set word a v) b (xor (bit_of word b) (xor (bit_of word a) (bit_of word b) && true))) (xor-back (bit_of word a) (bit_of word b))
    ∙ ap (set (set word a (bit_of word b)) b) (xor-over (bit_of word a) (bit_of word b))
exchanged_if false word a b =
    ap (λ v. set (set word a v) b (xor (bit_of word b) (xor (bit_of word a) (bit_of word b) && false))) (xor-none (bit_of word a) (xor (bit_of word a) (bit_of word b)))
    ∙ ap (set (set word a (bit_of word a)) b) (xor-none (bit_of word b) (xor (bit_of word a) (bit_of word b)))
    ∙ ap (λ w. set w b (bit_of word b)) (set-get_or word a false)
    ∙ set-get_or word b false

map-set_two : (f : Edge → Bool) (lines : List Edge) (a b : ℕ) (first second : Edge) → map f (set (set lines a first) b second) ≡ set (set (map f lines) a (f first)) b (f second)
map-set_two f lines a b first second = map-set f (set lines a first) b second ∙ ap (λ w. set w b (f second)) (map-set f lines a first)

swap_edges : (f : Edge → Bool) (lines : List Edge) (care want a b : ℕ) (first second : Edge) (on : Bool) → on ≡ holds care want (map f lines)
    → f first ≡ xor (bit_of (map f lines) a) (xor (bit_of (map f lines) a) (bit_of (map f lines) b) && on)
    → f second ≡ xor (bit_of (map f lines) b) (xor (bit_of (map f lines) a) (bit_of (map f lines) b) && on)
    → map f (set (set lines a first) b second) ≡ act (Swap care want a b) (map f lines)
swap_edges f lines care want a b first second on held is_first is_second =
    map-set_two f lines a b first second
    ∙ rw (is_first, is_second, held) refl
    ∙ exchanged_if (holds care want (map f lines)) (map f lines) a b

peres_edges : (f : Edge → Bool) (lines : List Edge) (a b c : ℕ) (second third : Edge)
    → f second ≡ xor (bit_of (map f lines) a) (bit_of (map f lines) b)
    → f third ≡ xor (bit_of (map f lines) c) (bit_of (map f lines) a && bit_of (map f lines) b)
    → map f (set (set lines b second) c third) ≡ peres (map f lines) a b c
peres_edges f lines a b c second third is_second is_third =
    map-set_two f lines b c second third ∙ rw (is_second, is_third) refl

-- ---- and on a diagram that grows

-- an edge of a line, in what the diagram has become
line_on : (old n : List Node) (lines : List Edge) (line : ℕ) (d : Edge) (x : List Bool) → Keeps old n → All (IsEdge old) lines → line < length lines
    → value n (get_or lines line d) x ≡ bit_of (word_at old lines x) line
line_on old n lines line d x k are lt = sym (bit_at_line n lines line d x lt) ∙ ap (λ w. bit_of w line) (word_on old n lines x k are)

pub flip_run : (old mid new : List Node) (lines : List Edge) (care want target place : ℕ) (on next d : Edge) → place ≡ target → Keeps old mid → Keeps mid new → All (IsEdge old) lines → target < length lines
    → IsEdge mid on → IsEdge new next → ((x : List Bool) → value mid on x ≡ holds care want (word_at old lines x))
    → ((x : List Bool) → value new next x ≡ xor (value mid (get_or lines place d) x) (value mid on x))
    → HaveRun old new lines (set lines place next) (Flip care want target ∷ [])
flip_run old mid new lines care want target place on next d at k l are lt is_on is_next held is =
    let all : Keeps old new = keeps_on old mid new k l in
    rw at (record {
      count = length-set lines target next;
      edges = All-set (IsEdge new) lines target next is_next (edges_on old new lines all are);
      word = λ x.
          let same_word : word_at new lines x ≡ word_at old lines x = word_on old new lines x all are in
          flip_edges (λ f. value new f x) lines care want target next (value mid on x)
          (held x ∙ ap (holds care want) (sym same_word))
          (is x ∙ ap (λ n. xor (value mid (get_or lines n d) x) (value mid on x)) at
          ∙ ap (λ b. xor b (value mid on x)) (line_on old mid lines target d x k are lt ∙ ap (λ w. bit_of w target) (sym same_word)))
          ∙ ap (act (Flip care want target)) same_word;
    })

pub swap_run : (old n1 n2 n3 n4 new : List Node) (lines : List Edge) (care want a b : ℕ) (on apart differ first second da db : Edge)
    → Keeps old n1 → Keeps n1 n2 → Keeps n2 n3 → Keeps n3 n4 → Keeps n4 new → All (IsEdge old) lines → a < length lines → b < length lines
    → IsEdge n1 on → IsEdge n2 apart → IsEdge n3 differ → IsEdge n4 first → IsEdge new second
    → ((x : List Bool) → value n1 on x ≡ holds care want (word_at old lines x))
    → ((x : List Bool) → value n2 apart x ≡ xor (value n1 (get_or lines a da) x) (value n1 (get_or lines b db) x))
    → ((x : List Bool) → value n3 differ x ≡ (value n2 apart x && value n2 on x))
    → ((x : List Bool) → value n4 first x ≡ xor (value n3 (get_or lines a da) x) (value n3 differ x))
    → ((x : List Bool) → value new second x ≡ xor (value n4 (get_or lines b db) x) (value n4 differ x))
    → HaveRun old new lines (set (set lines a first) b second) (Swap care want a b ∷ [])
swap_run old n1 n2 n3 n4 new lines care want a b on apart differ first second da db k1 k2 k3 k4 k5 are lt_a lt_b is_on is_apart is_differ is_first is_second held v_apart v_differ v_first v_second =
    let o2 : Keeps old n2 = keeps_on old n1 n2 k1 k2 in
    let o3 : Keeps old n3 = keeps_on old n2 n3 o2 k3 in
    let o4 : Keeps old n4 = keeps_on old n3 n4 o3 k4 in
    let all : Keeps old new = keeps_on old n4 new o4 k5 in
    record {
      count = length-set (set lines a first) b second ∙ length-set lines a first;
      edges = All-set (IsEdge new) (set lines a first) b second is_second
          (All-set (IsEdge new) lines a first (omega (arith, k5.longer)) (edges_on old new lines all are));
      word = λ x.
          let same_word : word_at new lines x ≡ word_at old lines x = word_on old new lines x all are in
          let is : value n3 differ x ≡ (xor (bit_of (word_at old lines x) a) (bit_of (word_at old lines x) b) && value n1 on x) =
          v_differ x ∙ rw (v_apart x, k2.same on x is_on, line_on old n1 lines a da x k1 are lt_a, line_on old n1 lines b db x k1 are lt_b) refl in
          swap_edges (λ f. value new f x) lines care want a b first second (value n1 on x)
          (held x ∙ ap (holds care want) (sym same_word))
          (k5.same first x is_first ∙ v_first x ∙ rw (is, line_on old n3 lines a da x o3 are lt_a, same_word) refl)
          (v_second x ∙ rw (k4.same differ x is_differ, is, line_on old n4 lines b db x o4 are lt_b, same_word) refl)
          ∙ ap (act (Swap care want a b)) same_word;
    }

pub peres_run : (old n1 n2 new : List Node) (lines : List Edge) (a b c : ℕ) (both second third da db dc : Edge)
    → Keeps old n1 → Keeps n1 n2 → Keeps n2 new → All (IsEdge old) lines → a < length lines → b < length lines → c < length lines
    → IsEdge n1 both → IsEdge n2 second → IsEdge new third
    → ((x : List Bool) → value n1 both x ≡ (value old (get_or lines a da) x && value old (get_or lines b db) x))
    → ((x : List Bool) → value n2 second x ≡ xor (value n1 (get_or lines a da) x) (value n1 (get_or lines b db) x))
    → ((x : List Bool) → value new third x ≡ xor (value n2 (get_or lines c dc) x) (value n2 both x))
    → HaveRun old new lines (set (set lines b second) c third) (Peres a b c ∷ [])
peres_run old n1 n2 new lines a b c both second third da db dc k1 k2 k3 are lt_a lt_b lt_c is_both is_second is_third v_both v_second v_third =
    let o2 : Keeps old n2 = keeps_on old n1 n2 k1 k2 in
    let all : Keeps old new = keeps_on old n2 new o2 k3 in
    record {
      count = length-set (set lines b second) c third ∙ length-set lines b second;
      edges = All-set (IsEdge new) (set lines b second) c third is_third
          (All-set (IsEdge new) lines b second (omega (arith, k3.longer)) (edges_on old new lines all are));
      word = λ x.
          let same_word : word_at new lines x ≡ word_at old lines x = word_on old new lines x all are in
          peres_edges (λ f. value new f x) lines a b c second third
          (k3.same second x is_second ∙ v_second x ∙ rw (line_on old n1 lines a da x k1 are lt_a, line_on old n1 lines b db x k1 are lt_b, same_word) refl)
          (v_third x ∙ rw (k2.same both x is_both, v_both x, line_on old n2 lines c dc x o2 are lt_c, line_on old old lines a da x (keeps_self old) are lt_a, line_on old old lines b db x (keeps_self old) are lt_b, same_word) refl)
          ∙ ap (λ w. peres w a b c) same_word;
    }

-- ---- one gate after another

run-append : (a b : List Shape) (word : List Bool) → run (a ++ b) word ≡ run b (run a word)
run-append [] b word = refl
run-append (g ∷ a) b word = run-append a b (act g word)

pub run_none : (nodes : List Node) (lines : List Edge) → All (IsEdge nodes) lines → HaveRun nodes nodes lines lines []
run_none nodes lines are = record { count = refl; edges = are; word = λ x. refl }

pub run_more : (old now new : List Node) (before lines after : List Edge) (done : List Shape) (g : Shape) → HaveRun old now before lines done → HaveRun now new lines after (g ∷ [])
    → HaveRun old new before after (done ++ g ∷ [])
run_more old now new before lines after done g h is = record {
  count = is.count ∙ h.count;
  edges = is.edges;
  word = λ x. is.word x ∙ ap (act g) (h.word x) ∙ sym (run-append done (g ∷ []) (word_at old before x));
}

-- a line is there after a write too
pub still : (lines : List Edge) (line : ℕ) (e : Edge) (other : ℕ) → other < length lines → other < length (set lines line e)
still lines line e other lt = omega (arith, length-set lines line e)
