-- Functions of circuits and networks on a diagram, and the first word at which two of them differ.
use Rattle.std.proofs.Common.{◌≡◌, ℕ, ◌+◌, ◌^◌, ◌<◌, ◌≤◌, Bool, true, false, not, ◌&&◌, List, [], ◌∷◌, ◌++◌, length, get_or, map, take, All, Option, None, Some, refl, sym, ap, ◌∙◌, subst, arith, length-append}
use Rattle.std.specs.Prelude.{Result, Ok, Err, IfOk}
use Rattle.std.specs.Result.{is_err, is_ok}
use Rattle.std.proofs.lemmas.Bool.{true≢false}
use Rattle.std.proofs.lemmas.List.{ext_get_or, get_or-map, get_or_default, length-map, map-append, take_more}
use Rattle.std.proofs.lemmas.List.Elements.{All-push}
use Rattle.rv_gate.specs.Gate.{holds, same, xor}
use Rattle.rv_gate.specs.Word.{bit_of, word_of}
use Rattle.rv_gate.specs.inside.laws.WordLaws.{length-word_of}
use Rattle.rv_blif.specs.declared.product.Product.{Product}
use Rattle.rv_blif.specs.Logic.{Node, Output, any_holds, node_value, operand_word, with_nodes}
use Rattle.rv_blif.proofs.NodeLaws.{none_step, with_nodes-push}
use Rattle.rv_diagram.specs.declared.edge.Edge.{Edge}
use Rattle.rv_diagram.specs.declared.edge.Node.{Node as Branch}
use Rattle.rv_diagram.specs.Diagram.{AreStill, IsEdge, IsFirstApart, Keeps, turned_by, value, word_at}
use Rattle.rv_diagram.proofs.Values.{keeps_on, value_turned}
use Rattle.rv_diagram.proofs.Lines.{edges_on, word_on}
use Rattle.rv_compare.specs.Compare.{IsAnswer, Size, of_failing}
use Rattle.rv_compare.specs.inside.Least.{IsFirstFailing}
use Rattle.rv_compare.proofs.inside.Least.{at_each_word}

-- ---- results

pub went_well : {A E : Type 0} (r : Result A E) → is_err r ≡ false → is_ok r ≡ true
went_well (Ok x) is = refl
went_well (Err e) is = absurd (true≢false is)

pub if_ok_as : {A E : Type 0} (r : Result A E) (P Q : A → Type 0) → ((x : A) → P x → Q x) → IfOk r P → IfOk r Q
if_ok_as (Ok x) P Q each h = each x h
if_ok_as (Err e) P Q each h = tt

abbrev pub blank : Edge
blank = record { node = 0; turned = false }

-- ---- the products of a node

pub record NoneHold (start now : List Branch) (own : List Edge) (products : List Product) (i : ℕ) (none : Edge) : Type 0 where
  pub keeps : Keeps start now
  pub edge : IsEdge now none
  pub value : (x : List Bool) → value now none x ≡ not (any_holds (take i products) (word_at start own x))

xor_true : (a : Bool) → xor a true ≡ same a false
xor_true true = refl
xor_true false = refl

pub none_more : (start now mid next : List Branch) (own : List Edge) (products : List Product) (i : ℕ) (d : Product) (none on made : Edge) → All (IsEdge start) own → i < length products
    → NoneHold start now own products i none → Keeps now mid → Keeps mid next → IsEdge next made
    → ((x : List Bool) → value mid on x ≡ holds (get_or products i d).care (get_or products i d).want (word_at now own x))
    → ((x : List Bool) → value next made x ≡ (value mid none x && value mid (turned_by on true) x))
    → NoneHold start next own products (i + 1) made
none_more start now mid next own products i d none on made are lt h k l is held at = record {
  keeps = keeps_on start mid next (keeps_on start now mid h.keeps k) l;
  edge = is;
  value = λ x.
      none_step products i d (word_at start own x) (value now none x) (value mid on x) (value next made x) lt
      (h.value x)
      (held x ∙ ap (holds (get_or products i d).care (get_or products i d).want) (word_on start now own x h.keeps are))
      (at x ∙ ap (λ b. b && value mid (turned_by on true) x) (k.same none x h.edge) ∙ ap (λ b. value now none x && b) (value_turned mid on true x ∙ xor_true (value mid on x)));
}

-- ---- the operands of a node

abbrev pub AreOperands : List ℕ → List Edge → List Edge → ℕ → Type 0
AreOperands operands signals own i = (k : ℕ) → k < i → get_or own k blank ≡ get_or signals (get_or operands k 0) blank

pub own_edges : (nodes : List Branch) (operands : List ℕ) (signals own : List Edge) → length own ≡ length operands → AreOperands operands signals own (length operands)
    → All (λ signal. signal < length signals) operands → All (IsEdge nodes) signals → All (IsEdge nodes) own
own_edges nodes operands signals own count each within are = λ k d lt.
    let lt_o : k < length operands = omega (arith, lt, count) in
    let is : get_or own k d ≡ get_or signals (get_or operands k 0) blank = get_or_default own k d blank lt ∙ each k lt_o in
    rw is (are (get_or operands k 0) blank (within k 0 lt_o))

pub own_word : (nodes : List Branch) (operands : List ℕ) (signals own : List Edge) (x : List Bool) → length own ≡ length operands → AreOperands operands signals own (length operands)
    → All (λ signal. signal < length signals) operands → word_at nodes own x ≡ map (bit_of (word_at nodes signals x)) operands
own_word nodes operands signals own x count each within =
    let f : Edge → Bool = λ e. value nodes e x in
    ext_get_or false (map f own) (map (bit_of (map f signals)) operands) (length-map own f ∙ count ∙ sym (length-map operands (bit_of (map f signals))))
    (λ k h.
    let lt : k < length own = omega (arith, h, length-map own f) in
    let lt_o : k < length operands = omega (arith, lt, count) in
    get_or-map f own k blank false lt
    ∙ ap f (each k lt_o)
    ∙ sym (get_or-map (bit_of (map f signals)) operands k 0 false lt_o ∙ get_or-map f signals (get_or operands k 0) blank false (within k 0 lt_o)))

xor_not : (a b : Bool) → xor (not a) b ≡ same a b
xor_not true true = refl
xor_not true false = refl
xor_not false true = refl
xor_not false false = refl

pub node_is : (start now : List Branch) (node : Node) (signals own : List Edge) (none : Edge) (on : Bool) (x : List Bool) → value now none x ≡ not (any_holds node.products (word_at start own x)) → on ≡ node.on
    → word_at start own x ≡ operand_word node (word_at start signals x) → value now (turned_by none on) x ≡ node_value node (word_at start signals x)
node_is start now node signals own none on x none_is on_is own_is =
    value_turned now none on x
    ∙ ap (λ b. xor b on) none_is
    ∙ xor_not (any_holds node.products (word_at start own x)) on
    ∙ ap (λ w. same (any_holds node.products w) on) own_is
    ∙ ap (same (any_holds node.products (operand_word node (word_at start signals x)))) on_is

-- ---- signals

word-push : (now next : List Branch) (signals : List Edge) (made : Edge) (x word : List Bool) (b : Bool) → Keeps now next → All (IsEdge now) signals → word_at now signals x ≡ word → value next made x ≡ b
    → word_at next (signals ++ made ∷ []) x ≡ word ++ b ∷ []
word-push now next signals made x word b k are is at =
    map-append (λ e. value next e x) signals (made ∷ [])
    ∙ ap (λ w. w ++ value next made x ∷ []) (word_on now next signals x k are ∙ is)
    ∙ ap (λ c. word ++ c ∷ []) at

pub record AreInputs (start now : List Branch) (signals : List Edge) (i : ℕ) : Type 0 where
  pub keeps : Keeps start now
  pub count : length signals ≡ i
  pub edges : All (IsEdge now) signals
  pub words : (x : List Bool) → i ≤ length x → word_at now signals x ≡ take i x

pub inputs_more : (start now next : List Branch) (signals : List Edge) (i : ℕ) (made : Edge) → AreInputs start now signals i → Keeps now next → IsEdge next made
    → ((x : List Bool) → value next made x ≡ bit_of x i) → AreInputs start next (signals ++ made ∷ []) (i + 1)
inputs_more start now next signals i made h k is at = record {
  keeps = keeps_on start now next h.keeps k;
  count = omega (arith, h.count, length-append signals (made ∷ []));
  edges = All-push (IsEdge next) signals made (edges_on now next signals k h.edges) is;
  words = λ x le.
      word-push now next signals made x (take i x) (bit_of x i) k h.edges (h.words x (omega (arith, le))) (at x)
      ∙ sym (take_more x i false (omega (arith, le)));
}

pub record AreSignals (now : List Branch) (inputs : ℕ) (nodes : List Node) (signals : List Edge) (k : ℕ) : Type 0 where
  pub count : length signals ≡ inputs + k
  pub edges : All (IsEdge now) signals
  pub words : (x : List Bool) → length x ≡ inputs → word_at now signals x ≡ with_nodes (take k nodes) x

pub signals_more : (now room next : List Branch) (inputs : ℕ) (nodes : List Node) (signals left : List Edge) (k : ℕ) (d : Node) (made : Edge) → k < length nodes
    → AreSignals now inputs nodes signals k → AreStill now room signals left → Keeps room next → IsEdge next made
    → ((x : List Bool) → value next made x ≡ node_value (get_or nodes k d) (word_at room left x)) → AreSignals next inputs nodes (left ++ made ∷ []) (k + 1)
signals_more now room next inputs nodes signals left k d made lt h still kept is at = record {
  count = omega (arith, h.count, still.count, length-append left (made ∷ []));
  edges = All-push (IsEdge next) left made (edges_on room next left kept still.edges) is;
  words = λ x len.
      let before : List Bool = with_nodes (take k nodes) x in
      let node : Node = get_or nodes k d in
      let same : word_at room left x ≡ before = still.word x ∙ h.words x len in
      word-push room next left made x before (node_value node before) kept still.edges same (at x ∙ ap (node_value node) same)
      ∙ sym (ap (λ ns. with_nodes ns x) (take_more nodes k d lt) ∙ with_nodes-push (take k nodes) node x);
}

-- ---- outputs

pub record ArePicked (now : List Branch) (signals : List Edge) (outputs : List Output) (picked : List Edge) (i : ℕ) : Type 0 where
  pub count : length picked ≡ i
  pub edges : All (IsEdge now) picked
  pub words : (x : List Bool) → word_at now picked x ≡ map (λ o. bit_of (word_at now signals x) o.signal) (take i outputs)

pub picked_more : (now : List Branch) (signals : List Edge) (outputs : List Output) (picked : List Edge) (i : ℕ) (d : Output) (e : Edge) (signal : ℕ) → i < length outputs
    → All (IsEdge now) signals → All (λ output. output.signal < length signals) outputs → signal ≡ (get_or outputs i d).signal
    → ArePicked now signals outputs picked i → ArePicked now signals outputs (picked ++ get_or signals signal e ∷ []) (i + 1)
picked_more now signals outputs picked i d e signal lt are within is h =
    let made : Edge = get_or signals signal e in
    let there : signal < length signals = omega (arith, within i d lt, is) in
    record {
      count = omega (arith, h.count, length-append picked (made ∷ []));
      edges = All-push (IsEdge now) picked made h.edges (are signal e there);
      words = λ x.
          let f : Output → Bool = λ o. bit_of (word_at now signals x) o.signal in
          let bit : value now made x ≡ f (get_or outputs i d) =
          sym (get_or-map (λ y. value now y x) signals signal e false there) ∙ ap (bit_of (word_at now signals x)) is in
          map-append (λ y. value now y x) picked (made ∷ [])
          ∙ ap (λ w. w ++ value now made x ∷ []) (h.words x)
          ∙ ap (λ b. map f (take i outputs) ++ b ∷ []) bit
          ∙ sym (ap (map f) (take_more outputs i d lt) ∙ map-append f (take i outputs) (get_or outputs i d ∷ []));
    }

-- ---- the first word

-- what the functions are at words of so many bits
pub failing_as : (inputs : ℕ) (f g f2 g2 : List Bool → List Bool) (found : Option ℕ) → ((x : List Bool) → length x ≡ inputs → f x ≡ f2 x) → ((x : List Bool) → length x ≡ inputs → g x ≡ g2 x)
    → IsFirstApart inputs f g found → IsFirstFailing (2 ^ inputs) (λ k. f2 (word_of inputs k) ≡ g2 (word_of inputs k)) found
failing_as inputs f g f2 g2 None same_f same_g is = λ k lt.
    let len = length-word_of inputs k in
    sym (same_f (word_of inputs k) len) ∙ is (word_of inputs k) ∙ same_g (word_of inputs k) len
failing_as inputs f g f2 g2 (Some number) same_f same_g is = record {
  below = is.0;
  fails = λ e. is.1 (same_f (word_of inputs number) (length-word_of inputs number) ∙ e ∙ sym (same_g (word_of inputs number) (length-word_of inputs number)));
  least = λ k lt.
      let len = length-word_of inputs k in
      sym (same_f (word_of inputs k) len) ∙ is.2 k lt ∙ same_g (word_of inputs k) len;
}

pub found_answer : (a b : Size) (Agree : List Bool → Type 0) (inputs : ℕ) (found : Option ℕ) → a.inputs ≡ b.inputs → a.outputs ≡ b.outputs → inputs ≡ a.inputs
    → IsFirstFailing (2 ^ inputs) (λ k. Agree (word_of inputs k)) found → IsAnswer a b Agree (of_failing found)
found_answer a b Agree inputs None same_inputs same_outputs is given =
    let Holds : ℕ → Type 0 = λ n. (k : ℕ) → k < 2 ^ n → Agree (word_of n k) in
    (same_inputs, same_outputs, at_each_word a.inputs Agree (subst Holds is given))
found_answer a b Agree inputs (Some number) same_inputs same_outputs is given =
    let Holds : ℕ → Type 0 = λ n. IsFirstFailing (2 ^ n) (λ k. Agree (word_of n k)) (Some number) in
    (same_inputs, same_outputs, subst Holds is given)
