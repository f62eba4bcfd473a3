-- A circuit in which each input, output and node has a line of its own: step by step.
use Rattle.std.proofs.Common.{◌≡◌, ◌≢◌, ℕ, zero, suc, ◌+◌, ◌-◌, ◌*◌, ◌^◌, ◌<◌, ◌≤◌, true, cond, List, [], ◌∷◌, ◌++◌, length, map, set, get_or, refl, sym, subst, ◌∙◌, ap, inl, inr, arith, get_or-set_same, get_or-set_other}
use Rattle.std.specs.Prelude.{All, IfSome, Option, Some, None, slice_get}
use Rattle.std.specs.List.{range_with_len, sum_by}
use Rattle.std.specs.Option.{option_map}
use Rattle.std.proofs.lemmas.Bool.{cases_eq, cases_lt, lt-ltb, le-ltb}
use Rattle.std.proofs.lemmas.List.{get_or-map, length-map, take_all}
use Rattle.std.proofs.lemmas.List.FromFn.{length-range_with_len, get_or-map-range_with_len}
use Rattle.std.proofs.lemmas.List.Sums.{sum_by_more, sum_by-cons}
use Rattle.std.proofs.lemmas.Option.{get_or_from_slice_get}
use Rattle.rv_gate.specs.declared.gate.Shape.{Shape}
use Rattle.rv_blif.specs.Logic.{Logic, Node, Output, IsLogic, signal_count}
use Rattle.rv_blif.specs.declared.product.Product.{Product}
use Rattle.rv_blif.proofs.NodeLaws.{AreNodes-at}
use Rattle.rv_compute.specs.declared.place.Place.{Place}
use Rattle.rv_compute.specs.declared.place.Place.TheVariants.{Line}
use Rattle.rv_compute.specs.Bounds.{line_bound, node_bound, gate_bound}
use Rattle.rv_compute.specs.inside.Places.{place_at, IsBeside, AreBeside, AreThere}
use Rattle.rv_compute.specs.inside.Blocks.{Adds}
use Rattle.rv_compute.specs.inside.Held.{held_at, due, Stands, IsFree, IsChange, IsPlaceFor, ArePlacesFor}
use Rattle.rv_compute.specs.inside.Own.{own_line, own_place, own_places, word_bound, AddsNode, AddsOutput, Own, OwnBack}
use Rattle.rv_compute.proofs.inside.Adding.{few_append}
use Rattle.rv_compute.proofs.inside.Signals.{place_line, read_first}
use Rattle.rv_compute.proofs.inside.Standing.{place_within, stands_put, change_add, change_back, change_copy}
use Rattle.rv_compute.proofs.inside.Ends.{first_at, first_stands}

-- ---- the lines

pub own_before : (logic : Logic) (signal : ℕ) → signal < length logic.inputs → own_line logic signal ≡ signal
own_before logic signal lt =
    ap (λ t. cond t signal (signal + length logic.outputs)) (lt-ltb signal (length logic.inputs) lt)

pub own_after : (logic : Logic) (signal : ℕ) → length logic.inputs ≤ signal
    → own_line logic signal ≡ signal + length logic.outputs
own_after logic signal le =
    ap (λ t. cond t signal (signal + length logic.outputs)) (le-ltb signal (length logic.inputs) le)

pub own_free : (logic : Logic) (signal : ℕ) → signal < signal_count logic
    → (own_line logic signal < line_bound logic) × IsFree logic (own_line logic signal)
own_free logic signal lt =
    elim (cases_lt signal (length logic.inputs)) [
      | inl input ↦ (let e = own_before logic signal input in (omega arith, inl (omega arith)))
      | inr node ↦ (let e = own_after logic signal node in (omega arith, inr (omega arith)))
    ]

-- two signals, two lines
pub own_apart : (logic : Logic) (a b : ℕ) → a ≢ b → own_line logic a ≢ own_line logic b
own_apart logic a b ne same =
    elim (cases_lt a (length logic.inputs)) [
      | inl x ↦
          (let ea = own_before logic a x in
          elim (cases_lt b (length logic.inputs)) [
            | inl y ↦ (let eb = own_before logic b y in ne (omega arith))
            | inr y ↦ (let eb = own_after logic b y in omega arith)
          ])
      | inr x ↦
          (let ea = own_after logic a x in
          elim (cases_lt b (length logic.inputs)) [
            | inl y ↦ (let eb = own_before logic b y in omega arith)
            | inr y ↦ (let eb = own_after logic b y in ne (omega arith))
          ])
    ]

-- none is an output's
pub own_no_output : (logic : Logic) (signal line : ℕ) → length logic.inputs ≤ line
    → line < length logic.inputs + length logic.outputs → own_line logic signal ≢ line
own_no_output logic signal line ge lt same =
    elim (cases_lt signal (length logic.inputs)) [
      | inl x ↦ (let e = own_before logic signal x in omega arith)
      | inr x ↦ (let e = own_after logic signal x in omega arith)
    ]

pub if_some : {A : Type 0} → (P : A → Type 0) (o : Option A) (x : A) → o ≡ Some x → IfSome o P → P x
if_some P o x is h = subst (λ (t : Option _). IfSome t P) is h

pub all_one : {A : Type 0} → (P : A → Type 0) (x : A) → P x → All P (x ∷ [])
all_one P x h zero d lt = h
all_one P x h (suc j) d lt = absurd (omega arith)

-- ---- products are added

own_at : (logic : Logic) (signals : List ℕ) (operand : ℕ) → operand < length signals
    → place_at (own_places logic signals) operand ≡ own_place logic (get_or signals operand 0)
own_at logic signals operand lt = get_or-map (own_place logic) signals operand 0 None lt

pub own_there : (logic : Logic) (signals : List ℕ) → AreThere (own_places logic signals)
own_there logic signals operand lt none =
    let here = own_at logic signals operand (omega (arith, length-map signals (own_place logic))) in cc

pub own_beside : (logic : Logic) (signals : List ℕ) (target : ℕ) → All (λ signal. signal < signal_count logic) signals
    → All (λ signal. own_line logic signal ≢ target) signals → AreBeside (line_bound logic) target (own_places logic signals)
own_beside logic signals target there apart operand place at =
    let within = place_within (own_places logic signals) operand place at in
    let lt : operand < length signals = omega (arith, length-map signals (own_place logic)) in
    let signal : ℕ = get_or signals operand 0 in
    let both : Some (Line (own_line logic signal) true) ≡ Some place = sym (own_at logic signals operand lt) ∙ at in
    let is : Line (own_line logic signal) true ≡ place = cc in
    subst (λ (p : Place). IsBeside (line_bound logic) target p) is
    ((own_free logic signal (there operand 0 lt)).0, apart operand 0 lt)

are_places : (logic : Logic) (held : List (Option ℕ)) (made target : ℕ) (signals : List ℕ)
    → length held ≡ line_bound logic → made ≤ length logic.nodes
    → ((signal : ℕ) → signal < length logic.inputs + made → held_at held (own_line logic signal) ≡ Some signal)
    → All (λ signal. signal < length logic.inputs + made) signals → All (λ signal. own_line logic signal ≢ target) signals
    → ArePlacesFor logic held target signals (own_places logic signals)
are_places logic held made target signals size le own there apart = record {
  count = length-map signals (own_place logic);
  each = λ operand place at.
      let within = place_within (own_places logic signals) operand place at in
      let lt : operand < length signals = omega (arith, length-map signals (own_place logic)) in
      let signal : ℕ = get_or signals operand 0 in
      let below : signal < length logic.inputs + made = there operand 0 lt in
      let free = own_free logic signal (omega arith) in
      let both : Some (Line (own_line logic signal) true) ≡ Some place =
      sym (own_at logic signals operand lt) ∙ at in
      let is : Line (own_line logic signal) true ≡ place = cc in
      subst (λ (p : Place). IsPlaceFor logic held target signal p) is
      (place_line logic held target signal signal (own_line logic signal) true (read_first logic signal)
      (record { there = (let f = free.0 in omega arith); free = free.1; holds = own signal below })
      (apart operand 0 lt));
}

own_stands : (logic : Logic) (copied made count target : ℕ) (gates block : List Shape) (signals : List ℕ)
    (products : List Product) (old new : Option ℕ) → (h : Own logic copied made count gates)
    → made ≤ length logic.nodes → All (λ signal. signal < length logic.inputs + made) signals
    → All (λ signal. own_line logic signal ≢ target) signals
    → Adds (line_bound logic) (own_places logic signals) target products block → target < line_bound logic
    → held_at h.held target ≡ old → IsChange logic signals products old new
    → Stands logic (length logic.nodes) (set h.held target new) (gates ++ block)
own_stands logic copied made count target gates block signals products old new h le there apart adds lt at change =
    stands_put logic (length logic.nodes) h.held gates block target products signals (own_places logic signals) old new
    h.stands (are_places logic h.held made target signals h.stands.count le h.own there apart)
    (subst (λ (l : ℕ). Adds l (own_places logic signals) target products block) (sym h.stands.count) adds)
    (let e = h.stands.count in omega arith) at change

-- ---- nodes

pub word_bound-more : (logic : Logic) (k : ℕ) (node : Node) → k < length logic.nodes
    → node ≡ get_or logic.nodes k node → word_bound logic (k + 1) ≡ word_bound logic k + 2 ^ length node.operands
word_bound-more logic k node lt is =
    sum_by_more (λ (n : Node). 2 ^ length n.operands) logic.nodes k node lt
    ∙ ap (λ (n : Node). word_bound logic k + 2 ^ length n.operands) (sym is)

operands_before : (logic : Logic) (k : ℕ) (node : Node) → IsLogic logic → k < length logic.nodes
    → node ≡ get_or logic.nodes k node → All (λ signal. signal < length logic.inputs + k) node.operands
operands_before logic k node valid lt is =
    subst (λ (n : Node). All (λ signal. signal < length logic.inputs + k) n.operands) (sym is)
    (AreNodes-at (length logic.inputs) logic.nodes k node valid.nodes lt).operands

pub operands_there : (logic : Logic) (k : ℕ) (node : Node) → IsLogic logic → k < length logic.nodes
    → node ≡ get_or logic.nodes k node → All (λ signal. signal < signal_count logic) node.operands
operands_there logic k node valid lt is j d jl =
    let b : get_or node.operands j d < length logic.inputs + k = operands_before logic k node valid lt is j d jl in
    omega arith

pub operands_apart : (logic : Logic) (k : ℕ) (node : Node) → IsLogic logic → k < length logic.nodes
    → node ≡ get_or logic.nodes k node
    → All (λ signal. own_line logic signal ≢ own_line logic (length logic.inputs + k)) node.operands
operands_apart logic k node valid lt is j d jl =
    let b : get_or node.operands j d < length logic.inputs + k = operands_before logic k node valid lt is j d jl in
    own_apart logic (get_or node.operands j d) (length logic.inputs + k) (λ e. omega arith)

pub own_add : (logic : Logic) (copied k count next : ℕ) (old new : List Shape) → IsLogic logic
    → copied ≤ length logic.outputs → k < length logic.nodes → next + word_bound logic k ≡ count + word_bound logic (k + 1)
    → Own logic copied k count old → AddsNode logic k old new → Own logic copied (k + 1) next new
own_add logic copied k count next old new valid few lt counts h a =
    let signal : ℕ = length logic.inputs + k in
    let target : ℕ = own_line logic signal in
    let et : target ≡ signal + length logic.outputs = own_after logic signal (omega arith) in
    let size = h.stands.count in
    let more = word_bound-more logic k a.node lt a.is in
    let enough = a.few in
    let is : List (Option ℕ) = set h.held target (Some signal) in
    subst (λ (g : List Shape). Own logic copied (k + 1) next g) (sym a.adds.gates_are) (record {
      held = is;
      stands =
          own_stands logic copied k count target old a.adds.block a.node.operands a.products None (Some signal) h
          (omega arith) (operands_before logic k a.node valid lt a.is) (operands_apart logic k a.node valid lt a.is)
          a.adds.adds (omega arith) (h.no_node target (omega arith) (omega arith))
          (change_add logic k signal a.node None None a.products valid refl lt a.is refl a.sum);
      own = λ s below.
          elim (cases_eq s signal) [
            | inl e ↦
                (ap (λ t. held_at is (own_line logic t)) e
                ∙ get_or-set_same h.held target (Some signal) None (omega arith) ∙ ap Some (sym e))
            | inr ne ↦
                (get_or-set_other h.held target (own_line logic s) (Some signal) None (own_apart logic s signal ne)
                ∙ h.own s (omega arith))
          ];
      copies = λ line ge below.
          get_or-set_other h.held target line (Some signal) None (λ e. omega arith) ∙ h.copies line ge below;
      no_output = λ line ge below.
          get_or-set_other h.held target line (Some signal) None (λ e. omega arith) ∙ h.no_output line ge below;
      no_node = λ line ge below.
          get_or-set_other h.held target line (Some signal) None (λ e. omega arith) ∙ h.no_node line (omega arith) below;
      few = few_append (line_bound logic) count (length a.products) next old a.adds.block h.few a.adds.few (omega arith);
    })

pub own_back : (logic : Logic) (copied k count next : ℕ) (old new : List Shape) → IsLogic logic
    → copied ≤ length logic.outputs → k < length logic.nodes → next + word_bound logic k ≡ count + word_bound logic (k + 1)
    → Own logic copied (k + 1) count old → AddsNode logic k old new → Own logic copied k next new
own_back logic copied k count next old new valid few lt counts h a =
    let signal : ℕ = length logic.inputs + k in
    let target : ℕ = own_line logic signal in
    let et : target ≡ signal + length logic.outputs = own_after logic signal (omega arith) in
    let size = h.stands.count in
    let more = word_bound-more logic k a.node lt a.is in
    let enough = a.few in
    let is : List (Option ℕ) = set h.held target None in
    subst (λ (g : List Shape). Own logic copied k next g) (sym a.adds.gates_are) (record {
      held = is;
      stands =
          own_stands logic copied (k + 1) count target old a.adds.block a.node.operands a.products (Some signal) None h
          (omega arith)
          (λ j d jl.
          let b : get_or a.node.operands j d < signal = operands_before logic k a.node valid lt a.is j d jl in
          omega arith)
          (operands_apart logic k a.node valid lt a.is)
          a.adds.adds (omega arith) (h.own signal (omega arith))
          (change_back logic a.node.operands a.products None (Some signal)
          (change_add logic k signal a.node None None a.products valid refl lt a.is refl a.sum));
      own = λ s below.
          get_or-set_other h.held target (own_line logic s) None None (own_apart logic s signal (λ e. omega arith))
          ∙ h.own s (omega arith);
      copies = λ line ge below.
          get_or-set_other h.held target line None None (λ e. omega arith) ∙ h.copies line ge below;
      no_output = λ line ge below.
          get_or-set_other h.held target line None None (λ e. omega arith) ∙ h.no_output line ge below;
      no_node = λ line ge below.
          elim (cases_eq line target) [
            | inl e ↦ (ap (held_at is) e ∙ get_or-set_same h.held target None None (omega arith))
            | inr ne ↦
                (get_or-set_other h.held target line None None ne ∙ h.no_node line (omega arith) below)
          ];
      few = few_append (line_bound logic) count (length a.products) next old a.adds.block h.few a.adds.few (omega arith);
    })

-- ---- outputs

due_output : (logic : Logic) (p : ℕ) (output : Output) → slice_get logic.outputs p ≡ Some output
    → due logic (length logic.inputs + p) ≡ Some output.signal
due_output logic p output is =
    let line : ℕ = length logic.inputs + p in
    let back : line - length logic.inputs ≡ p = omega arith in
    let there : Option ℕ = option_map (λ (o : Output). o.signal) (slice_get logic.outputs (line - length logic.inputs)) in
    ap (λ t. cond t (Some line) there) (le-ltb line (length logic.inputs) (omega arith))
    ∙ ap (λ k. option_map (λ (o : Output). o.signal) (slice_get logic.outputs k)) back
    ∙ ap (option_map (λ (o : Output). o.signal)) is

pub output_there : (logic : Logic) (p : ℕ) (output : Output) → IsLogic logic → p < length logic.outputs
    → slice_get logic.outputs p ≡ Some output → output.signal < signal_count logic
output_there logic p output valid lt is =
    subst (λ (o : Output). o.signal < signal_count logic) (get_or_from_slice_get logic.outputs p output output is)
    (valid.outputs p output lt)

pub own_copy : (logic : Logic) (p count : ℕ) (old new : List Shape) → IsLogic logic → p < length logic.outputs
    → Own logic p (length logic.nodes) count old → AddsOutput logic p old new
    → Own logic (p + 1) (length logic.nodes) (count + 1) new
own_copy logic p count old new valid lt h a =
    let signal : ℕ = a.output.signal in
    let target : ℕ = length logic.inputs + p in
    let size = h.stands.count in
    let below = output_there logic p a.output valid lt a.is in
    let apart = own_no_output logic signal target (omega arith) (omega arith) in
    let is : List (Option ℕ) = set h.held target (Some signal) in
    subst (λ (g : List Shape). Own logic (p + 1) (length logic.nodes) (count + 1) g) (sym a.adds.gates_are) (record {
      held = is;
      stands =
          own_stands logic p (length logic.nodes) count target old a.adds.block (signal ∷ []) (a.product ∷ []) None
          (Some signal) h (omega arith) (all_one (λ s. s < length logic.inputs + length logic.nodes) signal below)
          (all_one (λ s. own_line logic s ≢ target) signal apart)
          a.adds.adds (omega arith) (h.no_output target (omega arith) (omega arith))
          (change_copy logic signal a.product a.care a.want);
      own = λ s sl.
          get_or-set_other h.held target (own_line logic s) (Some signal) None
          (own_no_output logic s target (omega arith) (omega arith))
          ∙ h.own s sl;
      copies = λ line ge sl.
          elim (cases_eq line target) [
            | inl e ↦
                (ap (held_at is) e ∙ get_or-set_same h.held target (Some signal) None (omega arith)
                ∙ sym (due_output logic p a.output a.is) ∙ ap (due logic) (sym e))
            | inr ne ↦
                (get_or-set_other h.held target line (Some signal) None ne ∙ h.copies line ge (omega arith))
          ];
      no_output = λ line ge sl.
          get_or-set_other h.held target line (Some signal) None (λ e. omega arith) ∙ h.no_output line (omega arith) sl;
      no_node = λ line ge sl.
          get_or-set_other h.held target line (Some signal) None (λ e. omega arith) ∙ h.no_node line ge sl;
      few = few_append (line_bound logic) count 1 (count + 1) old a.adds.block h.few a.adds.few (omega arith);
    })

-- ---- the beginning and the end

pub own_first : (logic : Logic) → Own logic 0 0 (word_bound logic 0) []
own_first logic =
    let n : ℕ = length logic.inputs in
    let lines : ℕ = line_bound logic in
    let held : List (Option ℕ) = map (first_at n) (range_with_len 0 lines) in
    let size : length held ≡ lines = length-map (range_with_len 0 lines) (first_at n) ∙ length-range_with_len 0 lines in
    let first : (line : ℕ) → line < lines → held_at held line ≡ first_at n line =
    λ line lt. get_or-map-range_with_len (first_at n) 0 lines line line None lt (omega arith) in
    let none : (line : ℕ) → n ≤ line → line < lines → held_at held line ≡ None =
    λ line ge lt. first line lt ∙ ap (λ t. cond t (Some line) None) (le-ltb line n ge) in
    record {
      held = held;
      stands =
          first_stands logic (length logic.nodes) held lines (omega arith) (record { count_is = size; each = first })
          (omega arith);
      own = λ s lt.
          ap (held_at held) (own_before logic s (omega arith)) ∙ first s (omega arith)
          ∙ ap (λ t. cond t (Some s) None) (lt-ltb s n (omega arith));
      copies = λ line ge lt. absurd (omega arith);
      no_output = λ line ge lt. none line (omega arith) (omega arith);
      no_node = λ line ge lt. none line (omega arith) lt;
      few = record { few = omega arith; fit = λ k d lt. absurd (omega arith) };
    }

twice : (nodes : List Node) → sum_by node_bound nodes ≡ 2 * sum_by (λ (node : Node). 2 ^ length node.operands) nodes
twice [] = refl
twice (node ∷ nodes) =
    let a = sum_by-cons node_bound node nodes in
    let b = sum_by-cons (λ (n : Node). 2 ^ length n.operands) node nodes in
    let c = twice nodes in
    omega arith

pub gates_in_all : (logic : Logic)
    → 2 * word_bound logic (length logic.nodes) + length logic.outputs ≡ gate_bound logic
gates_in_all logic =
    let all : word_bound logic (length logic.nodes) ≡ sum_by (λ (node : Node). 2 ^ length node.operands) logic.nodes =
    ap (sum_by (λ (node : Node). 2 ^ length node.operands)) (take_all (length logic.nodes) logic.nodes (omega arith)) in
    let double = twice logic.nodes in
    omega arith

-- a node less
pub back_more : (logic : Logic) (i : ℕ) (old new : List Shape) → IsLogic logic → i < length logic.nodes
    → OwnBack logic (length logic.nodes - i) old → AddsNode logic (length logic.nodes - 1 - i) old new
    → OwnBack logic (length logic.nodes - (i + 1)) new
back_more logic i old new valid lt h a =
    let k : ℕ = length logic.nodes - 1 - i in
    let one : length logic.nodes - i ≡ k + 1 = omega arith in
    let less : k ≡ length logic.nodes - (i + 1) = omega arith in
    let here : k < length logic.nodes = omega arith in
    let words : ℕ = 2 ^ length a.node.operands in
    let more : word_bound logic (k + 1) ≡ word_bound logic k + words = word_bound-more logic k a.node here a.is in
    let old_is : h.count + word_bound logic (k + 1) ≡ 2 * word_bound logic (length logic.nodes) + length logic.outputs =
    ap (λ m. h.count + word_bound logic m) (sym one) ∙ h.is in
    subst (λ (m : ℕ). OwnBack logic m new) less (record {
      count = h.count + words;
      is = omega arith;
      stands =
          own_back logic (length logic.outputs) k h.count (h.count + words) old new valid (omega arith) here (omega arith)
          (subst (λ (m : ℕ). Own logic (length logic.outputs) m h.count old) one h.stands) a;
    })

pub back_all : (logic : Logic) (i : ℕ) (gates : List Shape) → length logic.nodes ≤ i
    → OwnBack logic (length logic.nodes - i) gates → Own logic (length logic.outputs) 0 (gate_bound logic) gates
back_all logic i gates le h =
    let none : length logic.nodes - i ≡ 0 = omega arith in
    let is : h.count + word_bound logic 0 ≡ gate_bound logic =
    ap (λ m. h.count + word_bound logic m) (sym none) ∙ h.is ∙ gates_in_all logic in
    let start : word_bound logic 0 ≡ 0 = refl in
    let all : h.count ≡ gate_bound logic = omega arith in
    subst (λ (n : ℕ). Own logic (length logic.outputs) 0 n gates) all
    (subst (λ (m : ℕ). Own logic (length logic.outputs) m h.count gates) none h.stands)
