-- Functions joined, by cases and by a bit of the input word.
use Rattle.std.proofs.Common.{◌≡◌, ℕ, zero, suc, ◌+◌, ◌<◌, Bool, true, false, cond, not, ◌&&◌, List, [], ◌∷◌, ◌++◌, length, slice_get, Some, refl, sym, ap, ◌∙◌, arith, length-append}
use Rattle.std.proofs.Math.Bool.{beq}
use Rattle.rv_gate.specs.Word.{bit_of}
use Rattle.rv_gate.specs.Gate.{xor}
use Rattle.rv_gate.proofs.Bits.{xor_comm, xor_assoc, xor_same, xor_false}
use Rattle.rv_diagram.specs.declared.edge.Edge.{Edge}
use Rattle.rv_diagram.specs.declared.edge.Node.{Node}
use Rattle.rv_diagram.specs.declared.operation.Halves.{Halves}
use Rattle.rv_diagram.specs.declared.operation.Known.{Known}
use Rattle.rv_diagram.specs.declared.operation.Pair.{Pair}
use Rattle.rv_diagram.specs.declared.operation.Split.{Split}
use Rattle.rv_diagram.specs.declared.operation.Operation.{Operation}
use Rattle.rv_diagram.specs.declared.operation.Operation.TheVariants.{And, Xor}
use Rattle.rv_diagram.specs.Diagram.{value, turned_by, operate, branch_value, IsEdge, IsBranch, IsRight, IsDiagram, IsNumberOf, IsJoined, IsHalved, IsSplit, IsNormal, Keeps}
use Rattle.rv_diagram.proofs.Values.{value_turned, value_constant, value_branch, keeps_push, keeps_self, value_push, AreBranches-push, AreBranches-at, all_right_on}

-- ---- bits

true_and : (b : Bool) → b ≡ (true && b)
true_and b = refl

and_true : (b : Bool) → b ≡ (b && true)
and_true true = refl
and_true false = refl

and_false : (b : Bool) → false ≡ (b && false)
and_false true = refl
and_false false = refl

and_self : (b : Bool) → b ≡ (b && b)
and_self true = refl
and_self false = refl

and_apart : (b s t : Bool) → beq s t ≡ false → false ≡ (xor b s && xor b t)
and_apart true true true h = absurd cc
and_apart true true false h = refl
and_apart true false true h = refl
and_apart true false false h = absurd cc
and_apart false true true h = absurd cc
and_apart false true false h = refl
and_apart false false true h = refl
and_apart false false false h = absurd cc

beq_same : (s t : Bool) → beq s t ≡ true → s ≡ t
beq_same true true h = refl
beq_same true false h = absurd cc
beq_same false true h = absurd cc
beq_same false false h = refl

pub not_beq : (s t : Bool) → not (beq s t) ≡ xor s t
not_beq true true = refl
not_beq true false = refl
not_beq false true = refl
not_beq false false = refl

xor_twice : (b s t : Bool) → xor s t ≡ xor (xor b s) (xor b t)
xor_twice true true true = refl
xor_twice true true false = refl
xor_twice true false true = refl
xor_twice true false false = refl
xor_twice false true true = refl
xor_twice false true false = refl
xor_twice false false true = refl
xor_twice false false false = refl

xor_plain : (a b s t : Bool) → xor a b ≡ xor (xor (xor a s) (xor b t)) (xor s t)
xor_plain true true true true = refl
xor_plain true true true false = refl
xor_plain true true false true = refl
xor_plain true true false false = refl
xor_plain true false true true = refl
xor_plain true false true false = refl
xor_plain true false false true = refl
xor_plain true false false false = refl
xor_plain false true true true = refl
xor_plain false true true false = refl
xor_plain false true false true = refl
xor_plain false true false false = refl
xor_plain false false true true = refl
xor_plain false false true false = refl
xor_plain false false false true = refl
xor_plain false false false false = refl

-- a choice turned
turned_choice : (c h l t : Bool) → xor (cond c (xor h t) (xor l t)) t ≡ cond c h l
turned_choice true h l t = xor_assoc h t t ∙ ap (xor h) (xor_same t) ∙ xor_false h
turned_choice false h l t = xor_assoc l t t ∙ ap (xor l) (xor_same t) ∙ xor_false l

choice_turned : (c h l t : Bool) → xor (cond c h l) t ≡ cond c (xor h t) (xor l t)
choice_turned true h l t = refl
choice_turned false h l t = refl

-- ---- an edge to one node or another

pub zero_value : (nodes : List Node) (e : Edge) (x : List Bool) → e.node ≡ 0 → value nodes e x ≡ e.turned
zero_value nodes e x z = ap (λ n. value nodes (record { node = n; turned = e.turned }) x) z ∙ value_constant nodes e.turned x

-- the function of an edge's node
abbrev upright : Edge → Edge
upright e = record { node = e.node; turned = false }

as_turned : (nodes : List Node) (e : Edge) (x : List Bool) → value nodes e x ≡ xor (value nodes (upright e) x) e.turned
as_turned nodes e x = ap (λ b. value nodes (record { node = e.node; turned = b }) x) (false_left e.turned) ∙ value_turned nodes (upright e) e.turned x
  where
    false_left : (b : Bool) → b ≡ xor false b
    false_left true = refl
    false_left false = refl

same_node : (nodes : List Node) (f g : Edge) (x : List Bool) → f.node ≡ g.node → value nodes g x ≡ xor (value nodes (upright f) x) g.turned
same_node nodes f g x is = as_turned nodes g x ∙ ap (λ n. xor (value nodes (record { node = n; turned = false }) x) g.turned) (sym is)

-- ---- where one is constant or they are one node

abbrev zero_edge : Edge
zero_edge = record { node = 0; turned = false }

pub and_one_left : (nodes : List Node) (f g : Edge) → f.node ≡ 0 → f.turned ≡ true → IsEdge nodes g → IsJoined nodes nodes And f g g
and_one_left nodes f g z t is = record { edge = is; value = λ x. rw (zero_value nodes f x z, t) refl }

pub and_zero_left : (nodes : List Node) (f g : Edge) → f.node ≡ 0 → f.turned ≡ false → IsJoined nodes nodes And f g zero_edge
and_zero_left nodes f g z t = record { edge = omega arith; value = λ x. rw (zero_value nodes f x z, t) (value_constant nodes false x) }

pub and_one_right : (nodes : List Node) (f g : Edge) → g.node ≡ 0 → g.turned ≡ true → IsEdge nodes f → IsJoined nodes nodes And f g f
and_one_right nodes f g z t is = record { edge = is; value = λ x. rw (zero_value nodes g x z, t) (and_true (value nodes f x)) }

pub and_zero_right : (nodes : List Node) (f g : Edge) → g.node ≡ 0 → g.turned ≡ false → IsJoined nodes nodes And f g zero_edge
and_zero_right nodes f g z t = record {
  edge = omega arith;
  value = λ x. rw (zero_value nodes g x z, t) (value_constant nodes false x ∙ and_false (value nodes f x));
}

pub and_opposite : (nodes : List Node) (f g : Edge) → f.node ≡ g.node → beq f.turned g.turned ≡ false → IsJoined nodes nodes And f g zero_edge
and_opposite nodes f g is apart = record {
  edge = omega arith;
  value = λ x.
      rw (as_turned nodes f x, same_node nodes f g x is) (value_constant nodes false x ∙ and_apart (value nodes (upright f) x) f.turned g.turned apart);
}

pub xor_left : (nodes : List Node) (f g e : Edge) → f.node ≡ 0 → IsEdge nodes g → e ≡ turned_by g f.turned → IsJoined nodes nodes Xor f g e
xor_left nodes f g e z is at = record {
  edge = rw at is;
  value = λ x. rw (at, zero_value nodes f x z) (value_turned nodes g f.turned x ∙ xor_comm (value nodes g x) f.turned);
}

pub xor_right : (nodes : List Node) (f g e : Edge) → g.node ≡ 0 → IsEdge nodes f → e ≡ turned_by f g.turned → IsJoined nodes nodes Xor f g e
xor_right nodes f g e z is at = record { edge = rw at is; value = λ x. rw (at, zero_value nodes g x z) (value_turned nodes f g.turned x) }

pub xor_one_node : (nodes : List Node) (f g e : Edge) → f.node ≡ g.node → e ≡ turned_by zero_edge (not (beq f.turned g.turned)) → IsJoined nodes nodes Xor f g e
xor_one_node nodes f g e is at = record {
  edge = rw at (omega arith);
  value = λ x.
      rw (at, as_turned nodes f x, same_node nodes f g x is)
      (value_turned nodes zero_edge (not (beq f.turned g.turned)) x
      ∙ ap (λ b. xor b (not (beq f.turned g.turned))) (value_constant nodes false x)
      ∙ false_xor (not (beq f.turned g.turned))
      ∙ not_beq f.turned g.turned
      ∙ xor_twice (value nodes (upright f) x) f.turned g.turned);
}
  where
    false_xor : (b : Bool) → xor false b ≡ b
    false_xor true = refl
    false_xor false = refl

-- ---- one pair for many

pub plain_xor : (f g : Edge) (pair : Pair) → pair.f ≡ turned_by f f.turned → pair.g ≡ turned_by g g.turned → pair.turned ≡ not (beq f.turned g.turned) → IsNormal Xor f g pair
plain_xor f g pair at_f at_g t =
    let node_f : pair.f.node ≡ f.node = ap (λ (e : Edge). e.node) at_f in
    let node_g : pair.g.node ≡ g.node = ap (λ (e : Edge). e.node) at_g in
    record {
      some_f = λ a b. omega arith;
      some_g = λ a b. omega arith;
      sum = omega arith;
      within_f = λ nodes a b. omega arith;
      within_g = λ nodes a b. omega arith;
      value = λ nodes x.
          rw (at_f, at_g, t, value_turned nodes f f.turned x, value_turned nodes g g.turned x, not_beq f.turned g.turned)
          (xor_plain (value nodes f x) (value nodes g x) f.turned g.turned);
    }

-- ---- nodes

pub diagram_push : (old new : List Node) (node : Node) (known : List Known) (done : Bool) → IsDiagram old known → IsBranch (length old + 1) node
    → new ≡ cond done (old ++ node ∷ []) old → IsDiagram new known
diagram_push old new node known true is branch at =
    let place : length old + 1 ≡ 1 + length old = omega arith in
    rw at (record {
      branches = AreBranches-push 1 old node is.branches (rw place at branch);
      right = all_right_on old (old ++ node ∷ []) known (keeps_push old node) is.right;
    })
diagram_push old new node known false is branch at = rw at is

pub keeps_if : (old new : List Node) (node : Node) (done : Bool) → new ≡ cond done (old ++ node ∷ []) old → Keeps old new
keeps_if old new node true at = rw at (keeps_push old node)
keeps_if old new node false at = rw at (keeps_self old)

pub number_push : (old new : List Node) (node : Node) (number : ℕ) → IsBranch (length old + 1) node → number ≡ length old + 1 → new ≡ old ++ node ∷ [] → IsNumberOf new node number
number_push old new node number branch is at =
    let k = keeps_push old node in
    rw at (record {
      within = omega (arith, length-append old (node ∷ []));
      value = λ turned x.
          value_push old node number turned x is
          ∙ ap (λ b. xor b turned) (rw (k.same node.high x (omega (arith, branch.high)), k.same node.low x (omega (arith, branch.low))) refl);
    })

pub number_at : (nodes : List Node) (known : List Known) (k : ℕ) (node : Node) (number : ℕ) → IsDiagram nodes known → number ≡ k + 1 → slice_get nodes k ≡ Some node → k < length nodes
    → IsNumberOf nodes node number
number_at nodes known k node number is at there lt = record {
  within = omega arith;
  value = λ turned x.
      ap (λ n. value nodes (record { node = n; turned = turned }) x) at ∙ value_branch nodes k node turned x is.branches there;
}

pub below_length : {A : Type 0} (xs : List A) (k : ℕ) (x : A) → slice_get xs k ≡ Some x → k < length xs
below_length [] k x at = absurd cc
below_length (y ∷ xs) zero x at = omega arith
below_length (y ∷ xs) (suc k) x at = omega (arith, below_length xs k x at)

pub branch_at : (nodes : List Node) (known : List Known) (k : ℕ) (node : Node) (number : ℕ) → IsDiagram nodes known → number ≡ k + 1 → slice_get nodes k ≡ Some node → IsBranch number node
branch_at nodes known k node number is at there =
    let place : number ≡ 1 + k = omega arith in
    rw place (AreBranches-at 1 nodes k node is.branches there)

-- ---- a branch

pub branch_by : (old new : List Node) (number input : ℕ) (low high : Edge) (node : Node) → IsEdge old low → IsEdge old high → Keeps old new
    → node ≡ record { input = input; low = turned_by low low.turned; high = turned_by high low.turned } → IsNumberOf new node number
    → (x : List Bool) → value new (record { node = number; turned = low.turned }) x ≡ cond (bit_of x input) (value old high x) (value old low x)
branch_by old new number input low high node is_low is_high k at is x =
    is.value low.turned x
    ∙ ap (λ (n : Node). xor (branch_value new n x) low.turned) at
    ∙ rw (value_turned new low low.turned x, value_turned new high low.turned x, k.same low x is_low, k.same high x is_high) refl
    ∙ turned_choice (bit_of x input) (value old high x) (value old low x) low.turned

-- ---- halves

pub halved_by : (nodes : List Node) (node : Node) (e : Edge) (input : ℕ) (halves : Halves) → IsBranch e.node node → IsNumberOf nodes node e.node → node.input ≡ input
    → halves.low ≡ turned_by node.low e.turned → halves.high ≡ turned_by node.high e.turned → IsHalved nodes node e input halves
halved_by nodes node e input halves branch is at is_low is_high =
    let low : halves.low.node ≡ node.low.node = ap (λ (f : Edge). f.node) is_low in
    let high : halves.high.node ≡ node.high.node = ap (λ (f : Edge). f.node) is_high in
    record {
      low = omega (arith, branch.low);
      high = omega (arith, branch.high);
      lower = λ _. (omega (arith, branch.low), omega (arith, branch.high));
      value = λ x.
          is.value e.turned x
          ∙ choice_turned (bit_of x node.input) (value nodes node.high x) (value nodes node.low x) e.turned
          ∙ rw (is_low, is_high, value_turned nodes node.low e.turned x, value_turned nodes node.high e.turned x, at) refl;
    }

-- ---- joining

pub turned_joined : (old new : List Node) (op : Operation) (f g e made : Edge) (pair : Pair) → IsNormal op f g pair → IsJoined old new op pair.f pair.g e → made ≡ turned_by e pair.turned
    → IsJoined old new op f g made
turned_joined old new op f g e made pair normal is at = record {
  edge = rw at is.edge;
  value = λ x.
      rw at (value_turned new e pair.turned x) ∙ ap (λ b. xor b pair.turned) (is.value x) ∙ sym (normal.value old x);
}

operate_choice : (op : Operation) (c f_high f_low g_high g_low : Bool)
    → cond c (operate op f_high g_high) (operate op f_low g_low) ≡ operate op (cond c f_high f_low) (cond c g_high g_low)
operate_choice op true f_high f_low g_high g_low = refl
operate_choice op false f_high f_low g_high g_low = refl

pub split_joined : (start first second last : List Node) (op : Operation) (f g low high e : Edge) (split : Split) → IsEdge start f → IsEdge start g → IsSplit start f g split
    → Keeps start first → IsJoined start first op split.f.low split.g.low low
    → Keeps first second → IsJoined first second op split.f.high split.g.high high
    → Keeps second last → IsEdge last e
    → ((x : List Bool) → value last e x ≡ cond (bit_of x split.input) (value second high x) (value second low x))
    → IsJoined start last op f g e
split_joined start first second last op f g low high e split is_f is_g s k1 is_low k2 is_high k3 is_e at = record {
  edge = is_e;
  value = λ x.
      at x
      ∙ rw (k2.same low x is_low.edge, is_low.value x, is_high.value x, k1.same split.f.high x (omega (arith, s.f_high)), k1.same split.g.high x (omega (arith, s.g_high))) refl
      ∙ operate_choice op (bit_of x split.input) (value start split.f.high x) (value start split.f.low x) (value start split.g.high x) (value start split.g.low x)
      ∙ rw (s.f_value x, s.g_value x) refl;
}

-- an answer that is kept
pub known_right : (start last : List Node) (op : Operation) (f g e : Edge) → Keeps start last → IsEdge start f → IsEdge start g → IsJoined start last op f g e
    → IsRight last (record { operation = op; f = f; g = g; answer = e })
known_right start last op f g e k is_f is_g is = record {
  f = omega (arith, k.longer);
  g = omega (arith, k.longer);
  answer = is.edge;
  value = λ x. is.value x ∙ rw (k.same f x is_f, k.same g x is_g) refl;
}

pub known_joined : (nodes : List Node) (known : Known) (op : Operation) (f g : Edge) → IsRight nodes known → known.operation ≡ op → known.f ≡ f → known.g ≡ g → IsJoined nodes nodes op f g known.answer
known_joined nodes known op f g is at_op at_f at_g = record {
  edge = is.answer;
  value = λ x. is.value x ∙ rw (at_op, at_f, at_g) refl;
}

pub blank_right : IsRight [] (record { operation = And; f = zero_edge; g = zero_edge; answer = zero_edge })
blank_right = record { f = omega arith; g = omega arith; answer = omega arith; value = λ x. rw (value_constant [] false x) refl }
