-- What edges stand for, as a diagram grows.
use Rattle.std.proofs.Common.{◌≡◌, ℕ, zero, suc, ◌+◌, ◌<◌, Bool, true, false, cond, List, [], ◌∷◌, ◌++◌, length, get_or, slice_get, All, Some, refl, sym, ap, ◌∙◌, arith, length-append}
use Rattle.std.proofs.lemmas.List.{get_or_append_left}
use Rattle.std.proofs.Math.Seq.{get_or-append_seam}
use Rattle.rv_gate.specs.Word.{bit_of}
use Rattle.rv_gate.specs.Gate.{xor}
use Rattle.rv_gate.proofs.Bits.{xor_assoc}
use Rattle.rv_diagram.specs.declared.edge.Edge.{Edge}
use Rattle.rv_diagram.specs.declared.edge.Node.{Node}
use Rattle.rv_diagram.specs.declared.operation.Known.{Known}
use Rattle.rv_diagram.specs.Diagram.{node_bit, with_nodes, node_bits, value, turned_by, IsBranch, AreBranches, IsRight, Keeps}

-- ---- the bits of nodes

-- what stands before nodes stays
stable : (x : List Bool) (nodes : List Node) (bits : List Bool) (i : ℕ) → i < length bits → bit_of (with_nodes x nodes bits) i ≡ bit_of bits i
stable x [] bits i lt = refl
stable x (node ∷ nodes) bits i lt =
    let here = node_bit x bits node in
    stable x nodes (bits ++ here ∷ []) i (omega (arith, length-append bits (here ∷ [])))
    ∙ get_or_append_left bits (here ∷ []) false i lt

length-with_nodes : (x : List Bool) (nodes : List Node) (bits : List Bool) → length (with_nodes x nodes bits) ≡ length bits + length nodes
length-with_nodes x [] bits = omega arith
length-with_nodes x (node ∷ nodes) bits =
    let here = node_bit x bits node in
    omega (arith, length-with_nodes x nodes (bits ++ here ∷ []), length-append bits (here ∷ []))

with_nodes-push : (x : List Bool) (nodes : List Node) (node : Node) (bits : List Bool)
    → with_nodes x (nodes ++ node ∷ []) bits ≡ with_nodes x nodes bits ++ node_bit x (with_nodes x nodes bits) node ∷ []
with_nodes-push x [] node bits = refl
with_nodes-push x (first ∷ nodes) node bits = with_nodes-push x nodes node (bits ++ node_bit x bits first ∷ [])

-- a node looks at those to which it leads
looks_at : (x : List Bool) (node : Node) (bits more : List Bool) (before : ℕ) → IsBranch before node → ((i : ℕ) → i < before → bit_of more i ≡ bit_of bits i)
    → node_bit x more node ≡ node_bit x bits node
looks_at x node bits more before is same = rw (same node.high.node is.high, same node.low.node is.low) refl

branch_bit : (x : List Bool) (nodes : List Node) (bits : List Bool) → AreBranches (length bits) nodes → (k : ℕ) (node : Node) → slice_get nodes k ≡ Some node
    → bit_of (with_nodes x nodes bits) (length bits + k) ≡ node_bit x (with_nodes x nodes bits) node
branch_bit x [] bits are k node at = absurd cc
branch_bit x (first ∷ nodes) bits are zero node at =
    let here = node_bit x bits first in
    let longer = length-append bits (here ∷ []) in
    let is : first ≡ node = cc in
    let place : length bits + 0 ≡ length bits = omega arith in
    ap (bit_of (with_nodes x nodes (bits ++ here ∷ []))) place
    ∙ stable x nodes (bits ++ here ∷ []) (length bits) (omega (arith, longer))
    ∙ get_or-append_seam bits here [] false
    ∙ sym (looks_at x first bits (with_nodes x nodes (bits ++ here ∷ [])) (length bits) are.0
    (λ i lt. stable x nodes (bits ++ here ∷ []) i (omega (arith, longer)) ∙ get_or_append_left bits (here ∷ []) false i lt))
    ∙ ap (λ n. node_bit x (with_nodes x nodes (bits ++ here ∷ [])) n) is
branch_bit x (first ∷ nodes) bits are (suc k) node at =
    let here = node_bit x bits first in
    let longer : length (bits ++ here ∷ []) ≡ length bits + 1 = length-append bits (here ∷ []) in
    let place : length bits + suc k ≡ length (bits ++ here ∷ []) + k = omega (arith, longer) in
    ap (bit_of (with_nodes x nodes (bits ++ here ∷ []))) place ∙ branch_bit x nodes (bits ++ here ∷ []) (rw longer are.1) k node at

-- ---- edges

pub value_turned : (nodes : List Node) (e : Edge) (by : Bool) (x : List Bool) → value nodes (turned_by e by) x ≡ xor (value nodes e x) by
unfolding value
value_turned nodes e by x = sym (xor_assoc (bit_of (node_bits nodes x) e.node) e.turned by)

pub value_constant : (nodes : List Node) (turned : Bool) (x : List Bool) → value nodes (record { node = 0; turned = turned }) x ≡ turned
unfolding value node_bits
value_constant nodes turned x = rw (stable x nodes (false ∷ []) 0 (omega arith)) (constant turned)
  where
    constant : (b : Bool) → xor false b ≡ b
    constant true = refl
    constant false = refl

-- what an edge to a node stands for
pub value_branch : (nodes : List Node) (k : ℕ) (node : Node) (turned : Bool) (x : List Bool) → AreBranches 1 nodes → slice_get nodes k ≡ Some node
    → value nodes (record { node = k + 1; turned = turned }) x ≡ xor (cond (bit_of x node.input) (value nodes node.high x) (value nodes node.low x)) turned
unfolding value node_bits
value_branch nodes k node turned x are at =
    let place : k + 1 ≡ 1 + k = omega arith in
    ap (λ b. xor b turned) (ap (bit_of (with_nodes x nodes (false ∷ []))) place ∙ branch_bit x nodes (false ∷ []) are k node at)

-- ---- one node more

pub keeps_push : (nodes : List Node) (node : Node) → Keeps nodes (nodes ++ node ∷ [])
unfolding value node_bits
keeps_push nodes node = record {
  longer = omega (arith, length-append nodes (node ∷ []));
  same = λ e x is.
      let bits : List Bool = with_nodes x nodes (false ∷ []) in
      rw (with_nodes-push x nodes node (false ∷ []))
      (ap (λ b. xor b e.turned) (get_or_append_left bits (node_bit x bits node ∷ []) false e.node (omega (arith, length-with_nodes x nodes (false ∷ [])))));
}

pub value_push : (nodes : List Node) (node : Node) (number : ℕ) (turned : Bool) (x : List Bool) → number ≡ length nodes + 1
    → value (nodes ++ node ∷ []) (record { node = number; turned = turned }) x ≡ xor (cond (bit_of x node.input) (value nodes node.high x) (value nodes node.low x)) turned
unfolding value node_bits
value_push nodes node number turned x is =
    let bits : List Bool = with_nodes x nodes (false ∷ []) in
    let long : number ≡ length bits = omega (arith, length-with_nodes x nodes (false ∷ [])) in
    ap (λ b. xor b turned)
    (ap (λ w. bit_of w number) (with_nodes-push x nodes node (false ∷ []))
    ∙ ap (bit_of (bits ++ node_bit x bits node ∷ [])) long
    ∙ get_or-append_seam bits (node_bit x bits node) [] false)

pub AreBranches-push : (before : ℕ) (nodes : List Node) (node : Node) → AreBranches before nodes → IsBranch (before + length nodes) node → AreBranches before (nodes ++ node ∷ [])
AreBranches-push before [] node are is = (rw (let e : before + 0 ≡ before = omega arith in e) at is, tt)
AreBranches-push before (first ∷ nodes) node are is =
    let place : before + length (first ∷ nodes) ≡ before + 1 + length nodes = omega arith in
    (are.0, AreBranches-push (before + 1) nodes node are.1 (rw place at is))

pub AreBranches-at : (before : ℕ) (nodes : List Node) (k : ℕ) (node : Node) → AreBranches before nodes → slice_get nodes k ≡ Some node → IsBranch (before + k) node
AreBranches-at before [] k node are at = absurd cc
AreBranches-at before (first ∷ nodes) zero node are at =
    let is : first ≡ node = cc in
    rw (let e : before + 0 ≡ before = omega arith in e) (rw (sym is) are.0)
AreBranches-at before (first ∷ nodes) (suc k) node are at =
    rw (let e : before + suc k ≡ before + 1 + k = omega arith in e) (AreBranches-at (before + 1) nodes k node are.1 at)

-- ---- growing

pub keeps_self : (nodes : List Node) → Keeps nodes nodes
keeps_self nodes = record { longer = omega arith; same = λ e x is. refl }

pub keeps_on : (a b c : List Node) → Keeps a b → Keeps b c → Keeps a c
keeps_on a b c p q = record {
  longer = omega (arith, p.longer, q.longer);
  same = λ e x is. q.same e x (omega (arith, p.longer)) ∙ p.same e x is;
}

pub right_on : (old new : List Node) (known : Known) → Keeps old new → IsRight old known → IsRight new known
right_on old new known k is = record {
  f = omega (arith, k.longer, is.f);
  g = omega (arith, k.longer, is.g);
  answer = omega (arith, k.longer, is.answer);
  value = λ x. rw (k.same known.answer x is.answer, k.same known.f x is.f, k.same known.g x is.g) (is.value x);
}

pub all_right_on : (old new : List Node) (known : List Known) → Keeps old new → All (IsRight old) known → All (IsRight new) known
all_right_on old new known k are = λ i d lt. right_on old new (get_or known i d) k (are i d lt)
