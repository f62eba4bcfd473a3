-- The bit of each node is that of its cover.
use Rattle.std.proofs.Common.{◌≡◌, ℕ, zero, suc, ◌+◌, ◌<◌, Bool, false, List, [], ◌∷◌, ◌++◌, length, get_or, slice_get, map, Some, refl, sym, ap, ◌∙◌, arith, length-append}
use Rattle.std.proofs.lemmas.List.{get_or_append_left}
use Rattle.std.proofs.Math.Seq.{get_or-append_seam}
use Rattle.rv_gate.specs.Word.{bit_of}
use Rattle.rv_gate.specs.Gate.{same}
use Rattle.rv_blif.specs.Logic.{Logic, Node, any_holds, node_value, values, with_nodes, AreNodes, IsLogic, IsNode}

-- what stands before nodes stays
pub stable : (nodes : List Node) (bits : List Bool) (i : ℕ) → i < length bits → bit_of (with_nodes nodes bits) i ≡ bit_of bits i
stable [] bits i lt = refl
stable (node ∷ nodes) bits i lt =
    let value = node_value node bits in
    stable nodes (bits ++ value ∷ []) i (omega (arith, length-append bits (value ∷ [])))
    ∙ get_or_append_left bits (value ∷ []) false i lt

same_bits : (signals : List ℕ) (xs ys : List Bool) → ((k : ℕ) (d : ℕ) → k < length signals → bit_of xs (get_or signals k d) ≡ bit_of ys (get_or signals k d))
    → map (bit_of xs) signals ≡ map (bit_of ys) signals
same_bits [] xs ys same = refl
same_bits (s ∷ signals) xs ys same =
    let here : bit_of xs s ≡ bit_of ys s = same 0 0 (omega arith) in
    let rest = same_bits signals xs ys (λ k d lt. same (suc k) d (omega arith)) in
    (λ i. here i ∷ rest i)

-- a node looks at its operands alone
looks_at : (node : Node) (bits more : List Bool) → IsNode (length bits) node → ((i : ℕ) → i < length bits → bit_of more i ≡ bit_of bits i)
    → node_value node more ≡ node_value node bits
looks_at node bits more is kept =
    ap (λ word. same (any_holds node.products word) node.on) (same_bits node.operands more bits (λ k d lt. kept (get_or node.operands k d) (is.operands k d lt)))

pub node_bits : (nodes : List Node) (bits : List Bool) → AreNodes (length bits) nodes → (k : ℕ) (node : Node) → slice_get nodes k ≡ Some node
    → bit_of (with_nodes nodes bits) (length bits + k) ≡ node_value node (with_nodes nodes bits)
node_bits [] bits are k node at = absurd cc
node_bits (first ∷ nodes) bits are zero node at =
    let value = node_value first bits in
    let longer = length-append bits (value ∷ []) in
    let is : first ≡ node = cc in
    let here : length bits + 0 ≡ length bits = omega arith in
    ap (bit_of (with_nodes nodes (bits ++ value ∷ []))) here
    ∙ stable nodes (bits ++ value ∷ []) (length bits) (omega (arith, longer))
    ∙ get_or-append_seam bits value [] false
    ∙ sym (looks_at first bits (with_nodes nodes (bits ++ value ∷ [])) are.0
    (λ i lt. stable nodes (bits ++ value ∷ []) i (omega (arith, longer)) ∙ get_or_append_left bits (value ∷ []) false i lt))
    ∙ ap (λ n. node_value n (with_nodes nodes (bits ++ value ∷ []))) is
node_bits (first ∷ nodes) bits are (suc k) node at =
    let value = node_value first bits in
    let longer : length (bits ++ value ∷ []) ≡ length bits + 1 = length-append bits (value ∷ []) in
    let place : length bits + suc k ≡ length (bits ++ value ∷ []) + k = omega (arith, longer) in
    ap (bit_of (with_nodes nodes (bits ++ value ∷ []))) place ∙ node_bits nodes (bits ++ value ∷ []) (rw longer are.1) k node at

pub values_hold : (logic : Logic) (word : List Bool) → IsLogic logic → length word ≡ length logic.inputs → (k : ℕ) (node : Node) → slice_get logic.nodes k ≡ Some node
    → bit_of (values logic word) (length logic.inputs + k) ≡ node_value node (values logic word)
unfolding values
values_hold logic word is len k node at =
    ap (λ n. bit_of (with_nodes logic.nodes word) (n + k)) (sym len) ∙ node_bits logic.nodes word (rw len is.nodes) k node at
