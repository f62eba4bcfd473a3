-- The bits of a network's signals.
use Rattle.std.proofs.Common.{◌≡◌, ℕ, zero, suc, ◌≢◌, ◌+◌, ◌<◌, Bool, true, false, not, List, [], ◌∷◌, ◌++◌, length, map, get_or, refl, sym, subst, ◌∙◌, ap, arith, length-append}
use Rattle.std.specs.Prelude.{All, Option, Some, None}
use Rattle.std.proofs.Math.Bool.{beq}
use Rattle.std.proofs.lemmas.List.{get_or-map, length-map}
use Rattle.std.proofs.Math.Seq.{get_or-append_seam}
use Rattle.rv_gate.specs.Word.{bit_of}
use Rattle.rv_blif.specs.Logic.{Logic, Node, values, with_nodes, node_value, AreNodes, IsLogic}
use Rattle.rv_gate.specs.Gate.{same, xor}
use Rattle.rv_compute.specs.declared.place.Place.TheVariants.{Line, Constant}
use Rattle.rv_compute.specs.inside.Sums.{cover_value, start_value, PassesOn, IsStart}
use Rattle.rv_compute.specs.inside.Held.{held_value, StandsFree, IsSource, IsPlaceFor}
use Rattle.rv_blif.proofs.ValueLaws.{stable}

-- equal operands, equal words
same_operands : (f g : ℕ → Bool) (operands : List ℕ) (n : ℕ) → All (λ signal. signal < n) operands
    → ((i : ℕ) → i < n → f i ≡ g i) → map f operands ≡ map g operands
same_operands f g [] n below same = refl
same_operands f g (o ∷ rest) n below same =
    ap (λ b. b ∷ map f rest) (same o (below 0 0 (omega arith)))
    ∙ ap (λ r. g o ∷ r) (same_operands f g rest n (λ k d lt. below (suc k) d (omega arith)) same)

pub with_nodes-node : (nodes : List Node) (bits : List Bool) (k : ℕ) (d : Node) → AreNodes (length bits) nodes
    → k < length nodes
    → bit_of (with_nodes nodes bits) (length bits + k) ≡ node_value (get_or nodes k d) (with_nodes nodes bits)
with_nodes-node [] bits k d are lt = absurd (omega arith)
with_nodes-node (node ∷ rest) bits zero d are lt =
    let more : List Bool = bits ++ node_value node bits ∷ [] in
    let lm = length-append bits (node_value node bits ∷ []) in
    let at : length bits + 0 ≡ length bits = omega arith in
    ap (bit_of (with_nodes rest more)) at
    ∙ stable rest more (length bits) (omega arith)
    ∙ get_or-append_seam bits (node_value node bits) [] false
    ∙ ap (cover_value node)
    (same_operands (bit_of bits) (bit_of (with_nodes rest more)) node.operands (length bits) are.0.operands
    (λ i il. sym (stable (node ∷ rest) bits i il)))
with_nodes-node (node ∷ rest) bits (suc k) d are lt =
    let more : List Bool = bits ++ node_value node bits ∷ [] in
    let lm = length-append bits (node_value node bits ∷ []) in
    let size : length bits + 1 ≡ length more = omega arith in
    let at : length bits + suc k ≡ length more + k = omega arith in
    let P : ℕ → Type 0 = λ n. AreNodes n rest in
    ap (bit_of (with_nodes rest more)) at ∙ with_nodes-node rest more k d (subst P size are.1) (omega arith)

-- the bit of a node by the bits of its operands
pub node_bit : (logic : Logic) (x : List Bool) (k : ℕ) (d : Node) → IsLogic logic → length x ≡ length logic.inputs
    → k < length logic.nodes
    → bit_of (values logic x) (length logic.inputs + k)
    ≡ cover_value (get_or logic.nodes k d) (map (bit_of (values logic x)) (get_or logic.nodes k d).operands)
unfolding values
node_bit logic x k d valid len lt =
    let P : ℕ → Type 0 = λ n. AreNodes n logic.nodes in
    ap (λ n. bit_of (with_nodes logic.nodes x) (n + k)) (sym len)
    ∙ with_nodes-node logic.nodes x k d (subst P (sym len) valid.nodes) lt

-- the bits of the inputs
pub input_bit : (logic : Logic) (x : List Bool) (i : ℕ) → i < length x → bit_of (values logic x) i ≡ bit_of x i
unfolding values
input_bit logic x i lt = stable logic.nodes x i lt

-- ---- nodes that pass on a signal

-- the bit of an operand, or none
pub start_bit : (operands : List ℕ) (start source : Option ℕ) (bits : List Bool) → IsStart operands start source
    → start_value start (map (bit_of bits) operands) ≡ held_value bits source
start_bit operands None source bits begins = ap (held_value bits) (sym begins)
start_bit operands (Some operand) source bits begins =
    get_or-map (bit_of bits) operands operand 0 false begins.0 ∙ ap (held_value bits) (sym begins.1)

pub source_is : (logic : Logic) (signal k : ℕ) (node : Node) (start source : Option ℕ) (changed : Bool) → IsLogic logic
    → signal ≡ length logic.inputs + k → k < length logic.nodes → node ≡ get_or logic.nodes k node
    → IsStart node.operands start source → PassesOn node start changed → IsSource logic signal changed source
source_is logic signal k node start source changed valid es lt is begins pass = record {
  value = λ x len.
      let f : ℕ → Bool = bit_of (values logic x) in
      ap f es ∙ node_bit logic x k node valid len lt
      ∙ ap (λ (t : Node). cover_value t (map f t.operands)) (sym is)
      ∙ pass.value (map f node.operands) (length-map node.operands f)
      ∙ ap (λ b. xor b changed) (start_bit node.operands start source (values logic x) begins);
}

-- a signal by another one that was gone back to
pub record IsReadBy (logic : Logic) (signal at : ℕ) (on : Bool) : Type 0 where
  pub value : (x : List Bool) → length x ≡ length logic.inputs
      → bit_of (values logic x) signal ≡ same (bit_of (values logic x) at) on

pub read_first : (logic : Logic) (signal : ℕ) → IsReadBy logic signal signal true
read_first logic signal = record { value = λ x len. sym (by_true (bit_of (values logic x) signal)) }
  where
    by_true : (b : Bool) → same b true ≡ b
    by_true true = refl
    by_true false = refl

same-xor : (a on changed : Bool) → same (xor a changed) on ≡ same a (not (beq on changed))
same-xor true true true = refl
same-xor true true false = refl
same-xor true false true = refl
same-xor true false false = refl
same-xor false true true = refl
same-xor false true false = refl
same-xor false false true = refl
same-xor false false false = refl

same-none : (on changed : Bool) → same (xor false changed) on ≡ beq on changed
same-none true true = refl
same-none true false = refl
same-none false true = refl
same-none false false = refl

pub read_back : (logic : Logic) (signal at source : ℕ) (on changed : Bool) → IsReadBy logic signal at on
    → IsSource logic at changed (Some source) → IsReadBy logic signal source (not (beq on changed))
read_back logic signal at source on changed so_far back = record {
  value = λ x len.
      so_far.value x len ∙ ap (λ b. same b on) (back.value x len)
      ∙ same-xor (bit_of (values logic x) source) on changed;
}

pub place_none : (logic : Logic) (held : List (Option ℕ)) (target signal at : ℕ) (on changed : Bool)
    → IsReadBy logic signal at on → IsSource logic at changed None
    → IsPlaceFor logic held target signal (Constant (beq on changed))
place_none logic held target signal at on changed so_far back = record {
  beside = tt;
  value = λ x word len tells.
      sym (so_far.value x len ∙ ap (λ b. same b on) (back.value x len) ∙ same-none on changed);
}

pub place_line : (logic : Logic) (held : List (Option ℕ)) (target signal at line : ℕ) (on : Bool)
    → IsReadBy logic signal at on → StandsFree logic held at line → line ≢ target
    → IsPlaceFor logic held target signal (Line line on)
place_line logic held target signal at line on so_far stands apart = record {
  beside = (stands.there, apart);
  value = λ x word len tells.
      ap (λ b. same b on)
      (tells line stands.there stands.free ∙ ap (held_value (values logic x)) stands.holds)
      ∙ sym (so_far.value x len);
}
