-- Steps keep what is told of the lines true.
use Rattle.std.proofs.Common.{◌≡◌, ℕ, zero, suc, ◌+◌, ◌-◌, ◌<◌, Bool, true, false, List, [], ◌∷◌, ◌++◌, length, map, replicate, set, get_or, refl, sym, subst, ◌∙◌, ap, inl, inr, arith, length-append, get_or-set_same, get_or-set_other}
use Rattle.std.specs.Prelude.{Option, Some, None, Result, Ok, Err, IfOk, IfSome, is_some}
use Rattle.std.proofs.lemmas.Bool.{cases_eq, cases_lt}
use Rattle.std.proofs.lemmas.List.{length-replicate, length-map, get_or-map, get_or-replicate, get_or_append_left, get_or-append_right, get_or_past, length-set}
use Rattle.rv_gate.specs.Word.{bit_of}
use Rattle.rv_gate.specs.Gate.{run, holds, xor}
use Rattle.rv_gate.specs.declared.gate.Shape.{Shape}
use Rattle.rv_gate.proofs.Bits.{xor_assoc, false_xor}
use Rattle.rv_gate.proofs.inside.GateLemmas.{run-append, length-run}
use Rattle.rv_blif.specs.Logic.{Logic, Node, values, IsLogic}
use Rattle.rv_blif.specs.declared.product.Product.{Product}
use Rattle.rv_compute.specs.declared.place.Place.{Place}
use Rattle.rv_compute.specs.inside.Places.{place_at, AreRead}
use Rattle.rv_compute.specs.inside.Sums.{sum_of, cover_value, IsSum, IsStart, PassesOn}
use Rattle.rv_compute.specs.inside.Blocks.{Adds}
use Rattle.rv_compute.specs.inside.Held.{held_value, held_at, put_in, line_count, Stands, IsFree, Tells, ArePlacesFor, IsChange, IsExchanged, IsPutFor, IsSource}
use Rattle.rv_compute.proofs.inside.Signals.{node_bit, start_bit, source_is}

xor_self : (a b : Bool) → xor (xor a b) b ≡ a
xor_self true true = refl
xor_self true false = refl
xor_self false true = refl
xor_self false false = refl

pub length-put_in : (extra : ℕ) (x y : List Bool) → length (put_in extra x y) ≡ length x + length y + extra
length-put_in extra x y =
    omega (arith, length-append (x ++ y) (replicate extra false), length-append x y, length-replicate extra false)

-- lines that aren't outputs begin with 0 beside what is told of them
pub base_free : (logic : Logic) (extra : ℕ) (x y : List Bool) (line : ℕ) → length x ≡ length logic.inputs
    → length y ≡ length logic.outputs → line < line_count logic extra → IsFree logic line
    → bit_of (put_in extra (replicate (length x) false) y) line ≡ false
base_free logic extra x y line lx ly lt (inl input) =
    let zeros : List Bool = replicate (length x) false in
    let lz = length-replicate (length x) false in
    get_or_append_left (zeros ++ y) (replicate extra false) false line
    (omega (arith, length-append zeros y))
    ∙ get_or_append_left zeros y false line (omega arith)
    ∙ get_or-replicate (length x) line false false (omega arith)
base_free logic extra x y line lx ly lt (inr later) =
    let zeros : List Bool = replicate (length x) false in
    let lz = length-replicate (length x) false in
    let n = length logic.inputs + length logic.outputs in
    get_or-append_right (zeros ++ y) (replicate extra false) n line false
    (length-append zeros y ∙ omega arith) later
    ∙ get_or-replicate extra (line - n) false false (omega arith)

pub told : (logic : Logic) (extra : ℕ) (held : List (Option ℕ)) (gates : List Shape) (x y : List Bool)
    → Stands logic extra held gates → length x ≡ length logic.inputs → length y ≡ length logic.outputs
    → Tells logic held x (run gates (put_in extra x y))
told logic extra held gates x y stands lx ly line lt free =
    let within : line < line_count logic extra = let e = stands.count in omega arith in
    stands.each x y line lx ly within
    ∙ ap (λ b. xor b (held_value (values logic x) (held_at held line))) (base_free logic extra x y line lx ly within free)
    ∙ false_xor _

-- an operand that has a place is among the operands
pub place_within : (places : List (Option Place)) (operand : ℕ) (place : Place) → place_at places operand ≡ Some place
    → operand < length places
place_within places operand place at =
    elim (cases_lt operand (length places)) [
      | inl lt ↦ lt
      | inr past ↦ (let none : place_at places operand ≡ None = get_or_past places operand None past in cc)
    ]

pub stands_put : (logic : Logic) (extra : ℕ) (held : List (Option ℕ)) (gates block : List Shape) (target : ℕ)
    (products : List Product) (signals : List ℕ) (places : List (Option Place)) (old new : Option ℕ)
    → Stands logic extra held gates → ArePlacesFor logic held target signals places
    → Adds (length held) places target products block → target < length held → held_at held target ≡ old
    → IsChange logic signals products old new → Stands logic extra (set held target new) (gates ++ block)
stands_put logic extra held gates block target products signals places old new stands are adds lt at change = record {
  count = length-set held target new ∙ stands.count;
  each = λ x y line lx ly within.
      let f : ℕ → Bool = bit_of (values logic x) in
      let w : List Bool = run gates (put_in extra x y) in
      let bits : List Bool = map f signals in
      let size : length w ≡ length held =
      length-run gates (put_in extra x y) ∙ length-put_in extra x y ∙ (let e = stands.count in omega arith) in
      let as_many : length bits ≡ length places = length-map signals f ∙ sym are.count in
      let tells = told logic extra held gates x y stands lx ly in
      let read : AreRead places w bits =
      λ operand place is.
      (are.each operand place is).value x w lx tells
      ∙ sym (get_or-map f signals operand 0 false
      (let e = are.count in let b = place_within places operand place is in omega arith)) in
      let s : Bool = sum_of products bits in
      let base : Bool = bit_of (put_in extra (replicate (length x) false) y) line in
      ap (λ v. bit_of v line) (run-append gates block (put_in extra x y) ∙ adds.adds w bits size as_many read)
      ∙ (elim (cases_eq line target) [
        | inl here ↦
            (let there : target < length w = omega arith in
            let ends : held_at (set held target new) line ≡ new =
            ap (held_at (set held target new)) here ∙ get_or-set_same held target new None lt in
            ap (bit_of (set w target (xor (bit_of w target) s))) here
            ∙ get_or-set_same w target (xor (bit_of w target) s) false there
            ∙ ap (λ l. xor (bit_of w l) s) (sym here)
            ∙ ap (λ b. xor b s) (stands.each x y line lx ly within)
            ∙ xor_assoc base (held_value (values logic x) (held_at held line)) s
            ∙ ap (λ h. xor base (xor (held_value (values logic x) h) s)) (ap (held_at held) here ∙ at)
            ∙ ap (xor base) (sym (change.value x lx))
            ∙ ap (λ h. xor base (held_value (values logic x) h)) (sym ends))
        | inr other ↦
            (get_or-set_other w target line _ false other
            ∙ stands.each x y line lx ly within
            ∙ ap (λ h. xor base (held_value (values logic x) h))
            (sym (get_or-set_other held target line new None other)))
      ]);
}

-- ---- what a step changes

pub change_add : (logic : Logic) (k signal : ℕ) (node : Node) (start old : Option ℕ) (products : List Product)
    → IsLogic logic → signal ≡ length logic.inputs + k → k < length logic.nodes → node ≡ get_or logic.nodes k node
    → IsStart node.operands start old → IsSum node start products
    → IsChange logic node.operands products old (Some signal)
change_add logic k signal node start old products valid es lt is begins sum = record {
  value = λ x lx.
      let f : ℕ → Bool = bit_of (values logic x) in
      ap f es ∙ node_bit logic x k node valid lx lt
      ∙ ap (λ (t : Node). cover_value t (map f t.operands)) (sym is)
      ∙ sum.value (map f node.operands) (length-map node.operands f)
      ∙ ap (λ b. xor b (sum_of products (map f node.operands)))
      (start_bit node.operands start old (values logic x) begins);
}

pub change_back : (logic : Logic) (signals : List ℕ) (products : List Product) (old new : Option ℕ)
    → IsChange logic signals products old new → IsChange logic signals products new old
change_back logic signals products old new change = record {
  value = λ x lx.
      let s : Bool = sum_of products (map (bit_of (values logic x)) signals) in
      sym (ap (λ b. xor b s) (change.value x lx) ∙ xor_self (held_value (values logic x) old) s);
}

pub change_copy : (logic : Logic) (signal : ℕ) (product : Product) → product.care ≡ 1 → product.want ≡ 1
    → IsChange logic (signal ∷ []) (product ∷ []) None (Some signal)
unfolding sum_of holds
change_copy logic signal product care want = record {
  value = λ x lx.
      sym (ap (λ c. xor false (xor (holds c product.want (bit_of (values logic x) signal ∷ [])) false)) care
      ∙ ap (λ w. xor false (xor (holds 1 w (bit_of (values logic x) signal ∷ [])) false)) want
      ∙ one (bit_of (values logic x) signal));
}
  where
    one : (b : Bool) → xor false (xor (holds 1 1 (b ∷ [])) false) ≡ b
    one true = refl
    one false = refl

pub exchange : (logic : Logic) (signals : List ℕ) (products : List Product) (held one other next : Option ℕ)
    → IsExchanged held one other next → IsChange logic signals products one other
    → IsChange logic signals products held next
exchange logic signals products held one other next (inl (h, e)) change =
    let P : Option ℕ → Type 0 = λ t. IsChange logic signals products t next in
    let Q : Option ℕ → Type 0 = λ t. IsChange logic signals products one t in
    subst P (sym h) (subst Q (sym e) change)
exchange logic signals products held one other next (inr (h, e)) change =
    let P : Option ℕ → Type 0 = λ t. IsChange logic signals products t next in
    let Q : Option ℕ → Type 0 = λ t. IsChange logic signals products other t in
    subst P (sym h) (subst Q (sym e) (change_back logic signals products one other change))

-- what a step that may do nothing leaves
pub finish : {E : Type 0} (logic : Logic) (extra : ℕ) (held : List (Option ℕ)) (gates : List Shape) (target : ℕ)
    (products : List Product) (signals : List ℕ) (next : Option ℕ)
    (result : Result Bool E) (new_held : List (Option ℕ)) (new_gates : List Shape)
    → Stands logic extra held gates → target < length held
    → IsChange logic signals products (held_at held target) next
    → IfOk result (IsPutFor logic signals target products next held gates new_held new_gates)
    → IfOk result (λ _. Stands logic extra new_held new_gates)
finish logic extra held gates target products signals next (Ok true) new_held new_gates stands lt change put =
    let P : List (Option ℕ) → Type 0 = λ h. Stands logic extra h new_gates in
    let Q : List Shape → Type 0 = λ g. Stands logic extra (set held target next) g in
    subst P (sym put.puts.held_is)
    (subst Q (sym put.puts.gates_are)
    (stands_put logic extra held gates put.puts.block target products signals put.places (held_at held target) next stands
    put.are put.puts.adds lt refl change))
finish logic extra held gates target products signals next (Ok false) new_held new_gates stands lt change put =
    let P : List (Option ℕ) → Type 0 = λ h. Stands logic extra h new_gates in
    let Q : List Shape → Type 0 = λ g. Stands logic extra held g in
    subst P (sym put.0) (subst Q (sym put.1) stands)
finish logic extra held gates target products signals next (Err e) new_held new_gates stands lt change put = tt

-- an entry that is there, by any default
pub by_default : {A : Type 0} (xs : List A) (i : ℕ) (d e : A) → i < length xs → get_or xs i d ≡ get_or xs i e
by_default [] i d e lt = absurd (omega arith)
by_default (x ∷ xs) zero d e lt = refl
by_default (x ∷ xs) (suc i) d e lt = by_default xs i d e (omega arith)

pub source_if : (logic : Logic) (signal k : ℕ) (node : Node) (start : Option ℕ) (found : Option (Option ℕ))
    (changed : Bool) → IsLogic logic → signal ≡ length logic.inputs + k → k < length logic.nodes
    → node ≡ get_or logic.nodes k node → PassesOn node start changed → IfSome found (IsStart node.operands start)
    → IfSome found (IsSource logic signal changed)
source_if logic signal k node start None changed valid es lt is pass begins = tt
source_if logic signal k node start (Some source) changed valid es lt is pass begins =
    source_is logic signal k node start source changed valid es lt is begins pass

pub is_none : (o : Option ℕ) → is_some o ≡ false → o ≡ None
is_none None e = refl
is_none (Some x) e = cc
