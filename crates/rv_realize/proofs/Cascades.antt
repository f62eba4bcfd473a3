-- The cascade of a list of cubes gives what a table asks for which the list is right.
use Rattle.std.proofs.Common.{◌≡◌, ◌∙◌, ℕ, zero, suc, ◌+◌, ◌<◌, ◌≤◌, Bool, true, false, List, ◌++◌, length, replicate, ap, ap₂, sym, subst, arith, length-append}
use Rattle.std.specs.Prelude.{IsTrue}
use Rattle.std.proofs.lemmas.List.{length-replicate}
use Rattle.rv_gate.specs.Circuit.{Cascade}
use Rattle.rv_gate.specs.Gate.{run}
use Rattle.rv_gate.specs.Marks.{with_constants, without_garbage}
use Rattle.rv_gate.specs.Word.{bit_of, has}
use Rattle.rv_gate.specs.declared.circuit.Mark.TheVariants.{Input, Zero}
use Rattle.rv_gate.specs.declared.circuit.TheConstants.{MOST_GATES}
use Rattle.rv_gate.specs.declared.gate.Shape.{Shape}
use Rattle.rv_gate.proofs.Marks.{input_count-append, input_count-inputs, input_count-zeros, output_count-append, output_count-garbage, output_count-outputs, without_garbage-all, without_garbage-append, without_garbage-outputs, with_constants-filled}
use Rattle.rv_pla.specs.FreeEntries.{allows}
use Rattle.rv_pla.specs.Pla.{TwoLevel, entry}
use Rattle.rv_cube.specs.Esop.{Esop, esop_value}
use Rattle.rv_cube.specs.ReductionFor.{IsRight}
use Rattle.rv_embed.specs.Realizes.{Meets, Realizes}
use Rattle.rv_esop.specs.Cascade.{cascade_of, flip_count, xor_from, xor_set}
use Rattle.rv_esop.proofs.inside.Flips.{length-xor_from}
use Rattle.rv_gate.proofs.Bits.{false_xor}
use Rattle.rv_gate.proofs.NameLemmas.{length-numbered}
use Rattle.rv_gate.specs.Names.{numbered}
use Rattle.rv_realize.specs.Realized.{IsEmbeddable, IsRealized, IsTooLong, reduced_list}

-- what is added to zeros is what they hold then
added : (j n set k : ℕ) → k < n → bit_of (xor_from j (replicate n false) set) k ≡ has set (j + k)
unfolding xor_from
added j zero set k h = absurd (omega (arith, h))
added j (suc n) set zero h = false_xor (has set j) ∙ ap (has set) (omega arith)
added j (suc n) set (suc k) h = added (j + 1) n set k (omega (arith, h)) ∙ ap (has set) (omega arith)

-- the inputs are the garbage
left : (i o : ℕ) (x w : List Bool) → length x ≡ i → length w ≡ o → without_garbage (replicate i true ++ replicate o false) (x ++ w) ≡ w
left i o x w len wide =
    let garbage : Bool = true in
    without_garbage-append (replicate i true) (replicate o false) x w (len ∙ sym (length-replicate i garbage))
    ∙ ap₂ (λ (a b : List Bool). a ++ b) (without_garbage-all i x) (ap (λ n. without_garbage (replicate n false) w) (sym wide) ∙ without_garbage-outputs w)

cascade_realizes : (pla : TwoLevel) (list : Esop) (gates : List Shape) → list.inputs ≡ pla.inputs → list.outputs ≡ pla.outputs → IsRight pla list.cubes
    → ((x v : List Bool) → length x ≡ list.inputs → length v ≡ list.outputs → run gates (x ++ v) ≡ x ++ xor_set v (esop_value list.cubes x))
    → Realizes pla (run gates) (replicate pla.inputs Input ++ replicate pla.outputs Zero) (replicate pla.inputs true ++ replicate pla.outputs false)
cascade_realizes pla list gates inputs outputs right adds =
    let i : ℕ = pla.inputs in
    let o : ℕ = pla.outputs in
    let bit : Bool = false in
    let zeros : List Bool = replicate o bit in
    let value : List Bool → ℕ = esop_value list.cubes in
    let wide : (x : List Bool) → length (xor_set zeros (value x)) ≡ o = λ x. length-xor_from 0 zeros (value x) ∙ length-replicate o bit in record {
      inputs = input_count-append (replicate i Input) (replicate o Zero) ∙ omega (arith, input_count-inputs i, input_count-zeros o);
      outputs = output_count-append (replicate i true) (replicate o false) ∙ omega (arith, output_count-garbage i, output_count-outputs o);
      gives =
          λ x len.
          let answer : without_garbage (replicate i true ++ replicate o false) (run gates (with_constants (replicate i Input ++ replicate o Zero) x)) ≡ xor_set zeros (value x) =
          ap (λ (word : List Bool). without_garbage (replicate i true ++ replicate o false) (run gates word)) (with_constants-filled i o x len)
          ∙ ap (without_garbage (replicate i true ++ replicate o false)) (adds x zeros (len ∙ sym inputs) (length-replicate o bit ∙ sym outputs))
          ∙ left i o x (xor_set zeros (value x)) len (wide x) in
          let Allowed : ℕ → Bool → Type 0 = λ output bit. IsTrue (allows (entry pla x output) bit) in
          let meets : Meets pla x (xor_set zeros (value x)) = record {
            count = wide x;
            allowed = λ output lt. subst (Allowed output) (sym (added 0 o (value x) output lt ∙ ap (has (value x)) (omega arith))) (right x len output lt);
          } in
          subst (Meets pla x) (sym answer) meets;
    }

pub cascade_realized : (pla : TwoLevel) (most : ℕ) (list : Esop) (c : Cascade) → c ≡ cascade_of list → list.inputs ≡ pla.inputs → list.outputs ≡ pla.outputs
    → IsRight pla list.cubes
    → ((x v : List Bool) → length x ≡ list.inputs → length v ≡ list.outputs → run c.gates (x ++ v) ≡ x ++ xor_set v (esop_value list.cubes x))
    → pla.inputs + pla.outputs ≤ most → IsRealized pla most c
cascade_realized pla most list c is inputs outputs right adds few = record {
  realizes =
      rw (ap (λ (k : Cascade). k.constants) is, ap (λ (k : Cascade). k.garbage) is, inputs, outputs)
      (cascade_realizes pla list c.gates inputs outputs right adds);
  lines = omega (arith, ap (λ (k : Cascade). length k.names) is, length-append (numbered 120 list.inputs) (numbered 121 list.outputs), length-numbered 120 list.inputs, length-numbered 121 list.outputs, inputs, outputs, few);
}

pub too_long : (pla : TwoLevel) (most n : ℕ) (list : Esop) → ¬ IsEmbeddable pla → pla.inputs + pla.outputs ≤ most → list ≡ reduced_list pla
    → flip_count list ≡ n → MOST_GATES < n → IsTooLong pla most
too_long pla most n list alone beside is count over = record {
  alone = alone;
  beside = beside;
  over = subst (λ (cubes : Esop). MOST_GATES < flip_count cubes) is (subst (λ (k : ℕ). MOST_GATES < k) (sym count) over);
}
