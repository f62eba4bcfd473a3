-- The list reduced for a PLA is right for it, is no longer, and is settled for it.
use Rattle.std.proofs.Common.{◌≡◌, ℕ, ◌<◌, ◌≤◌, List, length, refl, sym, ◌∙◌, ap, subst, arith}
use Rattle.std.specs.Option.{option_or}
use Rattle.std.specs.Prelude.{Option, None, Some, All}
use Rattle.rv_gate.specs.Word.{has}
use Rattle.rv_pla.specs.declared.cube.Cube.{Cube}
use Rattle.rv_pla.specs.Pla.{TwoLevel, entry}
use Rattle.rv_pla.specs.FreeEntries.{allows}
use Rattle.rv_cube.specs.Esop.{IsTerm}
use Rattle.rv_cube.specs.Reduction.{first_step, reduced, IsSettled}
use Rattle.rv_cube.specs.ReductionFor.{IsRight, first_drop, first_step_for, IsSettledFor, weight, reduced_for}
use Rattle.rv_cube.proofs.inside.Dropping.{first_drop_is, drop_right, drop_valid, drop_lowers}
use Rattle.rv_cube.proofs.Reduced.{step_kept}
use Rattle.rv_cube.proofs.Turns.{Lowers, repeated_keeps, repeated_settles, repeated_once, repeated_end}

-- what a step leaves
pub record Goes (pla : TwoLevel) (outputs : ℕ) (old new : List Cube) : Type 0 where
  pub valid : All (IsTerm pla.inputs outputs) old → All (IsTerm pla.inputs outputs) new
  pub lowers : weight pla.outputs new < weight pla.outputs old
  pub no_longer : length new ≤ length old
  pub right : IsRight pla old → IsRight pla new

step_goes : (pla : TwoLevel) (outputs : ℕ) (cubes new : List Cube) → first_step pla.inputs cubes ≡ Some new → Goes pla outputs cubes new
step_goes pla outputs cubes new e =
    let k = step_kept pla.inputs outputs cubes new e in
    let less = k.shorter in
    let light = k.lighter pla.outputs in
    record {
      valid = k.valid;
      lowers = omega arith;
      no_longer = omega arith;
      right = λ right word len output lt. ap (λ n. allows (entry pla word output) (has n output)) (k.value_kept word len) ∙ right word len output lt;
    }

drop_goes : (pla : TwoLevel) (outputs : ℕ) (cubes new : List Cube) → first_drop pla cubes ≡ Some new → Goes pla outputs cubes new
drop_goes pla outputs cubes new e =
    let d = first_drop_is pla cubes new e in
    let l = drop_lowers pla cubes new d in
    record {
      valid = drop_valid pla.inputs outputs pla cubes new d;
      lowers = l.smaller;
      no_longer = l.no_longer;
      right = drop_right pla cubes new d;
    }

either_goes : (pla : TwoLevel) (outputs : ℕ) (cubes new : List Cube) (o p : Option (List Cube)) → first_step pla.inputs cubes ≡ o → first_drop pla cubes ≡ p → option_or o p ≡ Some new → Goes pla outputs cubes new
either_goes pla outputs cubes new (Some x) p eo ep e = step_goes pla outputs cubes new (eo ∙ e)
either_goes pla outputs cubes new None p eo ep e = drop_goes pla outputs cubes new (ep ∙ e)

pub goes : (pla : TwoLevel) (outputs : ℕ) (cubes new : List Cube) → first_step_for pla cubes ≡ Some new → Goes pla outputs cubes new
unfolding first_step_for
goes pla outputs cubes new e = either_goes pla outputs cubes new (first_step pla.inputs cubes) (first_drop pla cubes) refl refl e

lowers : (pla : TwoLevel) → Lowers (first_step_for pla) (weight pla.outputs)
lowers pla cubes next e = (goes pla 0 cubes next e).lowers

-- ---- one step after another

pub once_for : (pla : TwoLevel) (cubes new : List Cube) → first_step_for pla cubes ≡ Some new → reduced_for pla new ≡ reduced_for pla cubes
once_for pla cubes new e = repeated_once (first_step_for pla) (weight pla.outputs) (lowers pla) cubes new e

pub end_for : (pla : TwoLevel) (cubes : List Cube) → IsSettledFor pla cubes → reduced_for pla cubes ≡ cubes
end_for pla cubes e = repeated_end (first_step_for pla) (weight pla.outputs cubes) cubes e

kept_step : (pla : TwoLevel) (cubes new : List Cube) → first_step pla.inputs cubes ≡ Some new → first_step_for pla cubes ≡ Some new
unfolding first_step_for
kept_step pla cubes new e = ap (λ o. option_or o (first_drop pla cubes)) e

-- where the other steps are exhausted
pub drop_step : (pla : TwoLevel) (cubes : List Cube) → IsSettled pla.inputs cubes → first_step_for pla cubes ≡ first_drop pla cubes
unfolding first_step_for
drop_step pla cubes e = ap (λ o. option_or o (first_drop pla cubes)) e

-- the other steps come first
pub record Through (pla : TwoLevel) (old new : List Cube) : Type 0 where
  pub same : reduced_for pla new ≡ reduced_for pla old
  pub lowers : weight pla.outputs new ≤ weight pla.outputs old

through : (pla : TwoLevel) (cubes : List Cube) → Through pla cubes (reduced pla.inputs cubes)
through pla cubes =
    repeated_keeps (Through pla cubes) (first_step pla.inputs)
    (λ l x e h.
    let s = kept_step pla l x e in
    record {
      same = once_for pla l x s ∙ h.same;
      lowers = let a = lowers pla l x s in let b = h.lowers in omega arith;
    })
    (length cubes) cubes (record { same = refl; lowers = omega arith })

pub is_through : (pla : TwoLevel) (n : ℕ) (old new : List Cube) → n ≡ pla.inputs → new ≡ reduced n old → Through pla old new
is_through pla n old new en e = let P : List Cube → Type 0 = Through pla old in subst P (sym (e ∙ ap (λ k. reduced k old) en)) (through pla old)

-- ---- the reduced list

pub record ReducedFor (pla : TwoLevel) (outputs : ℕ) (old new : List Cube) : Type 0 where
  pub valid : All (IsTerm pla.inputs outputs) old → All (IsTerm pla.inputs outputs) new
  pub no_longer : length new ≤ length old
  pub right : IsRight pla old → IsRight pla new
  pub settled : IsSettledFor pla new

reduced_for_is : (pla : TwoLevel) (outputs : ℕ) (cubes : List Cube) → ReducedFor pla outputs cubes (reduced_for pla cubes)
reduced_for_is pla outputs cubes =
    let Few : List Cube → Type 0 = λ l. length l ≤ length cubes in
    record {
      valid = repeated_keeps (All (IsTerm pla.inputs outputs)) (first_step_for pla) (λ l x e h. (goes pla outputs l x e).valid h) (weight pla.outputs cubes) cubes;
      no_longer = repeated_keeps Few (first_step_for pla) (λ l x e h. let s = (goes pla outputs l x e).no_longer in omega arith) (weight pla.outputs cubes) cubes (omega arith);
      right = repeated_keeps (IsRight pla) (first_step_for pla) (λ l x e h. (goes pla outputs l x e).right h) (weight pla.outputs cubes) cubes;
      settled = repeated_settles (first_step_for pla) (weight pla.outputs) (lowers pla) (weight pla.outputs cubes) cubes (omega arith);
    }

pub is_reduced_for : (pla : TwoLevel) (outputs : ℕ) (old new : List Cube) → new ≡ reduced_for pla old → ReducedFor pla outputs old new
is_reduced_for pla outputs old new e = let P : List Cube → Type 0 = λ l. ReducedFor pla outputs old l in subst P (sym e) (reduced_for_is pla outputs old)
