-- The reduced list keeps the value, is no longer, and is settled.
use Rattle.std.proofs.Common.{◌≡◌, ℕ, ◌<◌, ◌≤◌, Bool, List, length, refl, sym, ◌∙◌, ap, subst, arith}
use Rattle.std.specs.Prelude.{Some, All, option_map}
use Rattle.rv_pla.specs.declared.cube.Cube.{Cube}
use Rattle.rv_cube.specs.Esop.{esop_value, IsTerm}
use Rattle.rv_cube.specs.Reduction.{first_step, IsSettled, reduced, changed, found_step}
use Rattle.rv_cube.specs.declared.step.Step.{Step}
use Rattle.rv_cube.proofs.inside.Merges.{Kept}
use Rattle.rv_cube.proofs.Searches.{finds_map}
use Rattle.rv_cube.proofs.Steps.{found_good}
use Rattle.rv_cube.proofs.Turns.{Lowers, repeated_keeps, repeated_settles, repeated_once, repeated_end}

pub step_kept : (n outputs : ℕ) (cubes next : List Cube) → first_step n cubes ≡ Some next → Kept n outputs cubes next
step_kept n outputs cubes = finds_map (changed n cubes) (Kept n outputs cubes) (found_step n cubes) (found_good n outputs cubes)

shortens : (n : ℕ) → Lowers (first_step n) length
shortens n cubes next e = (step_kept n 0 cubes next e).shorter

pub record Reduced (n outputs : ℕ) (old new : List Cube) : Type 0 where
  pub value_kept : (word : List Bool) → length word ≡ n → esop_value new word ≡ esop_value old word
  pub no_longer : length new ≤ length old
  pub valid : All (IsTerm n outputs) old → All (IsTerm n outputs) new
  pub settled : IsSettled n new

reduced_is : (n outputs : ℕ) (cubes : List Cube) → Reduced n outputs cubes (reduced n cubes)
reduced_is n outputs cubes =
    let Value : List Cube → Type 0 = λ l. (word : List Bool) → length word ≡ n → esop_value l word ≡ esop_value cubes word in
    let Few : List Cube → Type 0 = λ l. length l ≤ length cubes in
    record {
      value_kept = repeated_keeps Value (first_step n)
          (λ l x e h word len. (step_kept n outputs l x e).value_kept word len ∙ h word len) (length cubes) cubes (λ word len. refl);
      no_longer = repeated_keeps Few (first_step n) (λ l x e h. let s = shortens n l x e in omega arith) (length cubes) cubes (omega arith);
      valid = repeated_keeps (All (IsTerm n outputs)) (first_step n) (λ l x e h. (step_kept n outputs l x e).valid h) (length cubes) cubes;
      settled = repeated_settles (first_step n) length (shortens n) (length cubes) cubes (omega arith);
    }

pub is_reduced : (n outputs : ℕ) (old new : List Cube) → new ≡ reduced n old → Reduced n outputs old new
is_reduced n outputs old new e = let P : List Cube → Type 0 = λ l. Reduced n outputs old l in subst P (sym e) (reduced_is n outputs old)

-- one turn of the loop
pub found_shorter : (n : ℕ) (cubes : List Cube) (x : Step) → found_step n cubes ≡ Some x → length (changed n cubes x) < length cubes
found_shorter n cubes x e = (found_good n 0 cubes x e).shorter

pub reduced_once : (n : ℕ) (cubes : List Cube) (x : Step) → found_step n cubes ≡ Some x → reduced n (changed n cubes x) ≡ reduced n cubes
reduced_once n cubes x e = repeated_once (first_step n) length (shortens n) cubes (changed n cubes x) (ap (option_map (changed n cubes)) e)

pub reduced_end : (n : ℕ) (cubes : List Cube) → IsSettled n cubes → reduced n cubes ≡ cubes
reduced_end n cubes e = repeated_end (first_step n) (length cubes) cubes e
