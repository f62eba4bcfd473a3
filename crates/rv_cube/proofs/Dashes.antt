-- A step keeps the inputs that are `-` in every cube.
use Rattle.std.proofs.Common.{◌≡◌, ℕ, Bool, cond, eqb, List, [], ◌∷◌, length, set, ap, arith, ne_eqb}
use Rattle.std.proofs.lemmas.List.{get_or_past}
use Rattle.std.specs.Prelude.{Option, None, Some, nat_lt}
use Rattle.std.specs.List.{remove}
use Rattle.std.proofs.lemmas.Bool.{cond_both}
use Rattle.std.proofs.lemmas.List.Elements.{All-set}
use Rattle.std.proofs.lemmas.Nat.Bits.{bit_at-zero}
use Rattle.rv_gate.specs.Word.{has}
use Rattle.rv_pla.specs.Cube.{Dash, symbol, symbol_of}
use Rattle.rv_pla.specs.declared.cube.Cube.{Cube}
use Rattle.rv_cube.specs.Dashes.{IsDashed}
use Rattle.rv_cube.specs.Distance.{differing, with_third}
use Rattle.rv_cube.specs.Reduction.{no_cube, at, have_same_inputs, are_adjacent, merge_by, standing, merged, merged_any, changed, merge_at, first_merge, with_partner, form, exorlink_at_by, exorlink_at, found_step, first_step, reduced}
use Rattle.rv_cube.specs.declared.step.Step.{Step}
use Rattle.rv_cube.specs.declared.step.Step.TheVariants.{Merge, Exorlink}
use Rattle.rv_cube.proofs.inside.Merges.{All-remove}
use Rattle.rv_cube.proofs.Searches.{Finds, finds_else, finds_first, finds_none, finds_map, finds_pair, finds_if, finds_cond}
use Rattle.rv_cube.proofs.Symbols.{symbol_with-same, symbol_with-other}
use Rattle.rv_cube.proofs.Turns.{repeated_keeps}

abbrev pub IsDash : ℕ → Cube → Type 0
IsDash input cube = symbol cube input ≡ Dash

-- the cube that says nothing says nothing of an input
no_cube_dash : (input : ℕ) → IsDash input no_cube
no_cube_dash input = let z = bit_at-zero input in ap (λ b. symbol_of b (has 0 input)) (ne_eqb _ 1 (omega arith))

at_dash : (input : ℕ) (cubes : List Cube) (place : ℕ) → IsDashed input cubes → IsDash input (at cubes place)
at_dash input cubes place all = grind (arith, get_or_past, no_cube_dash)

third_dash : (input : ℕ) (a b : Cube) (p : ℕ) → IsDash input a → IsDash input b → IsDash input (with_third a b p)
unfolding with_third
third_dash input a b p ha hb = grind (arith, symbol_with-same, symbol_with-other)

-- what two cubes become, if anything
abbrev pub IsDashIn : ℕ → Option Cube → Type 0
IsDashIn input None = Unit {0}
IsDashIn input (Some cube) = IsDash input cube

standing_dash : (input : ℕ) (cubes : List Cube) (a : ℕ) (o : Option Cube) → IsDashIn input o → IsDashed input cubes → IsDashed input (standing cubes a o)
standing_dash input cubes a None h all = All-remove (IsDash input) cubes a all
standing_dash input cubes a (Some cube) h all = All-set (IsDash input) cubes a cube h all

both_dash : (input : ℕ) (x : Cube) (outs : ℕ) (t : Bool) → IsDash input x → IsDashIn input (cond t None (Some (record x { outs = outs })))
both_dash input x outs t h = grind arith

merge_dash : (input : ℕ) (ps : List ℕ) (x y : Cube) → IsDash input x → IsDash input y → IsDashIn input (merge_by ps x y)
merge_dash input ps x y h h2 = grind (arith, both_dash, third_dash)

merged_dash : (input n : ℕ) (cubes : List Cube) (a b : ℕ) → IsDashed input cubes → IsDashed input (merged n cubes a b)
unfolding merged
merged_dash input n cubes a b all =
    standing_dash input (remove cubes b) a _
    (merge_dash input (differing n (at cubes a) (at cubes b)) (at cubes a) (at cubes b) (at_dash input cubes a all) (at_dash input cubes b all))
    (All-remove (IsDash input) cubes b all)

merged_any_dash : (input n : ℕ) (cubes : List Cube) (a b : ℕ) → IsDashed input cubes → IsDashed input (merged_any n cubes a b)
merged_any_dash input n cubes a b all =
    cond_both (nat_lt a b) (merged n cubes a b) (merged n cubes b a) (IsDashed input) (λ e. merged_dash input n cubes a b all) (λ e. merged_dash input n cubes b a all)

-- what a step leaves
abbrev Leaves : ℕ → ℕ → List Cube → Step → Type 0
Leaves input n cubes step = IsDashed input (changed n cubes step)

merging_dash : (input n : ℕ) (test : Cube → Cube → Bool) (cubes : List Cube) → IsDashed input cubes → Finds (Leaves input n cubes) (first_merge test cubes)
merging_dash input n test cubes all =
    finds_pair (Leaves input n cubes) (merge_at test cubes) cubes
    (λ a b ab within. finds_if (Leaves input n cubes) (test (at cubes a) (at cubes b)) (Merge a b) (λ e. merged_dash input n cubes a b all))

form_dash : (input n : ℕ) (cubes : List Cube) (a b : ℕ) (x y : Cube) → IsDashed input cubes → IsDash input x → IsDash input y
    → Finds (Leaves input n cubes) (form n cubes a b x y)
form_dash input n cubes a b x y all hx hy = finds_else (Leaves input n cubes) _ _ (partner a x) (partner b y)
  where
    partner : (place : ℕ) (cube : Cube) → Finds (Leaves input n cubes) (with_partner n cubes a b x y place cube)
    partner place cube =
        finds_first (Leaves input n cubes) _ 0 (length cubes) (λ c l u. finds_if (Leaves input n cubes) _ (Exorlink a b x y place c)
        (λ e. merged_any_dash input n (set (set cubes a x) b y) place c (All-set (IsDash input) (set cubes a x) b y hy (All-set (IsDash input) cubes a x hx all))))

exorlink_by_dash : (input n : ℕ) (ps : List ℕ) (cubes : List Cube) (a b : ℕ) → IsDashed input cubes → Finds (Leaves input n cubes) (exorlink_at_by ps n cubes a b)
exorlink_by_dash input n (p ∷ q ∷ []) cubes a b all =
    let hx = at_dash input cubes a all in
    let hy = at_dash input cubes b all in
    finds_else (Leaves input n cubes) _ _
    (form_dash input n cubes a b _ _ all (third_dash input (at cubes a) (at cubes b) p hx hy) (third_dash input (at cubes b) (at cubes a) q hy hx))
    (form_dash input n cubes a b _ _ all (third_dash input (at cubes b) (at cubes a) p hy hx) (third_dash input (at cubes a) (at cubes b) q hx hy))
exorlink_by_dash input n o cubes a b all = finds_none (Leaves input n cubes)

step_dash : (input n : ℕ) (cubes : List Cube) → IsDashed input cubes → Finds (Leaves input n cubes) (found_step n cubes)
unfolding found_step
step_dash input n cubes all =
    finds_else (Leaves input n cubes) _ _ (merging_dash input n (have_same_inputs n) cubes all)
    (finds_else (Leaves input n cubes) _ _ (merging_dash input n (are_adjacent n) cubes all)
    (finds_pair (Leaves input n cubes) (exorlink_at n cubes) cubes
    (λ a b ab within. finds_cond (Leaves input n cubes) (eqb (at cubes a).outs (at cubes b).outs) _
    (λ e. exorlink_by_dash input n (differing n (at cubes a) (at cubes b)) cubes a b all))))

-- an input that is `-` in every cube is so in every cube of the reduced list
pub reduced_dashed : (input n : ℕ) (cubes : List Cube) → IsDashed input cubes → IsDashed input (reduced n cubes)
reduced_dashed input n cubes =
    repeated_keeps (IsDashed input) (first_step n)
    (λ l x e h. finds_map (changed n l) (IsDashed input) (found_step n l) (step_dash input n l h) x e) (length cubes) cubes
