-- The steps that reduce a list of cubes, in the manner of exorcism.
--
-- Places count from 0. Of the pairs a < b to which a step applies, that with the least a is taken, and of
-- these that with the least b.
use Rattle.std.specs.Prelude.{ℕ, zero, suc, ◌+◌, ◌-◌, ◌≡◌, ◌&&◌, ◌||◌, ◌==◌, Bool, not, List, [], ◌∷◌, length, if◌then◌else◌, bit_xor, Option, None, Some, option_map, slice_index_or, slice_set, nat_lt}
use Rattle.std.specs.List.{remove}
use Rattle.std.specs.Option.{option_map_or, option_or}
use Rattle.rv_gate.specs.FirstAnswer.{first}
use Rattle.rv_pla.specs.declared.cube.Cube.{Cube}
use Rattle.rv_cube.specs.Distance.{differing, distance, with_third}
use Rattle.rv_cube.specs.declared.step.Step.{Step}
use Rattle.rv_cube.specs.declared.step.Step.TheVariants.{Merge, Exorlink}

-- the cube that says nothing
abbrev pub no_cube : Cube
no_cube = record { care = 0; want = 0; outs = 0 }

abbrev pub at : List Cube → ℕ → Cube
at cubes place = slice_index_or cubes place no_cube

-- ---- two cubes become one

abbrev pub have_same_inputs : ℕ → Cube → Cube → Bool
have_same_inputs n x y = distance n x y == 0

-- the same outputs, and one input in which they differ
abbrev pub are_adjacent : ℕ → Cube → Cube → Bool
are_adjacent n x y = (x.outs == y.outs) && (distance n x y == 1)

abbrev pub can_merge : ℕ → Cube → Cube → Bool
can_merge n x y = have_same_inputs n x y || are_adjacent n x y

-- the cube, where it carries an output
abbrev pub carrying : Cube → Option Cube
carrying cube = if cube.outs == 0 then None else Some cube

-- by the inputs in which they differ: the third symbol at the only one, or the exclusive or of the outputs
abbrev pub merge_by : List ℕ → Cube → Cube → Option Cube
merge_by (p ∷ []) x y = Some (with_third x y p)
merge_by _ x y = carrying (record x { outs = bit_xor x.outs y.outs })

-- what two such cubes become
abbrev pub merge : ℕ → Cube → Cube → Option Cube
merge n x y = merge_by (differing n x y) x y

-- at a stands the cube, or nothing
abbrev pub standing : List Cube → ℕ → Option Cube → List Cube
standing cubes a None = remove cubes a
standing cubes a (Some cube) = slice_set cubes a cube

-- the list after the cubes at a < b became one: it stands at a, and the cube at b is gone
unfoldable pub merged : ℕ → List Cube → ℕ → ℕ → List Cube
merged n cubes a b = standing (remove cubes b) a (merge n (at cubes a) (at cubes b))

-- the same on places in any order
abbrev pub merged_any : ℕ → List Cube → ℕ → ℕ → List Cube
merged_any n cubes a b = if nat_lt a b then merged n cubes a b else merged n cubes b a

-- ---- the first that is found

-- the first answer to a pair of places a < b of a list
abbrev pub first_pair : {A : Type 0} → (ℕ → ℕ → Option A) → List Cube → Option A
first_pair f cubes = first (λ a. first (f a) (a + 1) (length cubes - (a + 1))) 0 (length cubes)

-- ---- what a step does

-- the list after a step
abbrev pub changed : ℕ → List Cube → Step → List Cube
changed n cubes (Merge a b) = merged n cubes a b
changed n cubes (Exorlink a b x y place partner) = merged_any n (slice_set (slice_set cubes a x) b y) place partner

-- ---- where a step applies

-- the cubes at a and b become one, where a test holds of them
abbrev pub merge_at : (Cube → Cube → Bool) → List Cube → ℕ → ℕ → Option Step
merge_at test cubes a b = if test (at cubes a) (at cubes b) then Some (Merge a b) else None

abbrev pub first_merge : (Cube → Cube → Bool) → List Cube → Option Step
first_merge test cubes = first_pair (merge_at test cubes) cubes

-- x comes to a and y to b, and then `cube`, that of these at `place`, and the cube at c become one, where c is another
-- place
abbrev pub partner_at : ℕ → List Cube → ℕ → ℕ → Cube → Cube → ℕ → Cube → ℕ → Option Step
partner_at n cubes a b x y place cube c =
    if not (c == a) && not (c == b) && can_merge n cube (at cubes c) then Some (Exorlink a b x y place c) else None

-- with the least partner that there is
abbrev pub with_partner : ℕ → List Cube → ℕ → ℕ → Cube → Cube → ℕ → Cube → Option Step
with_partner n cubes a b x y place cube = first (partner_at n cubes a b x y place cube) 0 (length cubes)

-- a form of an exorlink: x stands at a and y at b, and then x becomes one with a third cube, or else y
abbrev pub form : ℕ → List Cube → ℕ → ℕ → Cube → Cube → Option Step
form n cubes a b x y = option_or (with_partner n cubes a b x y a x) (with_partner n cubes a b x y b y)

-- two cubes that differ in the inputs p < q alone have two forms
abbrev pub exorlink_at_by : List ℕ → ℕ → List Cube → ℕ → ℕ → Option Step
exorlink_at_by (p ∷ q ∷ []) n cubes a b =
    let x = at cubes a in
    let y = at cubes b in
    option_or (form n cubes a b (with_third x y p) (with_third y x q))
    (form n cubes a b (with_third y x p) (with_third x y q))
exorlink_at_by _ n cubes a b = None

-- a form in place of the two, which have the same outputs
abbrev pub exorlink_at : ℕ → List Cube → ℕ → ℕ → Option Step
exorlink_at n cubes a b =
    if (at cubes a).outs == (at cubes b).outs then exorlink_at_by (differing n (at cubes a) (at cubes b)) n cubes a b
    else None

abbrev pub first_exorlink : ℕ → List Cube → Option Step
first_exorlink n cubes = first_pair (exorlink_at n cubes) cubes

-- ---- the reduced list

-- the first step that applies: cubes with the same inputs, then adjacent ones, then an exorlink
unfoldable pub found_step : ℕ → List Cube → Option Step
found_step n cubes =
    option_or (first_merge (have_same_inputs n) cubes)
    (option_or (first_merge (are_adjacent n) cubes) (first_exorlink n cubes))

-- the list after it
abbrev pub first_step : ℕ → List Cube → Option (List Cube)
first_step n cubes = option_map (changed n cubes) (found_step n cubes)

-- no step applies
abbrev pub IsSettled : ℕ → List Cube → Type 0
IsSettled n cubes = first_step n cubes ≡ None

-- a list after a step was made again and again, so many times at most
unfoldable pub repeated : (List Cube → Option (List Cube)) → ℕ → List Cube → List Cube
repeated step zero cubes = cubes
repeated step (suc turns) cubes = option_map_or (repeated step turns) (step cubes) cubes

-- no step is left, since each makes the list shorter
abbrev pub reduced : ℕ → List Cube → List Cube
reduced n cubes = repeated (first_step n) (length cubes) cubes
