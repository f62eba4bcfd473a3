-- A list of cubes while it is reduced: the cubes stand in slots, which stay where they are.
--
-- A slot whose cube carries no output is empty. The list is the cubes of the full slots, in their order
-- (`terms_of`), so a slot has a place in the list, its list_place. A step on slots is a step on the list.
use Rattle.std.specs.Prelude.{ℕ, ◌<◌, ◌≢◌, ◌≡◌, ◌&&◌, ◌==◌, Bool, true, false, not, List, [], ◌∷◌, length, if◌then◌else◌, Option, None, Some, take, slice_set, slice_index_or, nat_lt}
use Rattle.std.specs.Option.{option_or}
use Rattle.std.specs.Map.{lookup}
use Rattle.rv_pla.specs.declared.cube.Cube.{Cube}
use Rattle.rv_cube.specs.Esop.{terms_of}
use Rattle.rv_cube.specs.Distance.{differing, with_third}
use Rattle.rv_gate.specs.FirstAnswer.{first}
use Rattle.rv_cube.specs.Reduction.{no_cube, at, can_merge, merge_by, are_adjacent, partner_at}
use Rattle.rv_cube.specs.declared.step.Step.{Step}
use Rattle.rv_cube.specs.declared.step.Step.TheVariants.{Merge, Exorlink}

abbrev pub carries : Cube → Bool
carries cube = not (cube.outs == 0)

-- past the last slot there is no cube, so a full slot is one of the slots
abbrev pub full : List Cube → ℕ → Bool
full slots i = carries (at slots i)

-- the place in the list of a slot's cube
abbrev pub list_place : List Cube → ℕ → ℕ
list_place slots i = length (terms_of (take i slots))

-- ---- the same inputs

-- the inputs of a cube as a key
abbrev pub key_of : Cube → ℕ × ℕ
key_of cube = (cube.care, cube.want)

abbrev pub key_eq : ℕ × ℕ → ℕ × ℕ → Bool
key_eq x y = (x.0 == y.0) && (x.1 == y.1)

-- the slot to which a key leads, by a list of pairs of one
abbrev pub led_to : List ((ℕ × ℕ) × ℕ) → ℕ × ℕ → Option ℕ
led_to pairs key = lookup (key_eq key) pairs

abbrev pub is_alike : Cube → Cube → Bool
is_alike x y = key_eq (key_of x) (key_of y)

-- no two full slots have the same inputs
abbrev pub IsKeyed : List Cube → Type 0
IsKeyed slots =
    (i j : ℕ) → full slots i ≡ true → full slots j ≡ true → is_alike (at slots i) (at slots j) ≡ true → i ≡ j

-- the first full slot with the inputs of the cube
unfoldable pub slot_of : List Cube → Cube → Option ℕ
slot_of slots cube =
    first (λ k. if full slots k && is_alike (at slots k) cube then Some k else None) 0 (length slots)

-- ---- what a step does

abbrev pub or_empty : Option Cube → Cube
or_empty None = no_cube
or_empty (Some cube) = cube

-- what two cubes become, as the cube of a slot
abbrev pub merge_in : ℕ → Cube → Cube → Cube
merge_in n x y = or_empty (merge_by (differing n x y) x y)

-- the slots after the cubes in a < b became one
abbrev pub merged_in : ℕ → List Cube → ℕ → ℕ → List Cube
merged_in n slots a b = slice_set (slice_set slots b no_cube) a (merge_in n (at slots a) (at slots b))

-- the same on slots in any order
abbrev pub merged_in_any : ℕ → List Cube → ℕ → ℕ → List Cube
merged_in_any n slots a b = if nat_lt a b then merged_in n slots a b else merged_in n slots b a

abbrev pub moved : ℕ → List Cube → Step → List Cube
moved n slots (Merge a b) = merged_in n slots a b
moved n slots (Exorlink a b f s place partner) = merged_in_any n (slice_set (slice_set slots a f) b s) place partner

-- the step on the list
abbrev pub ranked : List Cube → Step → Step
ranked slots (Merge a b) = Merge (list_place slots a) (list_place slots b)
ranked slots (Exorlink a b f s place partner) =
    Exorlink (list_place slots a) (list_place slots b) f s (list_place slots place) (list_place slots partner)

-- a cube put into slot i; where a full slot has its inputs, the two become one
abbrev pub settled_by : Option ℕ → ℕ → List Cube → ℕ → Cube → List Cube
settled_by None n slots i cube = slice_set slots i cube
settled_by (Some j) n slots i cube = merged_in_any n (slice_set slots i cube) i j

abbrev pub settled : ℕ → List Cube → ℕ → Cube → List Cube
settled n slots i cube = settled_by (slot_of slots cube) n slots i cube

-- ---- the search for a step

-- a full slot other than a and b
pub record IsOther (slots : List Cube) (a b c : ℕ) : Type 0 where
  pub stands : full slots c ≡ true
  pub other_a : c ≢ a
  pub other_b : c ≢ b

-- such a slot whose cube becomes one with `cube`
pub record IsPartner (n : ℕ) (slots : List Cube) (a b : ℕ) (cube : Cube) (c : ℕ) : Type 0 where
  pub other : IsOther slots a b c
  pub one : can_merge n cube (at slots c) ≡ true

-- `partner`, `form` and `exorlink_at` on the full slots
abbrev pub partner_in_at : ℕ → List Cube → ℕ → ℕ → Cube → Cube → ℕ → Cube → ℕ → Option Step
partner_in_at n slots a b f s place cube c = if full slots c then partner_at n slots a b f s place cube c else None

abbrev pub partner_in : ℕ → List Cube → ℕ → ℕ → Cube → Cube → ℕ → Cube → Option Step
partner_in n slots a b f s place cube = first (partner_in_at n slots a b f s place cube) 0 (length slots)

abbrev pub form_in : ℕ → List Cube → ℕ → ℕ → Cube → Cube → Option Step
form_in n slots a b f s = option_or (partner_in n slots a b f s a f) (partner_in n slots a b f s b s)

abbrev pub exorlink_in_by : List ℕ → ℕ → List Cube → ℕ → ℕ → Cube → Cube → Option Step
exorlink_in_by (p ∷ q ∷ []) n slots a b x y =
    option_or (form_in n slots a b (with_third x y p) (with_third y x q))
    (form_in n slots a b (with_third y x p) (with_third x y q))
exorlink_in_by _ n slots a b x y = None

abbrev pub exorlink_in : ℕ → List Cube → ℕ → ℕ → Option Step
exorlink_in n slots a b =
    if (at slots a).outs == (at slots b).outs
    then exorlink_in_by (differing n (at slots a) (at slots b)) n slots a b (at slots a) (at slots b) else None

-- no later slot becomes one with slot a by its outputs
abbrev pub MergesNone : ℕ → List Cube → ℕ → Type 0
MergesNone n slots a =
    (b : ℕ) → a < b → full slots a ≡ true → full slots b ≡ true → are_adjacent n (at slots a) (at slots b) ≡ false

-- slot a makes an exorlink with no later slot
abbrev pub ExorlinksNone : ℕ → List Cube → ℕ → Type 0
ExorlinksNone n slots a = (b : ℕ) → a < b → full slots a ≡ true → full slots b ≡ true → exorlink_in n slots a b ≡ None

pub record IsFirstMerge (n : ℕ) (slots : List Cube) (a b : ℕ) : Type 0 where
  pub order : a < b
  pub full_a : full slots a ≡ true
  pub full_b : full slots b ≡ true
  pub meets : are_adjacent n (at slots a) (at slots b) ≡ true
  pub before : (i : ℕ) → i < a → MergesNone n slots i
  pub between : (j : ℕ) → a < j → j < b → full slots j ≡ true → are_adjacent n (at slots a) (at slots j) ≡ false

pub record IsFirstExorlink (n : ℕ) (slots : List Cube) (a b : ℕ) (step : Step) : Type 0 where
  pub order : a < b
  pub full_a : full slots a ≡ true
  pub full_b : full slots b ≡ true
  pub is : exorlink_in n slots a b ≡ Some step
  pub before : (i : ℕ) → i < a → ExorlinksNone n slots i
  pub between : (j : ℕ) → a < j → j < b → full slots j ≡ true → exorlink_in n slots a j ≡ None

-- ---- which slots have to be looked at again

abbrev pub is_due : List Bool → ℕ → Bool
is_due rows i = slice_index_or rows i false

-- a slot that is not due has no step with a later one
pub record IsWatched (n : ℕ) (slots : List Cube) (merging exorlinking : List Bool) : Type 0 where
  pub merges : (a : ℕ) → is_due merging a ≡ false → MergesNone n slots a
  pub exorlinks : (a : ℕ) → is_due exorlinking a ≡ false → ExorlinksNone n slots a

-- what was due is due
abbrev pub StaysDue : List Bool → List Bool → Type 0
StaysDue old new = (a : ℕ) → is_due old a ≡ true → is_due new a ≡ true
