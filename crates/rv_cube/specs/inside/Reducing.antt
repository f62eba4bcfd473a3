-- What is asked of slots while their list is reduced.
use Rattle.std.specs.Prelude.{ℕ, ◌<◌, ◌≢◌, ◌≡◌, true, false, Bool, List, length, Option, None, Some, All, IfSome, MatchOption, slice_set}
use Rattle.rv_pla.specs.declared.cube.Cube.{Cube}
use Rattle.rv_pla.specs.Cube.{IsCube}
use Rattle.rv_pla.specs.declared.cube.TheConstants.{MOST_OUTPUTS}
use Rattle.rv_cube.specs.Distance.{differs}
use Rattle.rv_cube.specs.Esop.{terms_of}
use Rattle.rv_cube.specs.Reduction.{no_cube, reduced}
use Rattle.rv_cube.specs.inside.Slots.{carries, full, IsKeyed, settled, exorlink_in, MergesNone, ExorlinksNone, IsFirstMerge, IsFirstExorlink, IsPartner, IsWatched}
use Rattle.rv_cube.specs.inside.Slotted.{Slotted}
use Rattle.rv_cube.specs.declared.step.Step.{Step}
use Rattle.rv_cube.specs.declared.step.Step.TheVariants.{Merge, Exorlink}

-- slot a makes an exorlink with slot b, and with none between them
pub record ExorlinksWith (n : ℕ) (slots : List Cube) (a : ℕ) (step : Step) (b : ℕ) : Type 0 where
  pub order : a < b
  pub full_b : full slots b ≡ true
  pub is : exorlink_in n slots a b ≡ Some step
  pub between : (j : ℕ) → a < j → j < b → full slots j ≡ true → exorlink_in n slots a j ≡ None

-- the first exorlink of slot a, or none
abbrev pub ExorlinksFirst : ℕ → List Cube → ℕ → Option Step → Type 0
ExorlinksFirst n slots a found =
    MatchOption found (ExorlinksNone n slots a) (λ step. (b : ℕ) × ExorlinksWith n slots a step b)

-- the step that is the first of the list
abbrev pub IsNext : ℕ → List Cube → Step → Type 0
IsNext n slots (Merge a b) = IsFirstMerge n slots a b
IsNext n slots (Exorlink a b f s place partner) =
    ((i : ℕ) → MergesNone n slots i)
    × ((i : ℕ) × (j : ℕ) × IsFirstExorlink n slots i j (Exorlink a b f s place partner))

-- what a list keeps while it is reduced
pub record IsReduction (n : ℕ) (slots : List Cube) (merging exorlinking : List Bool) : Type 0 where
  pub valid : All (IsCube n MOST_OUTPUTS) slots
  pub keyed : IsKeyed slots
  pub as_many_merges : length merging ≡ length slots
  pub as_many_exorlinks : length exorlinking ≡ length slots
  pub watched : IsWatched n slots merging exorlinking

-- two cubes differ in the inputs p and q, and perhaps in more
pub record DifferAt (n : ℕ) (x y : Cube) (p q : ℕ) : Type 0 where
  pub p_in : p < n
  pub q_in : q < n
  pub two : p ≢ q
  pub at_p : differs x y p ≡ true
  pub at_q : differs x y q ≡ true

-- the cubes of two slots become `own` and `rest`, which differ in two inputs, and `own` has a partner
pub record IsExorlinked (n : ℕ) (slots : List Cube) (place other partner : ℕ) (own rest : Cube) : Type 0 where
  pub full_place : full slots place ≡ true
  pub full_other : full slots other ≡ true
  pub two : place ≢ other
  pub is_partner : IsPartner n slots place other own partner
  pub own_valid : IsCube n MOST_OUTPUTS own
  pub rest_valid : IsCube n MOST_OUTPUTS rest
  pub own_carries : carries own ≡ true
  pub rest_carries : carries rest ≡ true
  pub far : (p : ℕ) × (q : ℕ) × DifferAt n own rest p q

-- a cube put into slot i, where there is one
abbrev pub settled_any : ℕ → List Cube → ℕ → Option Cube → List Cube
settled_any n slots i None = slots
settled_any n slots i (Some cube) = settled n slots i cube

-- slots p, o and c are emptied
abbrev pub emptied : List Cube → ℕ → ℕ → ℕ → List Cube
emptied s p o c = slice_set (slice_set (slice_set s p no_cube) o no_cube) c no_cube

-- what is asked where two cubes come into empty slots
pub record ComesIn (s : Slotted) (low : ℕ) (one : Option Cube) (o : ℕ) (rest : Cube) : Type 0 where
  pub low_within : low < length s.cubes
  pub low_empty : full s.cubes low ≡ false
  pub own : IfSome one (λ c. (carries c ≡ true) × IsCube s.inputs MOST_OUTPUTS c)
  pub other_within : o < length (settled_any s.inputs s.cubes low one)
  pub other_empty : full (settled_any s.inputs s.cubes low one) o ≡ false
  pub other_carries : carries rest ≡ true
  pub other_valid : IsCube s.inputs MOST_OUTPUTS rest

-- what a step leaves: the list is reduced to the same as `made`, and shorter than the old one
pub record Steps (n : ℕ) (old made new : List Cube) : Type 0 where
  pub kept : reduced n (terms_of new) ≡ reduced n (terms_of made)
  pub fewer : length (terms_of new) < length (terms_of old)
