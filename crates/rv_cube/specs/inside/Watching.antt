-- Which rows are due after a cube came in.
use Rattle.std.specs.Prelude.{ℕ, ◌<◌, ◌≡◌, ◌⊎◌, Bool, true, List, [], ◌∷◌, length, if◌then◌else◌, Some, All, nat_lt, slice_index_or}
use Rattle.rv_pla.specs.declared.cube.Cube.{Cube}
use Rattle.rv_cube.specs.Distance.{differing, with_third}
use Rattle.rv_cube.specs.Reduction.{at}
use Rattle.rv_cube.specs.inside.Slots.{full, key_of, slot_of, is_due, StaysDue}
use Rattle.rv_cube.specs.inside.Slotted.{IsBeside, IsTwoApart, Lists}

abbrev pub lower : ℕ → ℕ → ℕ
lower a b = if nat_lt a b then a else b

-- the rows are due that were, and those of which P holds
pub record Marks (P : ℕ → Type 0) (old new : List Bool) : Type 0 where
  pub as_many : length new ≡ length old
  pub stays : StaysDue old new
  pub gets : (row : ℕ) → P row → is_due new row ≡ true

-- ---- the lower of slot e and another slot with its outputs

-- which is g
abbrev pub IsLink : List Cube → ℕ → ℕ → ℕ → Type 0
IsLink slots e g row = ((at slots e).outs ≡ (at slots g).outs) × (row ≡ lower e g)

-- which has the inputs of the cube
abbrev pub IsLinkAt : List Cube → ℕ → Cube → ℕ → Type 0
IsLinkAt slots e cube row = (g : ℕ) × (full slots g ≡ true) × (key_of (at slots g) ≡ key_of cube) × IsLink slots e g row

-- which differs from the cube in input q alone
abbrev pub IsLinkBeside : List Cube → ℕ → Cube → ℕ → ℕ → Type 0
IsLinkBeside slots e cube q row = (g : ℕ) × (full slots g ≡ true) × IsBeside slots cube q g × IsLink slots e g row

-- in one input below n alone
abbrev pub IsLinkAcross : List Cube → ℕ → Cube → ℕ → ℕ → Type 0
IsLinkAcross slots e cube n row = (q : ℕ) × (q < n) × IsLinkBeside slots e cube q row

-- which differs from e in p and one input below n alone
abbrev pub IsLinkFrom : List Cube → ℕ → ℕ → ℕ → ℕ → Type 0
IsLinkFrom slots e p n row =
    (q : ℕ) × (q < n) × ((g : ℕ) × (full slots g ≡ true) × IsTwoApart slots (at slots e) p q g × IsLink slots e g row)

-- ---- the pairs that a cube may bring a step to

-- slot e and one with which it makes a form that may meet slot k, by the inputs in which k and e differ
abbrev pub IsThirdBy : List ℕ → ℕ → List Cube → ℕ → ℕ → ℕ → Type 0
IsThirdBy (p ∷ []) n slots k e row = IsLinkFrom slots e p n row
IsThirdBy (p ∷ q ∷ []) n slots k e row =
    ((at slots k).outs ≡ (at slots e).outs)
    × (IsLinkAcross slots e (with_third (at slots e) (at slots k) p) n row
    ⊎ IsLinkAcross slots e (with_third (at slots e) (at slots k) q) n row)
IsThirdBy _ n slots k e row = ⊥

abbrev pub IsThird : ℕ → List Cube → ℕ → ℕ → ℕ → Type 0
IsThird n slots k e row = IsThirdBy (differing n (at slots k) (at slots e)) n slots k e row

-- slots k and e, or such a pair
abbrev pub IsNear : ℕ → List Cube → ℕ → ℕ → ℕ → Type 0
IsNear n slots k e row = IsLink slots k e row ⊎ IsThird n slots k e row

-- for one of the first m slots of a list
abbrev pub IsListed : ℕ → List Cube → ℕ → List ℕ → ℕ → ℕ → Type 0
IsListed n slots k near m row = (i : ℕ) × (i < m) × IsNear n slots k (slice_index_or near i 0) row

-- the cube stands in a slot, which may merge with another
abbrev pub IsMerging : ℕ → List Cube → Cube → ℕ → Type 0
IsMerging n slots cube row = (k : ℕ) × (slot_of slots cube ≡ Some k) × IsLinkAcross slots k (at slots k) n row

-- which may bring an exorlink to a listed slot
abbrev pub IsExorlinking : ℕ → List Cube → Cube → List ℕ → ℕ → Type 0
IsExorlinking n slots cube near row =
    (k : ℕ) × (slot_of slots cube ≡ Some k) × IsListed n slots k near (length near) row

-- ---- the slots near a cube

-- the full slots that differ from the cube in one input or two, and perhaps others
pub record IsNearList (n : ℕ) (slots : List Cube) (cube : Cube) (near : List ℕ) : Type 0 where
  pub all_full : All (λ b. full slots b ≡ true) near
  pub one : (b p : ℕ) → full slots b ≡ true → differing n cube (at slots b) ≡ p ∷ [] → Lists near b
  pub two : (b p q : ℕ) → full slots b ≡ true → differing n cube (at slots b) ≡ p ∷ q ∷ [] → Lists near b

-- the list, or nothing where all rows are due
pub record IsListedNear (n : ℕ) (slots : List Cube) (cube : Cube) (rows : List Bool) (near : List ℕ) : Type 0 where
  pub all_full : All (λ b. full slots b ≡ true) near
  pub listed : ((a : ℕ) → a < length rows → is_due rows a ≡ true) ⊎ IsNearList n slots cube near
