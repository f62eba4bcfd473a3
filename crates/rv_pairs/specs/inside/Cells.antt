-- Operations with gaps where some are left out.
use Rattle.std.specs.Prelude.{◌≡◌, ◌⊎◌, ℕ, ◌<◌, List, [], ◌∷◌, ◌++◌, slice_get, slice_set, Option, Some, None, IsTrue}
use Rattle.rv_net.specs.declared.op.Op.{Op}
use Rattle.rv_pairs.specs.Cancelled.{Undoes}
use Rattle.rv_pairs.specs.Commuting.{commute}

abbrev pub Cells : Type 0
Cells = List (Option Op)

-- the operations, without the gaps
unfoldable pub present : Cells → List Op
present [] = []
present (None ∷ cells) = present cells
present (Some o ∷ cells) = o ∷ present cells

abbrev pub StandsAt : Cells → ℕ → Op → Type 0
StandsAt cells place o = slice_get cells place ≡ Some (Some o)

pub record IsPartner (cells : Cells) (o : Op) (place : ℕ) : Type 0 where
  pub partner : Op
  pub there : StandsAt cells place partner
  pub undoes : Undoes partner o
  pub passes : (k : ℕ) (p : Op) → place < k → StandsAt cells k p → IsTrue (commute p o)

abbrev pub HasNoPartner : Cells → Op → Type 0
HasNoPartner cells o = (place : ℕ) → IsPartner cells o place → ⊥

-- what the cells are with one more operation: its partner is gone, or it stands after the others
abbrev pub IsNext : Cells → Op → Cells → Type 0
IsNext cells o next =
    (HasNoPartner cells o × (next ≡ cells ++ Some o ∷ []))
    ⊎ ((place : ℕ) × IsPartner cells o place × (next ≡ slice_set cells place None))
