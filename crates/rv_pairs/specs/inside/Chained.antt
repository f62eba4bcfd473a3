-- Chains of places, the latest first.
use Rattle.std.specs.Prelude.{◌≡◌, ◌⊎◌, ℕ, suc, ◌+◌, ◌<◌, ◌≤◌, Bool, true, false, MatchBool}
use Rattle.std.specs.Prelude.{List, [], ◌∷◌, ◌++◌, length, slice_get, slice_index, slice_set, Option, MatchOption, Some}
use Rattle.rv_gate.specs.Word.{has}
use Rattle.rv_net.specs.declared.op.Op.{Op}
use Rattle.rv_pairs.specs.inside.Cells.{Cells, StandsAt}
use Rattle.rv_pairs.specs.declared.chains.Node.{Node}
use Rattle.rv_pairs.specs.declared.chains.Chains.{Chains}

-- from a place on, below another one, no operation belongs
abbrev pub NoneFrom : Cells → (Op → Bool) → ℕ → ℕ → Type 0
NoneFrom cells belongs from to = (k : ℕ) (o : Op) → from ≤ k → k < to → StandsAt cells k o → belongs o ≡ false

-- a link leads to all operations below a place that belong, the latest first; it may lead to gaps
pub data Chain (cells : Cells) (nodes : List Node) (belongs : Op → Bool) : ℕ → ℕ → Type 0 where
  ends : (to : ℕ) → NoneFrom cells belongs 0 to → Chain cells nodes belongs 0 to
  links : (at to : ℕ) (node : Node) → slice_get nodes at ≡ Some node → node.place < to
      → NoneFrom cells belongs (suc node.place) to → ((o : Op) → StandsAt cells node.place o → belongs o ≡ true)
      → Chain cells nodes belongs node.below node.place → Chain cells nodes belongs (suc at) to

-- for each slot a chain of the operations that belong there
pub record AreChains (belongs : ℕ → Op → Bool) (cells : Cells) (to : ℕ) (chains : Chains) : Type 0 where
  pub each : (slot : ℕ) → slot < length chains.heads.items
      → Chain cells chains.nodes.items (belongs slot) (slice_index chains.heads.items slot) to

-- the place after the latest operation that belongs, 0 if none does
pub record IsLatest (cells : Cells) (belongs : Op → Bool) (latest : ℕ) : Type 0 where
  pub none : NoneFrom cells belongs latest (length cells)
  pub some :
      (latest ≡ 0) ⊎ ((place : ℕ) × ((o : Op) × ((latest ≡ place + 1) × StandsAt cells place o × (belongs o ≡ true))))

-- no operation after a place belongs to a slot of a set
abbrev pub IsFree : (ℕ → Op → Bool) → Cells → ℕ → ℕ → Type 0
IsFree belongs cells set place =
    (slot k : ℕ) (o : Op) → has set slot ≡ true → place < k → StandsAt cells k o → belongs slot o ≡ false

-- some operation after it does
pub record IsBlocked (belongs : ℕ → Op → Bool) (cells : Cells) (set place : ℕ) : Type 0 where
  pub slot : ℕ
  pub later : ℕ
  pub op : Op
  pub on : has set slot ≡ true
  pub after : place < later
  pub there : StandsAt cells later op
  pub belonging : belongs slot op ≡ true

-- a new node, before the others of the slot
pub record IsPushed (chains : Chains) (slot place : ℕ) (next : Chains) : Type 0 where
  pub heads : next.heads.items ≡ slice_set chains.heads.items slot (length chains.nodes.items + 1)
  pub nodes : next.nodes.items
      ≡ chains.nodes.items ++ record { place = place; below = slice_index chains.heads.items slot } ∷ []

-- where a link leads, an operation stands
abbrev pub LeadsToOp : Cells → List Node → ℕ → Type 0
LeadsToOp cells nodes link =
    (at : ℕ) (node : Node) → link ≡ suc at → slice_get nodes at ≡ Some node → (op : Op) × StandsAt cells node.place op

-- ---- what calls do with chains, whatever belongs to them

-- they still have all operations
abbrev pub AreKept : Cells → Chains → Chains → Type 0
AreKept cells before after =
    (belongs : ℕ → Op → Bool) → AreChains belongs cells (length cells) before
    → AreChains belongs cells (length cells) after

-- no operation of the slot stands after a place, or none stands at all
abbrev pub IsBound : Chains → ℕ → Option ℕ → Type 0
IsBound chains slot bound =
    (belongs : ℕ → Op → Bool) (cells : Cells) (to : ℕ) → AreChains belongs cells to chains
    → MatchOption bound (NoneFrom cells (belongs slot) 0 to)
    (λ place. (place < to) × NoneFrom cells (belongs slot) (suc place) to)

abbrev pub GivesLatest : Cells → Chains → ℕ → ℕ → Type 0
GivesLatest cells chains slot latest =
    (belongs : ℕ → Op → Bool) → AreChains belongs cells (length cells) chains → IsLatest cells (belongs slot) latest

abbrev pub TellsFree : Cells → Chains → ℕ → ℕ → Bool → Type 0
TellsFree cells chains set place free =
    (belongs : ℕ → Op → Bool) → AreChains belongs cells (length cells) chains
    → MatchBool free (IsFree belongs cells set place) (IsBlocked belongs cells set place)

-- they have one operation more, which belongs to the slots of a set
abbrev pub AreMore : ℕ → ℕ → Chains → Chains → Type 0
AreMore set place before after =
    (belongs : ℕ → Op → Bool) (cells : Cells) (op : Op) → StandsAt cells place op
    → ((slot : ℕ) → belongs slot op ≡ has set slot)
    → AreChains belongs cells place before → AreChains belongs cells (place + 1) after
