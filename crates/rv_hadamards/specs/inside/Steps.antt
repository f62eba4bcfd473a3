-- One operation, before which an H waits or not.
use Rattle.std.specs.Prelude.{◌≡◌, ℕ, ◌<◌, Bool, List, [], ◌∷◌, ◌++◌, if◌then◌else◌}
use Rattle.rv_net.specs.Op.{OpFitsIn}
use Rattle.rv_net.specs.declared.op.Op.{Op}
use Rattle.rv_net.specs.declared.op.Op.TheVariants.{H}
use Rattle.rv_hadamards.specs.Becomes.{Becomes}

abbrev pub waiting : ℕ → Bool → List Op
waiting line waits = if waits then H line ∷ [] else []

-- what is made of it, and what waits then
pub record IsStep (line : ℕ) (waits : Bool) (op : Op) (after : Bool) (old new : List Op) : Type 0 where
  pub part : List Op
  pub is : new ≡ old ++ part
  pub becomes : (n : ℕ) → line < n → OpFitsIn op n → Becomes n (waiting line waits ++ op ∷ []) (part ++ waiting line after)
