-- Reducing: what holds of any network that is found for another.
use Rattle.std.specs.Prelude.{◌≡◌, ℕ, ◌+◌, Bool, List}
use Rattle.rv_mct.specs.declared.aux.Aux.{Aux}
use Rattle.rv_net.specs.Denotes.{Carries, Denotes}
use Rattle.rv_net.specs.Op.{Network}
use Rattle.rv_pairs.specs.Cancelled.{IsPair, Keeps}

-- The same lines; every amplitude is 2^k times that of the result, which has k pairs of H less; no more operations, no
-- more T, and no more Toffoli and Fredkin gates. No operation is left that a later one undoes, with all between them commuting with the later one. What map
-- of words the network denotes or carries, the result does.
pub record IsReductionOf (net result : Network) : Type 0 where
  pub keeps : Keeps net result
  pub settled : ¬ IsPair result.ops
  pub denotes : (map : List Bool → List Bool) → Denotes net.lines net.ops map → Denotes net.lines result.ops map
  pub carries :
      (aux : Aux) (n extra : ℕ) (map : List Bool → List Bool) → n + extra ≡ net.lines → Carries aux n extra net.ops map
      → Carries aux n extra result.ops map
