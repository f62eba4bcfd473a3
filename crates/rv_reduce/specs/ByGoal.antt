-- Reducing by a goal: what holds of any network that is found for another.
use Rattle.std.specs.Prelude.{◌≡◌, ◌⊎◌, ℕ, ◌+◌, ◌*◌, ◌<◌, ◌≤◌, Bool, IsTrue, List, length, count_by}
use Rattle.rv_mct.specs.declared.aux.Aux.{Aux}
use Rattle.rv_net.specs.Amplitude.{amplitude, count_h}
use Rattle.rv_net.specs.Cyclotomic.{Cyclotomic, doubled, power, root2, times}
use Rattle.rv_net.specs.Denotes.{Carries, Denotes}
use Rattle.rv_net.specs.Op.{IsNetwork, Network, has_three_lines, is_t}
use Rattle.rv_net.specs.declared.op.Op.{Op}
use Rattle.rv_cost.specs.NetCost.{op_depth}
use Rattle.rv_reduce.specs.Blocks.{begun, takes_blocks}
use Rattle.rv_reduce.specs.Cnots.{cnot_count}
use Rattle.rv_reduce.specs.declared.goal.Goal.{Goal}
use Rattle.rv_reduce.specs.declared.goal.Goal.TheVariants.{Ops, T, Cx, Depth}

-- what a goal counts
abbrev pub measure : Goal → List Op → ℕ
measure Ops ops = length ops
measure T ops = count_by is_t ops
measure Cx ops = cnot_count ops
measure Depth ops = op_depth ops

-- no more CNOT gates, or more where T is the goal and there are fewer of these
abbrev pub HasFewCnots : Goal → List Op → List Op → Type 0
HasFewCnots goal before after =
    (cnot_count after ≤ cnot_count before) ⊎ ((goal ≡ T) × (count_by is_t after < count_by is_t before))

-- No more of what the goal counts, no more T, no more Toffoli and Fredkin gates, which stand for several T, and few CNOT
-- gates.
pub record IsNoWorse (goal : Goal) (before after : List Op) : Type 0 where
  pub measure : measure goal after ≤ measure goal before
  pub t_gates : count_by is_t after ≤ count_by is_t before
  pub three_lines : count_by has_three_lines after ≤ count_by has_three_lines before
  pub cnots : HasFewCnots goal before after

-- An amplitude over the roots of two of its own network and of another: both networks have the same amplitude if these
-- are equal the one way and the other.
abbrev pub over_both : List Op → List Op → List Bool → List Bool → Cyclotomic
over_both ops others x y = times (power root2 (count_h others)) (amplitude ops x y)

-- both have the same amplitudes, with the root of two divided out of each H, and no phase left free
abbrev pub HasAmplitudesOf : Network → Network → Type 0
HasAmplitudesOf net result =
    (x y : List Bool) → length x ≡ net.lines → over_both net.ops result.ops x y ≡ over_both result.ops net.ops x y

-- the same lines, and the same amplitudes, but for a factor of 2 for each pair of H less
pub record KeepsAmplitudes (net result : Network) : Type 0 where
  pub pairs : ℕ
  pub lines : result.lines ≡ net.lines
  pub valid : IsNetwork result
  pub amplitudes : (x y : List Bool) → length x ≡ net.lines
      → amplitude net.ops x y ≡ doubled pairs (amplitude result.ops x y)
  pub hadamards : count_h net.ops ≡ count_h result.ops + 2 * pairs

-- the same amplitudes, and no worse by the goal
pub record Improves (goal : Goal) (net result : Network) : Type 0 where
  pub keeps : KeepsAmplitudes net result
  pub no_worse : IsNoWorse goal net.ops result.ops

-- It improves the network that the goal begins with, in which Toffoli and Fredkin gates are blocks, and then has none of
-- them; and it has the amplitudes of the network that was read. What map of words that one denotes or carries, the result
-- does.
pub record IsReductionBy (goal : Goal) (net result : Network) : Type 0 where
  pub improves : Improves goal (begun goal net) result
  pub plain : IsTrue (takes_blocks goal net.ops) → count_by has_three_lines result.ops ≡ 0
  pub amplitudes : HasAmplitudesOf net result
  pub denotes : (map : List Bool → List Bool) → Denotes net.lines net.ops map → Denotes net.lines result.ops map
  pub carries :
      (aux : Aux) (n extra : ℕ) (map : List Bool → List Bool) → n + extra ≡ net.lines → Carries aux n extra net.ops map
      → Carries aux n extra result.ops map
