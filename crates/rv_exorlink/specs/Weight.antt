-- What a list should have little of.
use Rattle.std.specs.Prelude.{ℕ, ◌+◌, ◌-◌, ◌*◌, ◌^◌, ◌==◌, ◌≤◌, List, length, if◌then◌else◌, nat_lt, count_ones}
use Rattle.std.specs.List.{sum_by}
use Rattle.rv_pla.specs.declared.cube.Cube.{Cube}
use Rattle.rv_cube.specs.declared.list.TheConstants.{MOST_CUBES}
use Rattle.rv_exorlink.specs.declared.goal.Goal.{Goal}
use Rattle.rv_exorlink.specs.declared.goal.Goal.TheVariants.{Cubes, Gates, Quantum, T}
use Rattle.rv_exorlink.specs.declared.goal.TheConstants.{CUBE_WEIGHT, T_WEIGHT}

-- the quantum cost of a flip with so many controls
abbrev pub quantum_cost : ℕ → ℕ
quantum_cost controls = if nat_lt controls 2 then 1 else 2 ^ (controls + 1) - 3

-- the T gates of a flip with so many controls, where helper lines hold 0
abbrev pub t_count : ℕ → ℕ
t_count controls = if nat_lt controls 2 then 0 else 8 * controls - 9

-- the quantum cost of a cube: a flip an output, or one flip, and a CNOT for each other output before and after it
abbrev pub quantum_weight : ℕ → ℕ → ℕ
quantum_weight literals outs = if nat_lt literals 2 then outs else quantum_cost literals + 2 * (outs - 1)

-- what a cube with so many literals and outputs adds to the weight of a list: cubes, or gates of the cascade, and then
-- literals; the quantum cost; or T gates, and then gates
abbrev pub weight_by : Goal → ℕ → ℕ → ℕ
weight_by Cubes literals outs = CUBE_WEIGHT + literals
weight_by Gates literals outs = outs * (CUBE_WEIGHT + literals)
weight_by Quantum literals outs = quantum_weight literals outs
weight_by T literals outs = T_WEIGHT * t_count literals + 2 * outs - 1

abbrev pub weight : Goal → Cube → ℕ
weight goal cube = if count_ones cube.outs == 0 then 0 else weight_by goal (count_ones cube.care) (count_ones cube.outs)

-- how many cubes a list may have that is to be better than one of so many
abbrev pub most_of : Goal → ℕ → ℕ
most_of Cubes cubes = cubes
most_of Gates cubes = MOST_CUBES
most_of Quantum cubes = MOST_CUBES
most_of T cubes = MOST_CUBES

-- a list weighs no more than another, and has no more cubes where these are what counts
pub record IsNoWorse (goal : Goal) (old new : List Cube) : Type 0 where
  pub lighter : sum_by (weight goal) new ≤ sum_by (weight goal) old
  pub few : length new ≤ most_of goal (length old)

-- what a flip with so many controls costs a cascade by the goal: itself where gates or cubes count
abbrev pub flip_cost : Goal → ℕ → ℕ
flip_cost Cubes controls = 1
flip_cost Gates controls = 1
flip_cost Quantum controls = quantum_cost controls
flip_cost T controls = T_WEIGHT * t_count controls + 1
