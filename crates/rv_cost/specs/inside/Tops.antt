-- Levels as the code keeps them: one number a line.
use Rattle.std.specs.Prelude.{◌≡◌, ℕ, ◌^◌, ◌<◌, List, slice_index}
use Rattle.rv_gate.specs.declared.word.TheConstants.{MOST_LINES}
use Rattle.rv_cost.specs.Levels.{Task, highest_on, schedule_of, depth_of}
use Rattle.rv_cost.specs.declared.levels.Levels.{Levels}

-- each top is the greatest level of a task on its line; the last task comes first
pub record IsLevelled (levels : Levels) (tasks : List Task) : Type 0 where
  pub tops : (line : ℕ) → line < MOST_LINES → slice_index levels.tops line ≡ highest_on (schedule_of tasks) (2 ^ line)
  pub depth : levels.depth ≡ depth_of (schedule_of tasks)
