-- Levels: each gate or operation stands above the earlier ones that share a line with it.
use Rattle.std.specs.Prelude.{ℕ, ◌+◌, List, [], ◌∷◌, if◌then◌else◌}
use Rattle.rv_gate.specs.Greatest.{greatest}
use Rattle.rv_gate.specs.Commuting.{meet}

-- a gate or an operation: the set of its lines, and how many levels it stands above the earlier ones on them
pub record Task : Type 0 where
  pub lines : ℕ
  pub steps : ℕ

-- a task at its level
pub record Scheduled : Type 0 where
  pub lines : ℕ
  pub level : ℕ

-- the greatest level of a task that shares a line with a set; 0 if there is none
unfoldable pub highest_on : List Scheduled → ℕ → ℕ
highest_on schedule lines = greatest (λ s. if meet s.lines lines then s.level else 0) schedule

-- the task at its level: its steps more than the greatest level of an earlier one that shares a line with it
abbrev pub at_level : List Scheduled → Task → Scheduled
at_level earlier task = record { lines = task.lines; level = highest_on earlier task.lines + task.steps }

-- each task at its level; the last one comes first
unfoldable pub schedule_of : List Task → List Scheduled
schedule_of [] = []
schedule_of (task ∷ earlier) = let schedule = schedule_of earlier in at_level schedule task ∷ schedule

-- the greatest level; 0 if there is none
unfoldable pub depth_of : List Scheduled → ℕ
depth_of schedule = greatest (λ s. s.level) schedule
