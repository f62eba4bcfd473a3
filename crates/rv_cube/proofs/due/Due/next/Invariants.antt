use Rattle.std.proofs.Common.{◌≡◌, ◌-◌, length}
use Rattle.rv_cube.specs.inside.Due.{IsDue}
use Rattle.rv_cube.proofs.due.Due.next.Given as goal

abbrev pub invariant-loop-self : goal.invariant-loop-self
invariant-loop-self l = IsDue l.self-inside.rows.items l.self-inside.least l.self-inside.end l.self-inside.fresh × (l.self-inside.rows.items ≡ l.initial.self-inside.rows.items)

abbrev pub decreases-loop-self : goal.decreases-loop-self
decreases-loop-self l = length l.self-inside.rows.items - l.self-inside.least
