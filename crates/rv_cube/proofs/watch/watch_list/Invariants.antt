use Rattle.rv_cube.specs.inside.Watching.{Marks, IsListed}
use Rattle.rv_cube.proofs.watch.watch_list.Given as goal

abbrev pub invariant-loop-i : goal.invariant-loop-i
invariant-loop-i l = Marks (IsListed l.slots.inputs l.slots.cubes l.k l.near l.i) l.initial.rows l.rows
