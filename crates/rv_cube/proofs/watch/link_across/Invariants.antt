use Rattle.rv_cube.specs.inside.Watching.{Marks, IsLinkAcross}
use Rattle.rv_cube.proofs.watch.link_across.Given as goal

abbrev pub invariant-loop-q : goal.invariant-loop-q
invariant-loop-q l = Marks (IsLinkAcross l.slots.cubes l.e l.cube l.q) l.initial.rows l.rows
