use Rattle.std.proofs.Common.{◌≡◌, map, take}
use Rattle.rv_cube.proofs.first.term_cubes.Given as goal

abbrev pub invariant-loop-term : goal.invariant-loop-term
invariant-loop-term l = l.cubes.items ≡ map (λ term. term.cube) (take l.term l.pla.terms)
