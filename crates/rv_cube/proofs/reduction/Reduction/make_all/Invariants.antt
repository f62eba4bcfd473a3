use Rattle.std.proofs.Common.{◌≡◌, length}
use Rattle.rv_cube.specs.Esop.{terms_of}
use Rattle.rv_cube.specs.Reduction.{reduced}
use Rattle.rv_cube.proofs.reduction.Reduction.make_all.Given as goal

abbrev pub invariant-steps : goal.invariant-steps
invariant-steps l = record {
  same : l.self.inputs ≡ l.initial.self.inputs;
  kept : reduced l.self.inputs (terms_of l.self.cubes) ≡ reduced l.initial.self.inputs (terms_of l.initial.self.cubes);
}

abbrev pub decreases-steps : goal.decreases-steps
decreases-steps l = length (terms_of l.self.cubes)
