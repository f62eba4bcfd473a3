use Rattle.rv_cube.proofs.reed_muller.+transform.Given as goal

abbrev pub decreases-transform : goal.decreases-transform
decreases-transform l = l.inputs
