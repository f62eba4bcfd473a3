use Rattle.std.proofs.Common.{◌≡◌}
use Rattle.rv_cube.specs.Distance.{differing}
use Rattle.rv_cube.specs.inside.Apart.{apart_of}
use Rattle.rv_cube.proofs.distance.differing.Given as goal

abbrev pub invariant-loop-input : goal.invariant-loop-input
invariant-loop-input l = l.found ≡ apart_of (differing l.input l.fn.a l.fn.b)
