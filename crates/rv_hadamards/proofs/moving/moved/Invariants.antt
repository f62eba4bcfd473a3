use Rattle.std.proofs.Common.{◌++◌, drop}
use Rattle.rv_hadamards.specs.Becomes.{Becomes}
use Rattle.rv_hadamards.specs.inside.Steps.{waiting}
use Rattle.rv_hadamards.proofs.moving.moved.Given as goal

abbrev pub invariant-loop-place : goal.invariant-loop-place
invariant-loop-place l = Becomes l.lines l.ops (l.made.items ++ (waiting l.line l.waits ++ drop l.place l.ops))
