use Rattle.std.proofs.Common.{◌≡◌, ◌++◌}
use Rattle.rv_gate.specs.Names.{numbered}
use Rattle.rv_compute.proofs.lines.push_numbered.Given as goal

abbrev pub invariant-loop-line : goal.invariant-loop-line
invariant-loop-line l = l.names ≡ l.initial.names ++ numbered l.prefix l.line
