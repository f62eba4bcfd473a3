use Rattle.std.proofs.Common.{◌≡◌}
use Rattle.rv_gate.specs.Names.{numbered}
use Rattle.rv_gate.proofs.names.Names.numbered.Given as goal

abbrev pub invariant-loop-line : goal.invariant-loop-line
invariant-loop-line l = l.names ≡ numbered l.prefix l.line
