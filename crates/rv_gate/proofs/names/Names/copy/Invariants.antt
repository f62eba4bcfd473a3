use Rattle.std.proofs.Common.{◌≡◌, take}
use Rattle.rv_gate.proofs.names.Names.copy.Given as goal

abbrev pub invariant-loop-line : goal.invariant-loop-line
invariant-loop-line l = l.names ≡ take l.line l.self
