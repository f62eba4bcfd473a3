use Rattle.std.proofs.Common.{◌≡◌, ◌++◌}
use Rattle.rv_gate.specs.Names.{numbered}
use Rattle.rv_esop.proofs.lines.names_of.Given as goal

abbrev pub invariant-loop-output : goal.invariant-loop-output
invariant-loop-output l = l.names ≡ numbered 120 l.inputs ++ numbered 121 l.output
