use Rattle.std.proofs.Common.{◌≡◌, ◌++◌, replicate, true, false}
use Rattle.rv_gate.proofs.Prefixes.{marked}
use Rattle.rv_compute.proofs.lines.drop_last.Given as goal

abbrev pub invariant-loop-line : goal.invariant-loop-line
invariant-loop-line l =
    l.circuit ≡ record l.initial.circuit { garbage = replicate l.first false ++ marked l.rest l.line true false }
