use Rattle.std.proofs.Common.{◌≡◌, take}
use Rattle.rv_search.specs.Lines.{span}
use Rattle.rv_search.proofs.lines.span.Given as goal

abbrev pub invariant-loop-gate : goal.invariant-loop-gate
invariant-loop-gate l = l.lines ≡ span (take l.gate-index l.gates)
