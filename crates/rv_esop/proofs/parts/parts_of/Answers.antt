use Rattle.std.proofs.Common.{List, length, ap, sym, ◌∙◌}
use Rattle.rv_gate.specs.Gate.{run}
use Rattle.rv_gate.specs.declared.gate.Shape.{Shape}
use Rattle.rv_esop.proofs.Rewriting.{acts_same}
use Rattle.rv_esop.proofs.parts.parts_of.Goals as goal

pub returns-then-is_cheaper-clause-same : goal.returns-then-is_cheaper-clause-same
returns-then-is_cheaper-clause-same c =
    λ word len.
    acts_same (length c.in_ok-whole.whole.names) c.in-Ok.parts.added c.in-Ok.parts.circuit.gates
    c.in_ok-whole.whole.gates c.if-added-eq0.true c.in-Ok.ensures.extends word
    (len ∙ sym (ap length c.in_ok-whole.ensures.names))
    ∙ ap (λ (gates : List Shape). run gates word) c.in_ok-whole.ensures.gates
