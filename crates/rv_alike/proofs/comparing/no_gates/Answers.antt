use Rattle.std.proofs.Common.{ap, arith, length, ◌∙◌}
use Rattle.rv_gate.proofs.NameLemmas.{length-numbered}
use Rattle.rv_gate.specs.Circuit.{Cascade}
use Rattle.rv_alike.proofs.comparing.no_gates.Goals as goal

pub new-requires : goal.new-requires
new-requires c = omega (arith, ap length c.in_ok-names.ensures, length-numbered 120 c.args.lines, c.requires.some)

pub returns-clause-lines : goal.returns-clause-lines
returns-clause-lines c =
    ap (λ (circuit : Cascade). length circuit.names) c.in_ok-circuit.ensures ∙ ap length c.in_ok-names.ensures ∙ length-numbered 120 c.args.lines
