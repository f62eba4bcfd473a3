use Rattle.std.proofs.Common.{◌∙◌, refl}
use Rattle.rv_diagram.proofs.Placed.{control_value}
use Rattle.rv_diagram.proofs.diagram.Diagram.and_control.Goals as goal

pub returns-clause-value : goal.returns-clause-value
returns-clause-value c = λ x.
    c.in_ok-both.ensures.value x ∙ rw (c.if-not-cared.false, c.turn.ensures, control_value c.args.self.now c.args.line c.args.wanted x) refl
