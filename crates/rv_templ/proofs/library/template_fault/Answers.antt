use Rattle.std.proofs.Common.{ℕ, List, length, ◌∙◌, ap, arith}
use Rattle.std.specs.Prelude.{Option, Some}
use Rattle.rv_gate.specs.declared.gate.Shape.{Shape}
use Rattle.rv_templ.specs.declared.fault.LibFault.{LibFault}
use Rattle.rv_templ.specs.declared.fault.LibFault.TheVariants.{TooWide, TooLong}
use Rattle.rv_templ.specs.Templates.{first_other}
use Rattle.rv_templ.proofs.inside.TemplateLaws.{fault_wide, fault_long, fault_other, fault_changed, fault_none}
use Rattle.rv_templ.proofs.library.template_fault.Goals as goal

pub returns-then-from-gt-TEMPLATE_LINES : goal.returns-then-from-gt-TEMPLATE_LINES
returns-then-from-gt-TEMPLATE_LINES c =
    ap (λ (n : ℕ). let o : Option LibFault = Some (TooWide n) in o) c.line_count-lines.ensures.value ∙ fault_wide c.args.circuit.now (omega arith)

pub returns-then-gates-gt-TEMPLATE_GATES : goal.returns-then-gates-gt-TEMPLATE_GATES
returns-then-gates-gt-TEMPLATE_GATES c =
    ap (λ (l : List Shape). let o : Option LibFault = Some (TooLong (length l)) in o) c.gates-gates.ensures
    ∙ fault_long c.args.circuit.now (omega arith) (omega (arith, ap length c.gates-gates.ensures, c.if-gates-gt-TEMPLATE_GATES.true))

pub returns-in-Some : goal.returns-in-Some
returns-in-Some c =
    fault_other c.args.circuit.now c.in-Some.place (omega arith) (omega (arith, ap length c.gates-gates.ensures, c.if-gates-gt-TEMPLATE_GATES.false)) (c.in-Some.ensures ∙ ap first_other c.gates-gates.ensures)

pub returns-in-Some-first_changed : goal.returns-in-Some-first_changed
returns-in-Some-first_changed c =
    fault_changed c.args.circuit.now c.in-Some-first_changed.word c.image.result (omega arith) (omega (arith, ap length c.gates-gates.ensures, c.if-gates-gt-TEMPLATE_GATES.false))
    (c.in_default.ensures ∙ ap first_other c.gates-gates.ensures) c.in-Some-first_changed.ensures.value c.image.ensures

pub returns-in-None : goal.returns-in-None
returns-in-None c =
    fault_none c.args.circuit.now (omega arith) (omega (arith, ap length c.gates-gates.ensures, c.if-gates-gt-TEMPLATE_GATES.false)) (c.in_default.ensures ∙ ap first_other c.gates-gates.ensures) c.in-None.ensures.value
