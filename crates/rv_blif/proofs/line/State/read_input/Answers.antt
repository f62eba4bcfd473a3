use Rattle.std.proofs.Common.{◌∙◌, ap, arith, length-append}
use Rattle.rv_blif.specs.Given.{Given, signals_given}
use Rattle.rv_blif.proofs.line.State.read_input.Goals as goal

pub invariant_of-self-2 : goal.invariant_of-self-2
invariant_of-self-2 c =
    let closed = ap (λ (g : Given). g.last) c.self.view_is ∙ c.in_ok-number.ensures.last ∙ c.requires in
    let count = ap signals_given c.self.view_is in
    record {
      few_signals = rw (closed, c.in_ok-push.ensures.items, length-append) (omega (arith, count, c.signals_given.ensures, c.if-signals_given.false));
      few_outputs = c.self.invariant.few_outputs;
    }

pub returns-clause-closed : goal.returns-clause-closed
returns-clause-closed c = ap (λ (g : Given). g.last) c.self.view_is ∙ c.in_ok-number.ensures.last ∙ c.requires
