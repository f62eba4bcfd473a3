use Rattle.std.proofs.Common.{ap, sym, take, ◌∙◌}
use Rattle.rv_qasm.specs.inside.Reached.{Reached, steps}
use Rattle.rv_qasm.proofs.inside.Steps.{steps-none}
use Rattle.rv_qasm.proofs.inside.WrittenLines.{took_line, took_none}
use Rattle.rv_qasm.proofs.reached.Reached.take_line.Goals as goal

pub returns-then-not-is_at_start-clause-steps : goal.returns-then-not-is_at_start-clause-steps
returns-then-not-is_at_start-clause-steps c = steps-none c.args.self.now

pub returns-then-count-gt0-clause-steps : goal.returns-then-count-gt0-clause-steps
returns-then-count-gt0-clause-steps c =
    let r : Reached = record { begun = c.self.inside.lexer; has_begun_line = c.self.inside.has_begun_line; so_far = c.self.inside.state } in
    ap (λ (s : Reached). steps s (take c.in-Ok.count c.args.bytes.now)) (sym c.self.view_is)
    ∙ took_line r c.self.inside.lexer.line c.args.bytes.now c.in-Ok.count c.line_read.new.self c.next_line.new.self (c.is_at_start.ensures c.if-not-is_at_start.false) c.in-Ok.ensures c.if-count-gt0.true c.next_line.ensures

pub returns-else-count-gt0-clause-steps : goal.returns-else-count-gt0-clause-steps
returns-else-count-gt0-clause-steps c =
    let r : Reached = record { begun = c.self.inside.lexer; has_begun_line = c.self.inside.has_begun_line; so_far = c.self.inside.state } in
    ap (λ (s : Reached). steps s (take c.in-Ok.count c.args.bytes.now)) (sym c.self.view_is)
    ∙ took_none r c.args.bytes.now c.in-Ok.count c.line_read.new.self c.in-Ok.ensures c.if-count-gt0.false
