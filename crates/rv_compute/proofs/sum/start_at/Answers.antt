use Rattle.std.proofs.Common.{ap, ◌∙◌}
use Rattle.rv_gate.specs.Word.{has}
use Rattle.rv_compute.proofs.inside.Summing.{start_is, below_start}
use Rattle.rv_compute.proofs.sum.start_at.Goals as goal

pub returns-in-Some : goal.returns-in-Some
returns-in-Some c =
    c.has.ensures ∙ ap (λ s. has s c.in-Some.operand) c.from.ensures
    ∙ start_is c.args.start c.in-Some.operand c.args.count c.args.set c.in-Some.is
    (below_start c.args.start c.in-Some.operand c.args.count c.in-Some.is c.requires.start)
