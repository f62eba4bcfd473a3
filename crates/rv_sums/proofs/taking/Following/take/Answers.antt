use Rattle.std.proofs.Common.{[], ap, ◌∙◌, arith}
use Rattle.std.specs.List.{remove}
use Rattle.rv_sums.specs.declared.left.Left.{Left}
use Rattle.rv_sums.proofs.inside.Taken.{moves_taken, moves_then}
use Rattle.rv_sums.proofs.taking.Following.take.Goals as goal

pub returns : goal.returns
returns c flips =
    let kept = c.in_ok-spend.ensures.left in
    moves_then [] flips c.args.self.now _ c.forget_large.new.self
    (moves_taken flips c.args.at c.index-gate.result.now c.args.self.now _ (omega arith) c.index-gate.ensures
    (c.may_pass.ensures c.if-not-may_pass.false) (rw c.in-Some.is at c.in_ok-next.ensures.sum)
    (rw c.in-Some.is at c.in_ok-next.ensures.facts)
    (c.remove.ensures.items ∙ ap (λ (l : Left). remove l.window.items c.args.at) kept) (ap (λ (l : Left). l.next) kept))
    (c.in_ok-forget_large.ensures flips)
