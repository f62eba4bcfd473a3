use Rattle.std.proofs.Common.{arith, false, get_or, ◌≡◌, sym}
use Rattle.rv_ends.proofs.Ends.{apart_bits, same_all, differs_at, differs_long}
use Rattle.rv_ends.proofs.constant.are_same.Goals as goal

pub returns-then-a-b : goal.returns-then-a-b
returns-then-a-b c = sym (differs_long c.args.a.now c.args.b.now c.if-a-b.true)

pub returns-then-a-i : goal.returns-then-a-i
returns-then-a-i c =
    let ne : get_or c.args.a.now c.loop-i.i false ≡ get_or c.args.b.now c.loop-i.i false → ⊥ =
    apart_bits _ _ c.if-a-i.true in
    sym (differs_at c.args.a.now c.args.b.now c.loop-i.i (omega arith) (omega arith) ne)

pub returns : goal.returns
returns c = sym (same_all c.args.a.now c.args.b.now c.if-a-b.false (λ k lt. c.loop-i.invariant k (omega arith)))
