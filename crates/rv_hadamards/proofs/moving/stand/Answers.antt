use Rattle.std.proofs.Common.{refl}
use Rattle.rv_hadamards.proofs.inside.Waiting.{begins, stays}
use Rattle.rv_hadamards.proofs.moving.stand.Goals as goal

pub returns-then-is_h : goal.returns-then-is_h
returns-then-is_h c = begins c.args.line c.args.op c.args.made.now.items c.args.made.now.items refl (c.if-is_h.ensures refl)

pub returns : goal.returns
returns c = stays c.args.line c.args.op c.args.made.now.items c.push.new.self.items c.in_ok-push.ensures.items
