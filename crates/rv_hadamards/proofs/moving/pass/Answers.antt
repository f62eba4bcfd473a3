use Rattle.std.proofs.Common.{refl, sym}
use Rattle.rv_hadamards.proofs.inside.Waiting.{ends, moves, stops}
use Rattle.rv_hadamards.proofs.moving.pass.Goals as goal

pub returns-then-is_h : goal.returns-then-is_h
returns-then-is_h c = ends c.args.line c.args.op c.args.made.now.items c.args.made.now.items refl (c.if-is_h.ensures refl)

pub returns-in_ok-push-in-Some : goal.returns-in_ok-push-in-Some
returns-in_ok-push-in-Some c =
    moves c.args.line c.args.op c.in-Some.other c.args.made.now.items c.push.new.self.items c.in_ok-push-in-Some.ensures.items
    (sym c.in-Some.ensures)

pub returns-in_ok-push-in-None-2 : goal.returns-in_ok-push-in-None-2
returns-in_ok-push-in-None-2 c =
    stops c.args.line c.args.op c.args.made.now.items c.push-in-None.new.self.items c.push-in-None-2.new.self.items c.in_ok-push-in-None.ensures.items
    c.in_ok-push-in-None-2.ensures.items
