use Rattle.std.proofs.Common.{ap, arith, length, length-drop}
use Rattle.rv_qasm.proofs.inside.Steps.{steps-none, went_on, stopped_from}
use Rattle.rv_qasm.proofs.reached.Reached.take.Goals as goal
use Rattle.rv_gate.proofs.Lists.{take_rest}

pub loop-at-init : goal.loop-at-init
loop-at-init c = record { within = omega arith; line = omega arith; so_far = steps-none c.args.self.now }

pub loop-at-preserved : goal.loop-at-preserved
loop-at-preserved c =
    let rest = take_rest c.args.piece.now c.loop-at.at in
    record {
      within = omega (arith, ap length rest, length-drop c.loop-at.at c.args.piece.now, c.in-Ok.ensures.some.1, c.loop-at.invariant.within);
      line = omega (arith, c.loop-at.invariant.line, c.in-Ok.ensures.line);
      so_far = went_on c.args.self.now c.loop-at.self c.take_some.new.self c.args.piece.now _ c.loop-at.at c.in-Ok.count rest c.loop-at.invariant.so_far c.in-Ok.ensures.steps;
    }

pub returns-in-Err-clause-steps : goal.returns-in-Err-clause-steps
returns-in-Err-clause-steps c =
    stopped_from c.args.self.now c.loop-at.self c.take_some.new.self c.args.piece.now _ c.loop-at.at c.in-Err.fault (take_rest c.args.piece.now c.loop-at.at) c.loop-at.invariant.so_far c.in-Err.ensures.stops
