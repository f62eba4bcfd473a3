use Rattle.std.proofs.Common.{arith}
use Rattle.rv_qasm.proofs.inside.Steps.{steps-none, stepped, stops_in}
use Rattle.rv_qasm.proofs.reached.Reached.take_bytes.Goals as goal

pub loop-at-init : goal.loop-at-init
loop-at-init c = record { line = omega arith; so_far = steps-none c.args.self.now }

pub returns-in-Err-clause-stops : goal.returns-in-Err-clause-stops
returns-in-Err-clause-stops c = stops_in c.args.self.now c.loop-at.self c.take_byte.new.self c.args.bytes.now c.loop-at.at c.in-Err.fault c.loop-at-test.true c.loop-at.invariant.so_far c.in-Err.ensures.step

pub returns-then-bytes-at-eq10-clause-steps : goal.returns-then-bytes-at-eq10-clause-steps
returns-then-bytes-at-eq10-clause-steps c =
    stepped c.args.self.now c.loop-at.self c.take_byte.new.self c.args.bytes.now c.loop-at.at c.loop-at-test.true c.loop-at.invariant.so_far c.in-Ok.ensures.step

pub loop-at-preserved : goal.loop-at-preserved
loop-at-preserved c = record {
  line = omega (arith, c.loop-at.invariant.line, c.in-Ok.ensures.line);
  so_far = stepped c.args.self.now c.loop-at.self c.take_byte.new.self c.args.bytes.now c.loop-at.at c.loop-at-test.true c.loop-at.invariant.so_far c.in-Ok.ensures.step;
}
