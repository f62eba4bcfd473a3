use Rattle.std.proofs.Common.{arith}
use Rattle.std.proofs.Math.Nat.{one-le-pow}
use Rattle.rv_flow.proofs.Generated.{generated-are}
use Rattle.rv_flow.proofs.generator.shuffled.Goals as goal

pub returns : goal.returns
returns c =
    let v = c.in_ok-numbers.numbers in
    generated-are c.args.lines c.args.seed v.len c.deref_mut.result.now c.shuffle.new.numbers v.items c.deref_mut.ensures.value c.in_ok-numbers.ensures
    c.shuffle.ensures v.ok.0 (one-le-pow c.args.lines 2 (omega arith))
