use Rattle.std.proofs.Common.{length, ap, arith, refl}
use Rattle.rv_flow.proofs.summary.summed_up.Goals as goal

pub returns-clause-summary : goal.returns-clause-summary
returns-clause-summary c =
    let made = c.in_ok-made.ensures in
    rw (c.gates.ensures, c.gates-2.ensures, made.gates, made.added, made.cost) refl

pub returns-clause-small : goal.returns-clause-small
returns-clause-small c =
    let made = c.in_ok-made.ensures in
    let few = c.requires in
    record {
      synthesised = omega (arith, ap length c.gates.ensures, few.gates);
      simplified = omega (arith, ap length c.gates.ensures, ap length c.gates-2.ensures, few.fewer);
      decomposed = omega (arith, made.few, few.decomposed);
      added = omega (arith, made.added, few.helpers);
      operations = made.operations;
    }
