use Rattle.rv_sums.proofs.Findings.{undecided_result}
use Rattle.rv_sums.proofs.by_paths.find.Goals as goal

pub returns-in-Err : goal.returns-in-Err
returns-in-Err c = undecided_result c.args.marks.now c.args.circuit.now c.args.net.now c.finding_of.result c.finding_of.ensures
