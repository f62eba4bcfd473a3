use Rattle.rv_sums.proofs.Findings.{all_from}
use Rattle.rv_sums.proofs.by_paths.are_same_otherwise.Goals as goal

pub returns : goal.returns
returns c on = all_from c.args.marks.now c.args.circuit.now c.args.net.now (c.in_ok-sums.ensures on)
