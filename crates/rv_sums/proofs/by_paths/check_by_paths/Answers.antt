use Rattle.rv_sums.proofs.Findings.{found_right}
use Rattle.rv_sums.proofs.by_paths.check_by_paths.Goals as goal

pub returns : goal.returns
returns c = found_right c.args.circuit.now c.args.net.now c.in_ok-finding.finding c.in_ok-finding.ensures
