use Rattle.std.proofs.Common.{List, subst}
use Rattle.rv_gate.specs.declared.circuit.Mark.{Mark}
use Rattle.rv_sums.specs.inside.State.{IsFound}
use Rattle.rv_sums.proofs.Findings.{found_from}
use Rattle.rv_sums.proofs.by_paths.check_from_constants.Goals as goal

pub returns : goal.returns
returns c =
    let circuit = c.args.circuit.now in
    let finding = c.in_ok-finding.finding in
    found_from circuit c.args.net.now finding
    (subst (λ (l : List Mark). IsFound l circuit c.args.net.now finding) c.constant_row-marks.ensures c.in_ok-finding.ensures)
