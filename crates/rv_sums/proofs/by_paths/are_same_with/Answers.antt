use Rattle.std.proofs.Common.{List, sym, subst}
use Rattle.rv_gate.specs.declared.circuit.Mark.{Mark}
use Rattle.rv_sums.specs.Finding.{HasConstants}
use Rattle.rv_sums.proofs.Findings.{weaker_denotes}
use Rattle.rv_sums.proofs.by_paths.are_same_with.Goals as goal

pub returns : goal.returns
returns c on =
    weaker_denotes c.args.marks.now c.deref.result.now c.args.circuit.now c.args.net.now
    (λ word h. subst (λ (l : List Mark). HasConstants l word) (sym c.deref.ensures.value) (c.in_ok-held.ensures word h))
    (c.in_ok-sums.ensures on)
