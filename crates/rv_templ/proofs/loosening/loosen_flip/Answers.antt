use Rattle.std.proofs.Common.{length, subst}
use Rattle.rv_gate.specs.Gate.{IsGate}
use Rattle.rv_templ.proofs.LinkedGates.{linked_gates}
use Rattle.rv_templ.proofs.inside.LookupLaws.{live_gate}
use Rattle.rv_templ.proofs.loosening.loosen_flip.Goals as goal

pub returns-in-None-clause-all : goal.returns-in-None-clause-all
returns-in-None-clause-all c t =
    let l = c.args.linked.now in
    (t, λ x on lt e. absurd (c.in-None.ensures (subst IsGate e (live_gate (length l.frame.names) l.nodes x c.recall_invariant.ensures.once (linked_gates l c.recall_invariant.ensures) on))))
