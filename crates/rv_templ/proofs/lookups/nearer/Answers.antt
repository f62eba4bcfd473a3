use Rattle.std.proofs.Common.{length, sym, ◌∙◌, subst}
use Rattle.rv_gate.specs.Gate.{IsGate}
use Rattle.rv_templ.proofs.LinkedGates.{linked_gates}
use Rattle.rv_templ.proofs.inside.LookupLaws.{tells_reaches, tells_found, live_gate}
use Rattle.rv_templ.proofs.lookups.nearer.Goals as goal

pub returns-in-None-clause-this : goal.returns-in-None-clause-this
returns-in-None-clause-this c x on le e =
    let l = c.args.linked.now in
    absurd (c.in-None.ensures (subst IsGate e (live_gate (length l.frame.names) l.nodes x c.recall_invariant.ensures.once (linked_gates l c.recall_invariant.ensures) on)))

pub returns-in-Some-clause-found : goal.returns-in-Some-clause-found
returns-in-Some-clause-found c f = c.sooner.ensures.found _ _ f (tells_found _ _ _ _ c.sought.ensures)

pub returns-in-Some-clause-this : goal.returns-in-Some-clause-this
returns-in-Some-clause-this c x on le e = c.sooner.ensures.second x (tells_reaches _ _ _ _ c.sought.ensures x on le (e ∙ sym c.in-Some.ensures.1))
