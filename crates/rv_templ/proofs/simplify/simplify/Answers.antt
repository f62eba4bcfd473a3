use Rattle.std.proofs.Common.{length, sym, ◌∙◌, refl}
use Rattle.rv_links.specs.Nodes.{gates_in}
use Rattle.rv_templ.specs.inside.Library.{templates_in}
use Rattle.rv_templ.proofs.LinkedGates.{linked_gates}
use Rattle.rv_templ.proofs.StepLaws.{simplified_stop, settled_by}
use Rattle.rv_templ.proofs.inside.Stepping.{known_start, stepping_start, stepping_more, stepping_less, kept_gates}
use Rattle.rv_templ.proofs.simplify.simplify.Goals as goal

pub loop-known-init : goal.loop-known-init
loop-known-init c = record { frame = refl; steps = stepping_start _ _ _ _ (linked_gates c.args.linked.now c.recall_invariant.ensures); facts = known_start (templates_in c.args.templates.now) c.args.linked.now.nodes c.args.linked.now.notes _ _ c.front.ensures.place c.front.ensures.before c.front-2.ensures.place c.front-2.ensures.before c.requires.none }

pub make_step-known-requires-clause-known : goal.make_step-known-requires-clause-known
make_step-known-requires-clause-known c = rw c.in-Some.is at c.loop-known.invariant.facts

pub loop-known-smaller : goal.loop-known-smaller
loop-known-smaller c =
    rw c.in-Some.is
    (stepping_less _ _ _ _ _ _ _ c.requires.templates c.recall_invariant.ensures.circuit.names.few c.loop-known.invariant.steps c.make_step-known.ensures.stepped
    (kept_gates c.make_step-known.new.linked.nodes c.loop-known.linked.nodes c.make_step-known.result c.make_step-known.ensures.kept))

pub loop-known-preserved : goal.loop-known-preserved
loop-known-preserved c = record {
  frame = c.make_step-known.ensures.frame ∙ c.loop-known.invariant.frame;
  steps = stepping_more _ _ _ _ _ _ _ c.requires.templates c.recall_invariant.ensures.circuit.names.few c.loop-known.invariant.steps c.make_step-known.ensures.stepped
      c.make_step-known.ensures.settled (kept_gates c.make_step-known.new.linked.nodes c.loop-known.linked.nodes c.make_step-known.result c.make_step-known.ensures.kept);
  facts = c.make_step-known.ensures.known;
}

pub returns-clause-value : goal.returns-clause-value
returns-clause-value c =
    sym (c.loop-known.invariant.steps.value
    ∙ simplified_stop (length c.args.linked.now.frame.names) (templates_in c.args.templates.now) (gates_in c.loop-known.linked.nodes) c.requires.templates c.recall_invariant.ensures.circuit.names.few c.loop-known.invariant.steps.good
    (rw c.in_default.is at c.loop-known.invariant.steps.settled))

pub returns-clause-settled : goal.returns-clause-settled
returns-clause-settled c = settled_by (templates_in c.args.templates.now) (gates_in c.loop-known.linked.nodes) c.requires.templates (rw c.in_default.is at c.loop-known.invariant.steps.settled)
