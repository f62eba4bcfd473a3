use Rattle.std.proofs.Common.{◌∙◌, ◌+◌, ap, arith, length}
use Rattle.std.proofs.lemmas.List.{length-map}
use Rattle.rv_blif.specs.Netlist.{name_at}
use Rattle.rv_blif.specs.Placing.{Placing}
use Rattle.rv_blif.proofs.network.placed_network.Goals as goal

pub new-requires : goal.new-requires
new-requires c =
    let count = ap length c.in-Ok.ensures ∙ length-map c.args.inputs.now (name_at c.args.names.now) in
    let inputs = ap (λ (p : Placing). p.inputs) c.placing.view_is ∙ c.requires.inputs in
    let nodes = ap (λ (p : Placing). length p.nodes) c.placing.view_is in
    let outputs = c.in_ok-outputs.ensures.count in
    record {
      few = rw count (omega (arith, c.requires.inputs, c.requires.room, nodes));
      nodes = rw count (rw inputs at c.placing.invariant.nodes);
      some_outputs = omega (arith, outputs, c.requires.some);
      few_outputs = omega (arith, outputs, c.requires.few);
      outputs = rw count
          (c.in_ok-outputs.ensures.below (length c.args.inputs.now + length c.placing.inside.nodes.items)
          (λ name. rw c.deref-2.ensures.value (rw inputs at (c.placing.invariant.signals name))));
    }
