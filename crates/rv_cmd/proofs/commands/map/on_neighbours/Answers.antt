use Rattle.std.proofs.Common.{ℕ, length, [], ◌∷◌}
use Rattle.rv_gate.specs.Circuit.{Cascade}
use Rattle.rv_mct.specs.Widened.{decomposed}
use Rattle.rv_near.specs.Near.{near_net, near_ops}
use Rattle.rv_words.specs.declared.command.Blocks.TheVariants.{Near}
use Rattle.rv_cmd.specs.declared.product.Product.{Product}
use Rattle.rv_cmd.specs.declared.product.Product.TheVariants as product
use Rattle.rv_cmd.specs.Commands.Decompose.{decomposition_limits}
use Rattle.rv_cmd.specs.Limits.{of_ops}
use Rattle.rv_cmd.proofs.Laws.Map.{near-answers, map-makes, map-refuses}
use Rattle.rv_cmd.proofs.inside.Limits.{refusal-before}
use Rattle.rv_cmd.proofs.commands.map.on_neighbours.Goals as goal

abbrev size : Cascade → ℕ
size c = length (near_ops c.gates)

abbrev written : Cascade → Product
written c = product.Network (near_net c)

pub returns-in-Ok-clause-made : goal.returns-in-Ok-clause-made
returns-in-Ok-clause-made c =
    let first = c.in-Ok.ensures in
    let circuit = c.args.circuit.now in
    map-makes Near c.args.aux circuit size written c.in-Ok.decomposed c.near_network.result (near-answers c.args.aux circuit c.recall_invariant.ensures first.kept) first.made
    c.recall_invariant-in-Ok.ensures c.near_network.ensures.few c.near_network.ensures.made

pub returns-in-Ok-clause-unmade : goal.returns-in-Ok-clause-unmade
returns-in-Ok-clause-unmade c =
    let first = c.in-Ok.ensures in
    map-refuses Near c.args.aux c.args.circuit.now size written c.in-Ok.decomposed c.near_network.result first.kept first.made c.near_network.ensures.unmade

pub returns-in-Err-clause-unmade : goal.returns-in-Err-clause-unmade
returns-in-Err-clause-unmade c =
    let aux = c.args.aux in
    let circuit = c.args.circuit.now in
    refusal-before 1 (decomposition_limits aux circuit) (of_ops (size (decomposed aux circuit)) ∷ []) c.in-Err.refusal c.in-Err.ensures.unmade
