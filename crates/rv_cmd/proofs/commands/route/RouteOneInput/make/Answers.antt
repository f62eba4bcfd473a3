use Rattle.rv_route.specs.Routed.{routed}
use Rattle.rv_route.specs.declared.fault.RouteFault.TheVariants as fault
use Rattle.rv_cmd.proofs.inside.Common.{[], MOST_GATES, few-by, length, refl}
use Rattle.rv_cmd.proofs.Laws.Route.{route-answers}
use Rattle.rv_cmd.proofs.commands.route.RouteOneInput.make.Goals as goal

pub returns-in-Ok-clause-made : goal.returns-in-Ok-clause-made
returns-in-Ok-clause-made c =
    let few = few-by fault.TooManyGates (length (routed c.args.circuit.now).gates) MOST_GATES c.in-Ok.routed c.in-Ok.ensures.too_many_gates in
    route-answers c.args.circuit.now c.in-Ok.routed c.recall_invariant.ensures few c.in-Ok.ensures.circuit c.recall_invariant-in-Ok.ensures

pub returns-in-Err-TooManyGates-clause-unmade : goal.returns-in-Err-TooManyGates-clause-unmade
returns-in-Err-TooManyGates-clause-unmade c =
    let e = c.in-Err-TooManyGates in
    c.too_many_gates.ensures (length (routed c.args.circuit.now).gates) [] [] tt ((e.ensures.too_many_gates e.count).0 (rw e.field-0-is refl))
