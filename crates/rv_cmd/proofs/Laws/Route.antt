-- What `route` writes: by the definitions alone, it does what the circuit does, by gates on neighbouring lines.
use Rattle.rv_route.specs.Routed.{routed}
use Rattle.rv_route.proofs.inside.Routes.{near, same_run}
use Rattle.rv_cmd.specs.declared.product.Product.TheVariants.{Circuit}
use Rattle.rv_cmd.specs.Commands.Route.{IsRouting, route_report}
use Rattle.rv_cmd.proofs.inside.Common.{◌≡◌, ◌≤◌, [], ◌∷◌, Cascade, IsCascade, IsProductOf, MOST_GATES, circuit-written, length, of_gates}

-- the code found this circuit
pub route-answers : (c made : Cascade) → IsCascade c → length (routed c).gates ≤ MOST_GATES → made ≡ routed c → IsCascade made
    → IsProductOf (route_report c) (IsRouting c) (Circuit made)
route-answers c made given few is valid =
    circuit-written (of_gates (length (routed c).gates) ∷ []) (IsRouting c) (routed c) made (few, tt) is valid
    (λ back. record { read_back = back; same = same_run c given; near = near c given })
