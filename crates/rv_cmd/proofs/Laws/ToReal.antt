-- What `toreal` writes: by the definitions alone, it is the circuit of the network.
use Rattle.rv_qasm.specs.Back.{circuit_back}
use Rattle.rv_qasm.specs.Reading.{Listing}
use Rattle.rv_qasm.proofs.BackLaws.{all_classical, denotes_gates, one_gate_each}
use Rattle.rv_cmd.specs.declared.product.Product.TheVariants.{Circuit}
use Rattle.rv_cmd.specs.Commands.ToReal.{IsCircuitOf, toreal_limits, toreal_report}
use Rattle.rv_cmd.proofs.inside.Common.{◌≡◌, AreKept, Cascade, IsCascade, IsNetwork, IsProductOf, circuit-written}

-- the code found this circuit
pub toreal-answers : (listing : Listing) (circuit : Cascade) → IsNetwork listing.net → AreKept (toreal_limits listing.net.ops) → circuit ≡ circuit_back listing.net
    → IsCascade circuit → IsProductOf (toreal_report listing) (IsCircuitOf listing) (Circuit circuit)
toreal-answers listing circuit given kept is valid =
    let ops = listing.net.ops in
    let all = all_classical ops kept.0 in
    circuit-written (toreal_limits ops) (IsCircuitOf listing) (circuit_back listing.net) circuit kept is valid
    (λ back. record { read_back = back; counted = one_gate_each ops all; denotes = denotes_gates listing.net.lines ops given.fitting all })
