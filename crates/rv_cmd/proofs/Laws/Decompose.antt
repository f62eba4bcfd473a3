-- What `decompose` writes: by the definitions alone, it is a decomposition of the circuit.
use Rattle.rv_mct.specs.Widened.{decomposed}
use Rattle.rv_mct.specs.declared.aux.Aux.{Aux}
use Rattle.rv_mct.proofs.Decomposition.{decomposes}
use Rattle.rv_cmd.specs.declared.product.Product.TheVariants.{Circuit}
use Rattle.rv_cmd.specs.Commands.Decompose.{IsDecomposition, decompose_report, decomposition_limits}
use Rattle.rv_cmd.proofs.inside.Common.{◌≡◌, AreKept, Cascade, IsCascade, IsProductOf, circuit-written}

-- the code found this circuit
pub decompose-answers : (aux : Aux) (c made : Cascade) → IsCascade c → AreKept (decomposition_limits aux c) → made ≡ decomposed aux c → IsCascade made
    → IsProductOf (decompose_report aux c) (IsDecomposition aux c) (Circuit made)
decompose-answers aux c made given kept is valid =
    circuit-written (decomposition_limits aux c) (IsDecomposition aux c) (decomposed aux c) made kept is valid
    (λ back. record { read_back = back; decomposes = decomposes aux c given kept.0 })
