-- What `single` writes: by the definitions alone, it is a circuit that computes the permutation.
use Rattle.rv_perm.specs.Marked.{IsMarked, Marked}
use Rattle.rv_dbs.specs.Singles.{single_synthesis_of}
use Rattle.rv_dbs.proofs.Stepped.{all_singles}
use Rattle.rv_cmd.specs.declared.product.Product.TheVariants.{Circuit}
use Rattle.rv_cmd.specs.Commands.Single.{IsSingleSynthesis, single_report}
use Rattle.rv_cmd.proofs.inside.Common.{◌≡◌, [], Cascade, IsCascade, IsProductOf, circuit-written}

-- the code found this circuit; nothing is refused
pub single-answers : (spec : Marked) (circuit : Cascade) → IsMarked spec → circuit ≡ single_synthesis_of spec → IsCascade circuit
    → IsProductOf (single_report spec) (IsSingleSynthesis spec) (Circuit circuit)
single-answers spec circuit marked is valid =
    circuit-written [] (IsSingleSynthesis spec) (single_synthesis_of spec) circuit tt is valid
    (λ back. record { read_back = back; singles = all_singles spec.table.lines spec.table.images marked.permutes })
