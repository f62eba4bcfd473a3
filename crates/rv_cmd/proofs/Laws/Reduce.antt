-- What `reduce` writes: the text of any reduction of the network.
use Rattle.std.proofs.Common.{◌≡◌, refl, subst}
use Rattle.rv_net.specs.Op.{Network}
use Rattle.rv_reduce.specs.ByGoal.{IsReductionBy}
use Rattle.rv_reduce.specs.Reduced.{IsReductionOf}
use Rattle.rv_reduce.specs.declared.goal.Goal.{Goal}
use Rattle.rv_qasm.specs.Reading.{Listing}
use Rattle.rv_qasm.specs.Text.{text_of}
use Rattle.rv_qasm.proofs.inside.ReadBack.{read-back}
use Rattle.rv_cmd.specs.declared.product.Product.TheVariants as product
use Rattle.rv_cmd.specs.Commands.Reduce.{IsReduced, IsReducedBy, reduce_limits}
use Rattle.rv_cmd.specs.Limits.{found_within}
use Rattle.rv_cmd.specs.inside.Products.{IsProductOf}

-- the law; nothing is refused
pub reduce-answers : (listing : Listing) (net reduced : Network) → net ≡ listing.net → IsReductionOf net reduced
    → IsProductOf (found_within (reduce_limits listing) (text_of reduced)) (IsReduced listing) (product.Network reduced)
reduce-answers listing net reduced own reduction =
    let Reduction : Network → Type 0 = λ n. IsReductionOf n reduced in record {
      kept = tt;
      is = refl;
      means = record { net = reduced; is = refl; read_back = read-back reduced reduction.keeps.valid; reduction = subst Reduction own reduction };
    }

pub reduced-by-answers : (goal : Goal) (listing : Listing) (net reduced : Network) → net ≡ listing.net → IsReductionBy goal net reduced
    → IsProductOf (found_within (reduce_limits listing) (text_of reduced)) (IsReducedBy goal listing) (product.Network reduced)
reduced-by-answers goal listing net reduced own reduction =
    let Reduction : Network → Type 0 = λ n. IsReductionBy goal n reduced in record {
      kept = tt;
      is = refl;
      means = record { net = reduced; is = refl; read_back = read-back reduced reduction.improves.keeps.valid; reduction = subst Reduction own reduction };
    }
