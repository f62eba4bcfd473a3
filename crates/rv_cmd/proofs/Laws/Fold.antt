-- What `fold` writes: by the definitions alone, it is the text of the folded network.
use Rattle.std.proofs.Common.{◌≡◌, ◌∙◌, ap, subst}
use Rattle.rv_net.specs.Op.{Network}
use Rattle.rv_fold.specs.Folded.{IsEquivalence, IsFoldingOf, RestartsLeast, folded_network}
use Rattle.rv_qasm.specs.Reading.{Listing}
use Rattle.rv_qasm.specs.Text.{text_of}
use Rattle.rv_qasm.proofs.inside.ReadBack.{read-back}
use Rattle.rv_cmd.specs.declared.product.Product.TheVariants as product
use Rattle.rv_cmd.specs.Commands.Fold.{IsFolded, fold_report}
use Rattle.rv_cmd.specs.inside.Products.{IsProductOf}

-- the law; nothing is refused
pub fold-answers : (listing : Listing) (net folded : Network) → net ≡ listing.net → IsFoldingOf net folded → IsEquivalence net.lines net.ops
    → RestartsLeast net.lines net.ops → IsProductOf (fold_report listing) (IsFolded listing) (product.Network folded)
fold-answers listing net folded own folding classes restarts =
    let made : Network = folded_network listing.net in
    let here : folded ≡ made = folding.is ∙ ap folded_network own in
    let kept : IsFoldingOf net made = subst (IsFoldingOf net) here folding in
    let Folding : Network → Type 0 = λ n. IsFoldingOf n made in
    let Classes : Network → Type 0 = λ n. IsEquivalence n.lines n.ops in
    let Restarts : Network → Type 0 = λ n. RestartsLeast n.lines n.ops in record {
      kept = tt;
      is = ap text_of here;
      means = record {
        read_back = read-back made kept.valid;
        folding = subst Folding own kept;
        classes = subst Classes own classes;
        restarts = subst Restarts own restarts;
      };
    }
