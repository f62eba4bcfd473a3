-- What `embed` writes: by the definitions alone, it is an embedding of the PLA.
use Rattle.rv_perm.specs.Marked.{IsMarked, Marked}
use Rattle.rv_perm.specs.Text.{text_of}
use Rattle.rv_perm.proofs.inside.ReadBack.{read_back}
use Rattle.rv_pla.specs.Pla.{TwoLevel}
use Rattle.rv_embed.specs.Embedding.{embedding_of}
use Rattle.rv_embed.proofs.Embeds.{embedding-embeds}
use Rattle.rv_cmd.specs.declared.product.Product.TheVariants.{Permutation}
use Rattle.rv_cmd.specs.Commands.Embed.{IsEmbedded, embed_limits, embed_report}
use Rattle.rv_cmd.proofs.inside.Common.{◌≡◌, AreKept, IsProductOf, ap, subst}

-- the code found this permutation
pub embed-answers : (pla : TwoLevel) (spec : Marked) → AreKept (embed_limits pla) → spec ≡ embedding_of pla → IsMarked spec → IsProductOf (embed_report pla) (IsEmbedded pla) (Permutation spec)
embed-answers pla spec kept is marked = record {
  kept = kept;
  is = ap text_of is;
  means = record { read_back = read_back (embedding_of pla) (subst IsMarked is marked); means = embedding-embeds pla };
}
