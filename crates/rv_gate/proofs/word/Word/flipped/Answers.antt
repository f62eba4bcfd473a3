use Rattle.std.proofs.Common.{refl}
use Rattle.rv_gate.specs.declared.gate.Shape.TheVariants.{Flip}
use Rattle.rv_gate.proofs.inside.GateLemmas.{fits_flip}
use Rattle.rv_gate.proofs.word.Word.flipped.Goals as goal

pub turned-requires : goal.turned-requires
turned-requires c = fits_flip (Flip c.args.care c.args.want c.args.target) _ _ _ _ refl c.requires
