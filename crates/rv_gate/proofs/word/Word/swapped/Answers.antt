use Rattle.std.proofs.Common.{◌<◌, length, refl}
use Rattle.rv_gate.specs.declared.gate.Shape.TheVariants.{Swap}
use Rattle.rv_gate.proofs.inside.GateLemmas.{fits_swap_a, fits_swap_b}
use Rattle.rv_gate.proofs.inside.WordLemmas.{still_there, swap_by_turns}
use Rattle.rv_gate.proofs.word.Word.swapped.Goals as goal

pub bit-requires : goal.bit-requires
bit-requires c = fits_swap_a (Swap c.args.care c.args.want c.args.a c.args.b) _ _ _ _ _ refl c.requires.fits

pub bit-requires-2 : goal.bit-requires-2
bit-requires-2 c = fits_swap_b (Swap c.args.care c.args.want c.args.a c.args.b) _ _ _ _ _ refl c.requires.fits

pub turned-requires : goal.turned-requires
turned-requires c = fits_swap_a (Swap c.args.care c.args.want c.args.a c.args.b) _ _ _ _ _ refl c.requires.fits

pub turned-requires-2 : goal.turned-requires-2
turned-requires-2 c =
    let b : c.args.b < length c.args.self = fits_swap_b (Swap c.args.care c.args.want c.args.a c.args.b) _ _ _ _ _ refl c.requires.fits in
    rw c.turned.ensures (still_there _ c.args.self c.args.a c.args.b b)

pub returns : goal.returns
returns c =
    rw (c.turned-2.ensures, c.turned.ensures)
    (swap_by_turns c.args.care c.args.want c.args.a c.args.b c.args.self c.requires.apart _ _ _ c.holds.ensures c.bit.ensures c.bit-2.ensures)
