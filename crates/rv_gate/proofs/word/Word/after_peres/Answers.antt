use Rattle.std.proofs.Common.{◌≡◌, ◌<◌, ◌&&◌, length, sym, ◌∙◌, refl}
use Rattle.rv_gate.specs.Word.{bit_of}
use Rattle.rv_gate.specs.declared.gate.Shape.TheVariants.{Peres}
use Rattle.rv_gate.proofs.inside.GateLemmas.{fits_peres_a, fits_peres_b, fits_peres_c}
use Rattle.rv_gate.proofs.inside.WordLemmas.{still_there, peres_by_turns}
use Rattle.rv_gate.proofs.word.Word.after_peres.Goals as goal
use Rattle.rv_gate.proofs.word.Word.after_peres.Goals.{then-x, else-x}

pub bit-x-requires : goal.bit-x-requires
bit-x-requires c = fits_peres_a (Peres c.args.a c.args.b c.args.c) _ _ _ _ refl c.requires.fits

pub bit-both-requires : goal.bit-both-requires
bit-both-requires c = fits_peres_b (Peres c.args.a c.args.b c.args.c) _ _ _ _ refl c.requires.fits

pub turned-requires : goal.turned-requires
turned-requires c = fits_peres_b (Peres c.args.a c.args.b c.args.c) _ _ _ _ refl c.requires.fits

pub turned-requires-2 : goal.turned-requires-2
turned-requires-2 c =
    let at : c.args.c < length c.args.self = fits_peres_c (Peres c.args.a c.args.b c.args.c) _ _ _ _ refl c.requires.fits in
    rw c.turned.ensures (still_there _ c.args.self c.args.b c.args.c at)

pub returns : goal.returns
returns c =
    let both : c.if-x.both ≡ (bit_of c.args.self c.args.a && bit_of c.args.self c.args.b) =
    elim c.if-x.branch [
      | then-x w ↦ rw (sym c.bit-x.ensures ∙ w.if-x.true) (w.both-is ∙ w.bit-both.ensures)
      | else-x w ↦ rw (sym c.bit-x.ensures ∙ w.if-x.false) (w.both-is ∙ w.if-x.false)
    ] in
    rw (c.turned-2.ensures, c.turned.ensures)
    (peres_by_turns c.args.self c.args.a c.args.b c.args.c c.requires.apart _ _ c.bit-x.ensures both)
