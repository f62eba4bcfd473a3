use Rattle.std.proofs.Common.{◌∙◌, sym}
use Rattle.rv_mct.proofs.inside.Gates.{wish_of_flip}
use Rattle.rv_mct.proofs.gate.wish.Goals as goal

pub returns-in-Flip-clause-value : goal.returns-in-Flip-clause-value
returns-in-Flip-clause-value c =
    let flip = c.in-Flip in
    c.flip_wish.ensures.value
    ∙ sym (wish_of_flip c.args.aux c.args.lines flip.care flip.want flip.target c.args.gate (sym c.shape.ensures.value ∙ flip.is))
