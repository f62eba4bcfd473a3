use Rattle.std.proofs.Common.{◌≡◌, sym, subst}
use Rattle.rv_optimal.specs.inside.Alike.{swapped}
use Rattle.rv_optimal.proofs.inside.Bits.{swapped_first, swapped_second, swapped_third}
use Rattle.rv_optimal.proofs.alike.swapped.Goals as goal

pub returns-then-line-eq0 : goal.returns-then-line-eq0
returns-then-line-eq0 c =
    subst (λ line. c.exchanged.result ≡ swapped line c.args.key) (sym c.if-line-eq0.true)
    (swapped_first c.args.key c.exchanged-images.result c.exchanged.result c.exchanged.type_inv c.exchanged-images.ensures c.exchanged.ensures)

pub returns-then-line-eq1 : goal.returns-then-line-eq1
returns-then-line-eq1 c =
    subst (λ line. c.exchanged-then-line-eq1.result ≡ swapped line c.args.key) (sym c.if-line-eq1.true)
    (swapped_second c.args.key c.exchanged-images-then-line-eq1.result c.exchanged-then-line-eq1.result c.exchanged-then-line-eq1.type_inv c.exchanged-images-then-line-eq1.ensures c.exchanged-then-line-eq1.ensures)

pub returns : goal.returns
returns c =
    swapped_third c.args.line c.args.key c.exchanged-images-2.result c.exchanged-2.result c.if-line-eq0.false c.if-line-eq1.false c.exchanged-2.type_inv
    c.exchanged-images-2.ensures c.exchanged-2.ensures
