use Rattle.std.proofs.Common.{◌≡◌, ◌≤◌, subst, sym, ◌∙◌}
use Rattle.rv_gate.specs.declared.gate.Shape.{Shape}
use Rattle.rv_gate.specs.declared.gate.Shape.TheVariants.{Flip}
use Rattle.rv_mct.specs.declared.aux.Aux.{Aux}
use Rattle.rv_mct.specs.Blocks.{flip_wish}
use Rattle.rv_gate.specs.Gate.{IsFlipOn}
use Rattle.rv_ladder.proofs.block.add_flip_net.Goals as goal

pub add_long_clean-requires-clause-ready : goal.add_long_clean-requires-clause-ready
add_long_clean-requires-clause-ready c =
    let g : Shape = Flip c.in-Flip.care c.in-Flip.want c.in-Flip.target in
    let e : c.args.flip ≡ g = sym c.shape.ensures.value ∙ c.in-Flip.is in
    let P : Shape → Type 0 = λ f. IsFlipOn c.args.lines f in
    let Q : Shape → Type 0 = λ f. flip_wish c.args.aux c.args.lines f ≤ c.args.extra in
    let R : Aux → Type 0 = λ a. flip_wish a c.args.lines g ≤ c.args.extra in
    record { few = c.requires.few; own = subst P e c.requires.own; enough = subst R c.in-Clean.is (subst Q e c.requires.enough) }

pub add_long_borrowed-requires-clause-ready : goal.add_long_borrowed-requires-clause-ready
add_long_borrowed-requires-clause-ready c =
    let g : Shape = Flip c.in-Flip.care c.in-Flip.want c.in-Flip.target in
    let e : c.args.flip ≡ g = sym c.shape.ensures.value ∙ c.in-Flip.is in
    let P : Shape → Type 0 = λ f. IsFlipOn c.args.lines f in
    let Q : Shape → Type 0 = λ f. flip_wish c.args.aux c.args.lines f ≤ c.args.extra in
    let R : Aux → Type 0 = λ a. flip_wish a c.args.lines g ≤ c.args.extra in
    record { few = c.requires.few; own = subst P e c.requires.own; enough = subst R c.in-Borrowed.is (subst Q e c.requires.enough) }
