use Rattle.std.proofs.Common.{◌∙◌, refl}
use Rattle.rv_diagram.specs.Diagram.{value}
use Rattle.rv_diagram.proofs.FirstApart.{same_value}
use Rattle.rv_diagram.proofs.diagram.Diagram.and_same.Goals as goal

pub returns-clause-value : goal.returns-clause-value
returns-clause-value c = λ x.
    let start = c.args.self.now in
    let same_is = same_value c.xor.new.self c.in_ok-apart.apart (value start c.args.f x) (value start c.args.g x) x (c.in_ok-apart.ensures.value x) in
    let turned = rw c.turn.ensures at c.in_ok-both.ensures.value in
    turned x ∙ rw (same_is, c.in_ok-apart.ensures.keeps.same c.args.agree x c.requires.agree) refl
