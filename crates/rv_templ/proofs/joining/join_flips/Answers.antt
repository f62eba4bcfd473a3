use Rattle.std.proofs.Common.{◌∙◌, ap, sym, subst, not, ◌&&◌, ◌||◌, [], ◌∷◌, List}
use Rattle.std.specs.Prelude.{Option, Some}
use Rattle.rv_gate.specs.declared.word.TheConstants.{MOST_LINES}
use Rattle.rv_gate.specs.Word.{has}
use Rattle.rv_gate.specs.Gate.{xor, IsGate}
use Rattle.rv_gate.specs.declared.gate.Shape.{Shape}
use Rattle.rv_templ.specs.Pairs.{apart_on}
use Rattle.rv_templ.proofs.JoinLaws.{lone_is, third_gate, join_both, join_none, join_third, third_built}
use Rattle.rv_templ.proofs.joining.join_flips.Goals as goal

pub returns-then-same : goal.returns-then-same
returns-then-same c = join_both c.args.care c.args.want c.args.care2 c.args.want2 c.args.target (sym c.if-same.ensures)

pub unreachable-requires : goal.unreachable-requires
unreachable-requires c =
    let e = lone_is (apart_on c.args.care c.args.want c.args.care2 c.args.want2) MOST_LINES c.in-Some.line (sym c.in-Some.ensures.is) in
    let b = third_built c.args.care c.args.want c.args.care2 c.args.want2 c.args.target c.in-Some.line c.differ-control.result c.wanted-value.result c.with_line-new_care.result c.with_line-new_want.result
    (c.differ-control.ensures ∙ ap (λ x. xor x c.has-in-Some.result) c.has.ensures ∙ ap (xor (has c.args.care c.in-Some.line)) c.has-in-Some.ensures)
    (c.wanted-value.ensures ∙ ap (λ x. c.differ-control.result && not (x || c.has-in-Some-3.result)) c.has-in-Some-2.ensures ∙ ap (λ x. c.differ-control.result && not (has c.args.want c.in-Some.line || x)) c.has-in-Some-3.ensures)
    c.with_line-new_care.ensures c.with_line-new_want.ensures in
    c.in-None-flip.ensures (subst IsGate (sym b) (third_gate c.args.care c.args.want c.args.care2 c.args.want2 c.args.target c.in-Some.line c.requires.first c.requires.second e))

pub returns-in-None : goal.returns-in-None
returns-in-None c = join_none c.args.care c.args.want c.args.care2 c.args.want2 c.args.target (sym c.if-same.ensures) c.in-None.ensures.is

pub returns-in-Some-flip : goal.returns-in-Some-flip
returns-in-Some-flip c =
    let e = lone_is (apart_on c.args.care c.args.want c.args.care2 c.args.want2) MOST_LINES c.in-Some.line (sym c.in-Some.ensures.is) in
    let b = third_built c.args.care c.args.want c.args.care2 c.args.want2 c.args.target c.in-Some.line c.differ-control.result c.wanted-value.result c.with_line-new_care.result c.with_line-new_want.result
    (c.differ-control.ensures ∙ ap (λ x. xor x c.has-in-Some.result) c.has.ensures ∙ ap (xor (has c.args.care c.in-Some.line)) c.has-in-Some.ensures)
    (c.wanted-value.ensures ∙ ap (λ x. c.differ-control.result && not (x || c.has-in-Some-3.result)) c.has-in-Some-2.ensures ∙ ap (λ x. c.differ-control.result && not (has c.args.want c.in-Some.line || x)) c.has-in-Some-3.ensures)
    c.with_line-new_care.ensures c.with_line-new_want.ensures in
    ap (λ (g : Shape). let o : Option (List Shape) = Some (g ∷ []) in o) (c.in-Some-flip.ensures.1 ∙ b)
    ∙ join_third c.args.care c.args.want c.args.care2 c.args.want2 c.args.target c.in-Some.line (sym c.if-same.ensures) c.in-Some.ensures.is
