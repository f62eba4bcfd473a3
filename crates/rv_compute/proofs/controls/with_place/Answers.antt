use Rattle.std.proofs.Common.{◌&&◌, Bool, ap, sym, subst, ◌∙◌, arith}
use Rattle.rv_gate.specs.Gate.{holds, same}
use Rattle.rv_compute.specs.declared.place.Place.{Place}
use Rattle.rv_compute.specs.inside.Places.{place_value, IsBeside}
use Rattle.rv_compute.specs.inside.Blocks.{IsWithPlace}
use Rattle.rv_compute.proofs.inside.Asking.{constant_as_wanted, constant_otherwise, placed}
use Rattle.rv_compute.proofs.controls.with_place.Goals as goal

pub returns-then-value-bit-clause-asks : goal.returns-then-value-bit-clause-asks
returns-then-value-bit-clause-asks c word len =
    let rest : Bool = holds c.args.care c.args.want word in
    constant_as_wanted c.in-Constant.value c.args.bit rest c.if-value-bit.true
    ∙ ap (λ (p : Place). same (place_value word p) c.args.bit && rest) (sym c.in-Constant.is)

pub returns-else-value-bit-clause-asks : goal.returns-else-value-bit-clause-asks
returns-else-value-bit-clause-asks c word len =
    let rest : Bool = holds c.args.care c.args.want word in
    ap (λ (p : Place). same (place_value word p) c.args.bit && rest) c.in-Constant.is
    ∙ constant_otherwise c.in-Constant.value c.args.bit rest c.if-value-bit.false

pub returns-then-line-lines-clause-asks : goal.returns-then-line-lines-clause-asks
returns-then-line-lines-clause-asks c =
    let P : Place → Type 0 =
    λ p. IsWithPlace c.args.lines c.args.care c.args.want p c.args.bit c.with_line.result in
    subst P (sym c.in-Line.is)
    (placed c.args.lines c.args.care c.args.want c.in-Line.line c.in-Line.on c.args.bit c.with_line.result
    c.if-line-lines.true c.with_line.ensures.asks)

pub returns-then-line-lines-clause-serves : goal.returns-then-line-lines-clause-serves
returns-then-line-lines-clause-serves c target beside serve =
    let apart = subst (λ (p : Place). IsBeside c.args.lines target p) c.in-Line.is beside in
    c.with_line.ensures.serves c.args.lines target apart.0 apart.1 serve

pub returns-else-line-lines-clause-serves : goal.returns-else-line-lines-clause-serves
returns-else-line-lines-clause-serves c target beside serve =
    let apart = subst (λ (p : Place). IsBeside c.args.lines target p) c.in-Line.is beside in
    let below = apart.0 in
    let past = c.if-line-lines.false in
    absurd (omega arith)
