use Rattle.std.proofs.Common.{◌+◌, ap, sym, ◌∙◌, arith}
use Rattle.rv_gate.specs.Word.{has}
use Rattle.rv_compute.specs.declared.controls.Controls.TheVariants.{Held, Never, Missing}
use Rattle.rv_compute.proofs.inside.Asking.{asked_first, asked_none, asked_more, asked_all, asked_never, asked_controls, have_asked, told_serve}
use Rattle.rv_compute.proofs.controls.controls_of.Goals as goal
use Rattle.rv_compute.proofs.controls.controls_of.Goals.{then-has+in-Some+in-Held, else-has}

pub loop-i-init : goal.loop-i-init
loop-i-init c = asked_first c.args.lines c.args.places.now c.args.product

pub loop-i-preserved : goal.loop-i-preserved
loop-i-preserved c =
    let so_far = c.loop-i.invariant in
    let i = c.loop-i.i in
    let product = c.args.product in
    elim c.if-has.branch [
      | then-has+in-Some+in-Held w ↦
          have_asked c.args.lines c.args.places.now product (i + 1) w.in-Held.c w.in-Held.w _ _ w.care-is w.want-is
          (asked_more c.args.lines c.args.places.now product i c.loop-i.care c.loop-i.want w.in-Held.c w.in-Held.w
          w.in-Some.place so_far
          (ap (λ s. has s i) (sym c.from.ensures) ∙ sym c.has.ensures ∙ w.if-has.true) w.in-Some.is
          (asked_controls c.args.lines c.loop-i.care c.loop-i.want w.in-Some.place w.has-bit.result
          (has product.want i) w.with_place.result (Held w.in-Held.c w.in-Held.w)
          (w.has-bit.ensures ∙ ap (λ s. has s i) w.from-then-has.ensures) w.in-Held.is w.with_place.ensures.asks)
          (λ target beside serve. told_serve c.args.lines target w.with_place.result (Held w.in-Held.c w.in-Held.w) w.in-Held.is
          (w.with_place.ensures.serves target beside serve)))
      | else-has w ↦
          have_asked c.args.lines c.args.places.now product (i + 1) c.loop-i.care c.loop-i.want _ _ w.care-is w.want-is
          (asked_none c.args.lines c.args.places.now product i c.loop-i.care c.loop-i.want so_far
          (ap (λ s. has s i) (sym c.from.ensures) ∙ sym c.has.ensures ∙ w.if-has.false))
    ]

pub returns-clause-asks : goal.returns-clause-asks
returns-clause-asks c =
    asked_all c.args.lines c.args.places.now c.args.product c.loop-i.i c.loop-i.care c.loop-i.want (omega arith)
    c.loop-i.invariant

pub returns-in-Never-clause-asks : goal.returns-in-Never-clause-asks
returns-in-Never-clause-asks c =
    let i = c.loop-i.i in
    asked_never c.args.lines c.args.places.now c.args.product i c.loop-i.care c.loop-i.want c.in-Some.place
    (omega arith) c.loop-i.invariant
    (ap (λ s. has s i) (sym c.from.ensures) ∙ sym c.has.ensures ∙ c.if-has.true) c.in-Some.is
    (asked_controls c.args.lines c.loop-i.care c.loop-i.want c.in-Some.place c.has-bit.result
    (has c.args.product.want i) c.with_place.result Never
    (c.has-bit.ensures ∙ ap (λ s. has s i) c.from-then-has.ensures) c.in-Never.is c.with_place.ensures.asks)

pub returns-clause-serves : goal.returns-clause-serves
returns-clause-serves c target beside there = c.loop-i.invariant.serve target beside

pub returns-in-Missing-clause-serves : goal.returns-in-Missing-clause-serves
returns-in-Missing-clause-serves c target beside there =
    told_serve c.args.lines target c.with_place.result Missing c.in-Missing.is
    (c.with_place.ensures.serves target (beside c.loop-i.i c.in-Some.place c.in-Some.is) (c.loop-i.invariant.serve target beside))
