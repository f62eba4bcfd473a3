use Rattle.std.proofs.Common.{List, get_or, length, sym, subst}
use Rattle.rv_gate.specs.declared.gate.Shape.{Shape}
use Rattle.rv_net.specs.declared.op.Op.TheVariants.{X}
use Rattle.rv_sums.specs.inside.State.{Reached}
use Rattle.rv_sums.proofs.inside.Ends.{fits_at, op_at, reached_end, reached_round, reached_start}
use Rattle.rv_sums.proofs.inside.Shorter.{leads_then}
use Rattle.rv_sums.proofs.following.through.Goals as goal

pub places-init : goal.places-init
places-init c =
    let ops = c.args.ops.now in
    let flips = c.args.flips.now in
    let state = c.in_ok-state.state in
    let marks = c.args.marks.now in
    let facts = state.facts.sums.items in
    subst (λ (l : List Shape). Reached marks facts c.args.lines ops ops flips l state.sum) (sym (c.in_ok-state.ensures.left flips))
    (reached_start marks facts c.args.lines ops flips state.sum c.in_ok-state.ensures.sum c.in_ok-state.ensures.facts c.requires.each)

pub operate-requires : goal.operate-requires
operate-requires c =
    fits_at c.args.lines (length c.places.state.sum.sums.items) c.args.ops.now c.places.place (get_or c.args.ops.now c.places.place (X 0))
    (sym c.places.invariant.lines_are) c.places-test.true (op_at c.args.ops.now c.places.place c.places-test.true) c.requires.fits

pub places-preserved : goal.places-preserved
places-preserved c =
    reached_round c.args.marks.now c.args.lines c.args.ops.now c.args.flips.now c.places.place (get_or c.args.ops.now c.places.place (X 0)) c.places.state
    c.operate.new.self c.places-test.true (op_at c.args.ops.now c.places.place c.places-test.true) c.in_ok-operate.ensures c.places.invariant

pub returns : goal.returns
returns c =
    reached_end c.args.marks.now c.args.lines c.args.ops.now c.args.flips.now c.places.place c.places.state c.finish.new.self c.shorten.new.self
    c.places-test.false c.in_ok-finish.ensures.takes c.in_ok-finish.ensures.all
    (leads_then c.finish.new.self.sum c.open.new.self c.shorten.new.self c.in_ok-open.ensures c.in_ok-shorten.ensures) c.places.invariant
