use Rattle.std.proofs.Common.{get_or, length, sym}
use Rattle.rv_net.specs.declared.op.Op.TheVariants.{X}
use Rattle.rv_sums.proofs.inside.Ends.{fits_at, op_at}
use Rattle.rv_sums.proofs.inside.Shorter.{leads_then}
use Rattle.rv_sums.proofs.inside.Words.{from_end, from_round, from_start}
use Rattle.rv_sums.proofs.following.through_from.Goals as goal

pub places-init : goal.places-init
places-init c = from_start c.args.word c.args.ops.now c.in_ok-state.state c.in_ok-state.ensures

pub operate-requires : goal.operate-requires
operate-requires c =
    fits_at (length c.args.word) (length c.places.state.sums.items) c.args.ops.now c.places.place (get_or c.args.ops.now c.places.place (X 0))
    (sym c.places.invariant.lines_are) c.places-test.true (op_at c.args.ops.now c.places.place c.places-test.true) c.requires

pub places-preserved : goal.places-preserved
places-preserved c =
    from_round c.args.word c.args.ops.now c.places.place (get_or c.args.ops.now c.places.place (X 0)) c.places.state c.operate.new.self
    c.places-test.true (op_at c.args.ops.now c.places.place c.places-test.true) c.in_ok-operate.ensures c.places.invariant

pub returns : goal.returns
returns c =
    from_end c.args.word c.args.ops.now c.places.place c.places.state c.shorten.new.self c.places-test.false
    (leads_then c.places.state c.open.new.self c.shorten.new.self c.in_ok-open.ensures c.in_ok-shorten.ensures) c.places.invariant
