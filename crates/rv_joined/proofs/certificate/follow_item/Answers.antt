use Rattle.std.proofs.Common.{◌<◌, length, ap, arith}
use Rattle.rv_gate.proofs.Greatest.{greatest_at}
use Rattle.rv_mct.specs.Blocks.{flip_wish}
use Rattle.rv_joined.proofs.inside.Joins.{followed_flip, followed_phase}
use Rattle.rv_joined.proofs.certificate.follow_item.Goals as goal

pub follow_flip-requires-clause-enough : goal.follow_flip-requires-clause-enough
follow_flip-requires-clause-enough c =
    let h : c.args.next < length c.args.flips.now = omega (arith, c.if-next-flips.false) in
    let f = flip_wish c.args.setup.aux c.args.setup.lines in
    let g = greatest_at f c.args.flips.now c.args.next c.index-flips-next.result h in
    let e = ap f c.index-flips-next.is in
    omega (arith, c.requires.enough)

pub returns-else-not-branch : goal.returns-else-not-branch
returns-else-not-branch c begin so_far =
    followed_phase c.args.setup c.args.terms.now c.args.state.now c.follow_phase.new.state begin c.args.flips.now c.args.next
    (c.in_ok-follow_phase-in-Phase.ensures c.if-not-branch.false) so_far

pub returns-else-not-branch-2 : goal.returns-else-not-branch-2
returns-else-not-branch-2 c begin so_far =
    followed_flip c.args.setup c.args.terms.now c.args.state.now c.follow_flip.new.state begin c.args.flips.now c.args.next
    c.index-flips-next.result (omega (arith, c.if-next-flips.false)) c.index-flips-next.is
    (c.in_ok-follow_flip-in-Flip.ensures c.if-not-branch-2.false) so_far
