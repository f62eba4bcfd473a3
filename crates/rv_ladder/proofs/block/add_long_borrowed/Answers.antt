use Rattle.std.proofs.Common.{◌+◌, ◌∙◌, ap, arith}
use Rattle.rv_mct.specs.Blocks.{is_free}
use Rattle.rv_mct.proofs.inside.Gates.{free_some, first_free}
use Rattle.rv_ladder.proofs.block.add_long_borrowed.Goals as goal

pub first_free-helper-requires-clause-some : goal.first_free-helper-requires-clause-some
first_free-helper-requires-clause-some c = free_some c.args.lines c.args.extra c.args.care c.args.want c.args.t c.requires.ready c.requires.many

pub add_split-requires-clause-below : goal.add_split-requires-clause-below
add_split-requires-clause-below c =
    let N = c.args.lines + c.args.extra in
    let some = free_some c.args.lines c.args.extra c.args.care c.args.want c.args.t c.requires.ready c.requires.many in
    omega (arith, c.first_free-helper.ensures, (first_free (is_free c.args.care c.args.t) N some).0)

pub add_split-requires-clause-free : goal.add_split-requires-clause-free
add_split-requires-clause-free c =
    let N = c.args.lines + c.args.extra in
    let some = free_some c.args.lines c.args.extra c.args.care c.args.want c.args.t c.requires.ready c.requires.many in
    ap (is_free c.args.care c.args.t) c.first_free-helper.ensures ∙ (first_free (is_free c.args.care c.args.t) N some).1
