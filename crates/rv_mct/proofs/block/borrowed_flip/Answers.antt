use Rattle.std.proofs.Common.{◌+◌, ◌<◌, ◌∙◌, ap, arith}
use Rattle.std.proofs.lemmas.Bool.{lt-ltb}
use Rattle.rv_mct.specs.Blocks.{count, is_free, count_lines}
use Rattle.rv_mct.proofs.inside.Gates.{free_some, first_free}
use Rattle.rv_mct.proofs.block.borrowed_flip.Goals as goal

pub first_free-helper-requires-clause-some : goal.first_free-helper-requires-clause-some
first_free-helper-requires-clause-some c = free_some c.args.lines c.args.extra c.args.care c.args.want c.args.target c.requires.ready c.requires.many

pub split-requires-clause-below : goal.split-requires-clause-below
split-requires-clause-below c =
    let N = c.args.lines + c.args.extra in
    let some = free_some c.args.lines c.args.extra c.args.care c.args.want c.args.target c.requires.ready c.requires.many in
    omega (arith, c.first_free-helper.ensures, (first_free (is_free c.args.care c.args.target) N some).0, c.requires.lines)

pub split-requires-clause-free : goal.split-requires-clause-free
split-requires-clause-free c =
    let N = c.args.lines + c.args.extra in
    let some = free_some c.args.lines c.args.extra c.args.care c.args.want c.args.target c.requires.ready c.requires.many in
    ap (is_free c.args.care c.args.target) c.first_free-helper.ensures ∙ (first_free (is_free c.args.care c.args.target) N some).1

pub returns-then-free_count-count_lines : goal.returns-then-free_count-count_lines
returns-then-free_count-count_lines c =
    let lt : count (is_free c.args.care c.args.target) (c.args.lines + c.args.extra) + 2 < count_lines c.args.care =
    omega (arith, c.if-free_count-count_lines.true, c.free_count.ensures.value, c.count_lines.ensures.value) in
    rw (lt-ltb _ _ lt, ← c.first_free-helper.ensures, ← c.requires.lines) c.in_ok-split.ensures
