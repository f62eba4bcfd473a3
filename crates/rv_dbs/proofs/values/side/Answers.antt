use Rattle.std.proofs.Common.{◌<◌, ◌^◌, ℕ, ltb, get_or, ap, ◌∙◌}
use Rattle.rv_dbs.specs.Walk.{other, side, least_on_walk}
use Rattle.rv_dbs.proofs.inside.Jumps.{table_at}
use Rattle.rv_dbs.proofs.Pairs.{other_within}
use Rattle.rv_dbs.proofs.values.side.Goals as goal

pub returns : goal.returns
unfolding side
returns c =
    let least = least_on_walk c.args.perm.now.lines c.args.k c.args.perm.now.images in
    let at = λ (v : ℕ) (h : v < 2 ^ c.args.perm.now.lines). ap (λ l. get_or l v 0) c.requires.least ∙ table_at c.args.perm.now.lines (least_on_walk c.args.perm.now.lines c.args.k c.args.perm.now.images) v h in
    let o = other_within c.args.perm.now.lines c.args.k c.args.x c.requires.line c.requires.word in
    ap (λ v. ltb (get_or c.args.least.now v 0) (get_or c.args.least.now c.args.x 0)) c.other.ensures
    ∙ ap (λ v. ltb v (get_or c.args.least.now c.args.x 0)) (at (other c.args.k c.args.x) o)
    ∙ ap (ltb (least_on_walk c.args.perm.now.lines c.args.k c.args.perm.now.images (other c.args.k c.args.x))) (at c.args.x c.requires.word)
