use Rattle.std.proofs.Common.{refl}
use Rattle.rv_paths.proofs.inside.Followed.{columns-more}
use Rattle.rv_paths.proofs.following.columns.Goals as goal

pub loop-place-preserved : goal.loop-place-preserved
loop-place-preserved c u = columns-more c.loop-place.list.items _ c.args.first c.loop-place.place _ u c.in_ok-push.ensures.items refl (c.loop-place.invariant u)
