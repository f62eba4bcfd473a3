use Rattle.rv_io.proofs.Shorts.{both_parts}
use Rattle.rv_io.proofs.short_text.ShortText.joined.Goals as goal

pub returns : goal.returns
returns c = rw (c.copy_from_slice.ensures.after, c.copy_from_slice-2.ensures.after) (both_parts c.args.first.now c.args.second.now _ _)
