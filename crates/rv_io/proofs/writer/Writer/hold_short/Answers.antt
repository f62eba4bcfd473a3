use Rattle.std.proofs.Common.{refl, arith}
use Rattle.rv_io.proofs.Shorts.{held_front}
use Rattle.rv_io.proofs.writer.Writer.hold_short.Goals as goal

pub returns : goal.returns
returns c =
    rw (
      ← c.self.view_is,
      c.copy_from_slice.ensures.after,
      held_front c.self.inside.len c.args.text.now.len c.self.inside.room c.args.text.now.bytes _ (omega arith) (omega (arith, c.args.text.now.few)),
    ) refl
