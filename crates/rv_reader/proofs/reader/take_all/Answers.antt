use Rattle.std.proofs.Common.{arith, length-drop}
use Rattle.rv_reader.specs.inside.Progress.{reading}
use Rattle.rv_reader.proofs.inside.FeedLemmas.{feeds_on}
use Rattle.rv_reader.proofs.reader.take_all.Goals as goal

pub loop-at-preserved : goal.loop-at-preserved
loop-at-preserved g c =
    let used = c.in-Ok.ensures.used in
    record {
      within = omega (arith, used.0, length-drop c.loop-at.at c.args.piece.now);
      between = c.take_some.ensures.between;
      room = c.in-Ok.ensures.size;
      taken = omega (arith, used.2);
      rest = feeds_on g.S.Format.rules (reading c.loop-at.lines.line c.loop-at.lines.number c.loop-at.state) (reading c.take_some.new.lines.line c.take_some.new.lines.number c.take_some.new.state) c.args.piece.now c.loop-at.at c.in-Ok.used _ c.in-Ok.ensures.ok c.loop-at.invariant.rest;
    }
