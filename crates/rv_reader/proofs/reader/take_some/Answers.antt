use Rattle.std.proofs.Common.{arith, ◌∙◌}
use Rattle.rv_reader.proofs.inside.FeedLemmas.{took_one_line, took_shorter, took_fault}
use Rattle.rv_reader.proofs.reader.take_some.Goals as goal

pub read_ready-outcome-requires-clause-one : goal.read_ready-outcome-requires-clause-one
read_ready-outcome-requires-clause-one g c = took_one_line c.args.lines.now c.feed.new.self c.args.piece.now c.in-Ok.fed.used c.in-Ok.fed.ready c.in-Ok.ensures.ok c.requires.between.one

pub returns-in-Err-outcome-clause-err : goal.returns-in-Err-outcome-clause-err
returns-in-Err-outcome-clause-err g c = took_fault g.S.Format.rules c.args.lines.now c.feed.new.self c.args.piece.now c.in-Ok.fed.used c.in-Ok.fed.ready c.args.state.now c.in-Err-outcome.refusal c.in-Ok.ensures.ok c.if-fed.true c.in-Err-outcome.ensures.leads

pub returns-else-fed-clause-between : goal.returns-else-fed-clause-between
returns-else-fed-clause-between g c =
    let took = c.in-Ok.ensures.ok in
    record {
      not_ready = took.is_ready ∙ c.if-fed.false;
      one = took_one_line c.args.lines.now c.feed.new.self c.args.piece.now c.in-Ok.fed.used c.in-Ok.fed.ready took c.requires.between.one;
      size = omega (arith, took.size, took.taken, c.requires.between.size);
      limit = omega (arith, took.within, took.taken, c.requires.limit);
    }

pub returns-in-Ok-outcome-clause-size : goal.returns-in-Ok-outcome-clause-size
returns-in-Ok-outcome-clause-size g c =
    let took = c.in-Ok.ensures.ok in
    let shorter = took_shorter c.args.lines.now c.feed.new.self c.args.piece.now c.in-Ok.fed.used c.in-Ok.fed.ready took c.if-fed.true in
    rw c.next_line.ensures.new (omega (arith, shorter, took.taken, c.requires.size, c.in-Ok-outcome.ensures.size))
