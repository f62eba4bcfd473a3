use Rattle.std.proofs.Common.{[], refl}
use Rattle.rv_io.specs.Sink.{SinkView}
use Rattle.rv_simulate.proofs.simulation.answer_piece.Goals as goal

pub returns-in-Ok-found-clause-answers : goal.returns-in-Ok-found-clause-answers
returns-in-Ok-found-clause-answers g c =
    let gives = c.in-Ok-found.ensures.gives in
    let old : SinkView = g.O.Sink.view c.args.out.now in
    record { answers = gives.answers; found = _; lines = gives.lines; sends = c.in-Ok.ensures old gives.answers (gives.adds.written old [] (c.new-writer.ensures.begins old)); stop = refl }

pub returns-in-Err-found-clause-answers : goal.returns-in-Err-found-clause-answers
returns-in-Err-found-clause-answers g c =
    let gives = c.in-Err-found.ensures.gives in
    let old : SinkView = g.O.Sink.view c.args.out.now in
    record { answers = gives.answers; found = _; lines = gives.lines; sends = c.in-Ok.ensures old gives.answers (gives.adds.written old [] (c.new-writer.ensures.begins old)); stop = refl }

pub returns-in-Err-clause-answers : goal.returns-in-Err-clause-answers
returns-in-Err-clause-answers g c =
    let gives = c.give_answers-found.ensures.gives in
    let old : SinkView = g.O.Sink.view c.args.out.now in
    record { answers = gives.answers; found = c.give_answers-found.result; lines = gives.lines; sends = c.in-Err.ensures old gives.answers (gives.adds.written old [] (c.new-writer.ensures.begins old)); stop = tt }
