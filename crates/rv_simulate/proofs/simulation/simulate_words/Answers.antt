use Rattle.std.proofs.Common.{◌≡◌, ◌∙◌, ◌+◌, ◌≤◌, ℕ, List, [], drop, inl, sym, subst, arith, refl, rules, length-take, length-append, length-drop}
use Rattle.rv_io.specs.Files.{FilesView}
use Rattle.rv_io.specs.Sink.{SinkView}
use Rattle.rv_text.specs.declared.lines.TheConstants.{MOST_BYTES}
use Rattle.rv_simulate.specs.Simulation.{answer_to}
use Rattle.rv_simulate.specs.SimulationEnds.{Simulates}
use Rattle.rv_simulate.proofs.inside.Ends.{counts_piece, reading_ends, reading_fails, reading_overflows, reading_stops}
use Rattle.rv_simulate.proofs.inside.Reading.{length-read, on_ok, reading_none, reading_on}
use Rattle.rv_simulate.proofs.simulation.simulate_words.Goals as goal

pub loop-taken-init : goal.loop-taken-init
loop-taken-init g c =
    let old : FilesView = g.F.Files.view c.args.files.now in
    let new : FilesView = g.F.Files.view c.start.new.self in
    let out : SinkView = g.O.Sink.view c.args.out.now in
    record {
      keeps = c.start.ensures.keeps;
      started = search rules;
      uncounted = search rules;
      most = refl;
      size = refl;
      limited = omega arith;
      place = search rules;
      later = omega arith;
      unflushed = λ is. is;
      counted = search rules;
      named = search rules;
      reading = rw c.first-line.ensures (reading_none (answer_to c.args.circuit.now c.args.all) old c.args.name.now new.content out (search rules));
    }

pub returns-in-End-clause-later : goal.returns-in-End-clause-later
returns-in-End-clause-later g c = omega (arith, c.loop-taken.invariant.later, c.answer_last.ensures.piece.sends.later)

pub returns-in-End-clause-unflushed : goal.returns-in-End-clause-unflushed
returns-in-End-clause-unflushed g c = λ is. c.loop-taken.invariant.unflushed (c.answer_last.ensures.piece.sends.unflushed is)

pub returns-in-End-clause-ends : goal.returns-in-End-clause-ends
returns-in-End-clause-ends g c =
    let before = c.loop-taken.invariant in
    let view : FilesView = g.F.Files.view c.loop-taken.files in
    let end = c.in-End.ensures.reads in
    reading_ends c.args.circuit.now c.args.all c.args.name.now view.content (g.F.Files.view c.args.files.now) (g.F.Files.view c.read.new.self) (g.O.Sink.view c.args.out.now) (g.O.Sink.view c.loop-taken.out)
    (g.O.Sink.view c.answer_last.new.out) c.loop-taken.taken c.loop-taken.line c.answer_last.result
    c.in-End.ensures.same.is_started (end.place ∙ before.place) (omega (arith, before.most, before.limited))
    (λ tells. omega (arith, end.told (before.keeps.tells ∙ tells), before.place)) before.reading c.answer_last.ensures

pub returns-in-Failed-clause-ends : goal.returns-in-Failed-clause-ends
returns-in-Failed-clause-ends g c =
    let before = c.loop-taken.invariant in
    let view : FilesView = g.F.Files.view c.loop-taken.files in
    let fails = c.in-Failed.ensures.reads in
    reading_fails c.args.circuit.now c.args.all c.args.name.now view.content (g.F.Files.view c.args.files.now) (g.F.Files.view c.read.new.self) (g.O.Sink.view c.args.out.now) (g.O.Sink.view c.loop-taken.out)
    c.loop-taken.taken c.loop-taken.line (inl (omega (arith, before.keeps.later, fails.rose))) c.in-Failed.ensures.same.is_started (fails.place ∙ before.place) (omega (arith, before.most, before.limited)) before.reading

pub returns-then-is_err-clause-later : goal.returns-then-is_err-clause-later
returns-then-is_err-clause-later g c = omega (arith, c.loop-taken.invariant.later, c.answer_piece-stopped.ensures.answers.sends.later)

pub returns-then-is_err-clause-unflushed : goal.returns-then-is_err-clause-unflushed
returns-then-is_err-clause-unflushed g c = λ is. c.loop-taken.invariant.unflushed (c.answer_piece-stopped.ensures.answers.sends.unflushed is)

pub returns-then-is_err-clause-ends : goal.returns-then-is_err-clause-ends
returns-then-is_err-clause-ends g c =
    let before = c.loop-taken.invariant in
    let view : FilesView = g.F.Files.view c.loop-taken.files in
    let gives = c.in-Bytes.ensures.reads in
    let rest : List ℕ = drop c.min-wanted.result c.loop-taken.room in
    let few : c.loop-taken.taken + c.in-Bytes.count ≤ MOST_BYTES = omega (arith, gives.fit, c.read.auto.room, length-take c.min-wanted.result c.loop-taken.room, before.most) in
    subst (Simulates c.args.circuit.now c.args.all c.args.name.now (g.F.Files.view c.args.files.now) (g.F.Files.view c.read.new.self) (g.O.Sink.view c.args.out.now) (g.O.Sink.view c.answer_piece-stopped.new.out)) (sym c.end_of.ensures)
    (reading_stops c.args.circuit.now c.args.all (g.F.Files.view c.args.files.now) view (g.F.Files.view c.read.new.self) c.args.name.now c.read.new.room rest (g.O.Sink.view c.args.out.now) (g.O.Sink.view c.loop-taken.out)
    (g.O.Sink.view c.answer_piece-stopped.new.out) c.loop-taken.taken c.in-Bytes.count c.loop-taken.line c.answer_piece-stopped.new.line c.answer_piece-stopped.result (sym c.is_err.ensures.value ∙ c.if-is_err.true)
    (λ tells. before.keeps.tells ∙ tells) (record { at = before.place; gives = gives }) c.in-Bytes.ensures.same.is_started (omega (arith, gives.place, before.place, few)) few before.reading c.answer_piece-stopped.ensures.answers)

pub loop-taken-preserved : goal.loop-taken-preserved
loop-taken-preserved g c =
    let before = c.loop-taken.invariant in
    let view : FilesView = g.F.Files.view c.loop-taken.files in
    let gives = c.in-Bytes.ensures.reads in
    let count = c.in-Bytes.count in
    let rest : List ℕ = drop c.min-wanted.result c.loop-taken.room in
    let few : c.loop-taken.taken + count ≤ MOST_BYTES = omega (arith, gives.fit, c.read.auto.room, length-take c.min-wanted.result c.loop-taken.room, before.most) in
    record {
      keeps = search rules;
      started = c.in-Bytes.ensures.same.is_started;
      uncounted = gives.uncounted ∙ before.uncounted;
      most = refl;
      size = omega (arith, length-append c.read.new.room rest, c.read.auto.room, length-take c.min-wanted.result c.loop-taken.room, length-drop c.min-wanted.result c.loop-taken.room, before.size);
      limited = few;
      place = omega (arith, gives.place, before.place, few);
      later = omega (arith, before.later, c.answer_piece-stopped.ensures.answers.sends.later);
      unflushed = λ is. before.unflushed (c.answer_piece-stopped.ensures.answers.sends.unflushed is);
      counted = (let counted = on_ok _ c.answer_piece-stopped.result (sym c.is_err.ensures.value ∙ c.if-is_err.false) c.answer_piece-stopped.ensures.counted in
          omega (arith, counted, before.counted, length-read c.read.new.room rest count gives.fit));
      named = λ tells. c.in-Bytes.ensures.same.opened c.args.name.now (before.keeps.tells ∙ tells) ∙ before.named tells;
      reading = reading_on (answer_to c.args.circuit.now c.args.all) (g.F.Files.view c.args.files.now) view (g.F.Files.view c.read.new.self) c.args.name.now c.read.new.room rest (g.O.Sink.view c.args.out.now)
          (g.O.Sink.view c.loop-taken.out) (g.O.Sink.view c.answer_piece-stopped.new.out) c.loop-taken.taken count c.loop-taken.line c.answer_piece-stopped.new.line c.answer_piece-stopped.result
          (sym c.is_err.ensures.value ∙ c.if-is_err.false) (λ tells. before.keeps.tells ∙ tells) (λ tells. c.in-Bytes.ensures.same.content (before.keeps.tells ∙ tells))
          (record { at = before.place; gives = gives }) before.reading c.answer_piece-stopped.ensures.answers;
    }

pub returns-in-Bytes-read-clause-ends : goal.returns-in-Bytes-read-clause-ends
returns-in-Bytes-read-clause-ends g c =
    let before = c.loop-taken.invariant in
    let view : FilesView = g.F.Files.view c.loop-taken.files in
    let after : FilesView = g.F.Files.view c.read-2.new.self in
    let gives = c.in-Bytes-read.ensures.reads in
    let full : c.loop-taken.taken ≡ MOST_BYTES = omega (arith, before.most, before.limited, c.loop-taken-test.false) in
    let one : c.in-Bytes-read.field-0 ≡ 1 = omega (arith, gives.some, gives.fit, c.read-2.auto.room, before.size, length-take 1 c.loop-taken.room) in
    reading_overflows c.args.circuit.now c.args.all (g.F.Files.view c.args.files.now) view after c.args.name.now c.read-2.new.room [] (g.O.Sink.view c.args.out.now) (g.O.Sink.view c.loop-taken.out)
    c.loop-taken.taken c.loop-taken.line (λ tells. before.keeps.tells ∙ tells) (record { at = before.place; gives = rw (← one) gives }) full c.in-Bytes-read.ensures.same.is_started
    (omega (arith, gives.place, before.place, full, one)) before.reading

pub returns-in-End-read-clause-later : goal.returns-in-End-read-clause-later
returns-in-End-read-clause-later g c = omega (arith, c.loop-taken.invariant.later, c.answer_last-in-End-read.ensures.piece.sends.later)

pub returns-in-End-read-clause-unflushed : goal.returns-in-End-read-clause-unflushed
returns-in-End-read-clause-unflushed g c = λ is. c.loop-taken.invariant.unflushed (c.answer_last-in-End-read.ensures.piece.sends.unflushed is)

pub returns-in-End-read-clause-ends : goal.returns-in-End-read-clause-ends
returns-in-End-read-clause-ends g c =
    let before = c.loop-taken.invariant in
    let view : FilesView = g.F.Files.view c.loop-taken.files in
    let end = c.in-End-read.ensures.reads in
    reading_ends c.args.circuit.now c.args.all c.args.name.now view.content (g.F.Files.view c.args.files.now) (g.F.Files.view c.read-2.new.self) (g.O.Sink.view c.args.out.now) (g.O.Sink.view c.loop-taken.out)
    (g.O.Sink.view c.answer_last-in-End-read.new.out) c.loop-taken.taken c.loop-taken.line c.answer_last-in-End-read.result
    c.in-End-read.ensures.same.is_started (end.place ∙ before.place) (omega (arith, before.most, before.limited))
    (λ tells. omega (arith, end.told (before.keeps.tells ∙ tells), before.place)) before.reading c.answer_last-in-End-read.ensures

pub returns-in-Failed-read-clause-ends : goal.returns-in-Failed-read-clause-ends
returns-in-Failed-read-clause-ends g c =
    let before = c.loop-taken.invariant in
    let view : FilesView = g.F.Files.view c.loop-taken.files in
    let fails = c.in-Failed-read.ensures.reads in
    reading_fails c.args.circuit.now c.args.all c.args.name.now view.content (g.F.Files.view c.args.files.now) (g.F.Files.view c.read-2.new.self) (g.O.Sink.view c.args.out.now) (g.O.Sink.view c.loop-taken.out)
    c.loop-taken.taken c.loop-taken.line (inl (omega (arith, before.keeps.later, fails.rose))) c.in-Failed-read.ensures.same.is_started (fails.place ∙ before.place) (omega (arith, before.most, before.limited)) before.reading

pub returns-in-End-clause-uncounted : goal.returns-in-End-clause-uncounted
returns-in-End-clause-uncounted g c =
    let before = c.loop-taken.invariant in
    counts_piece (answer_to c.args.circuit.now c.args.all) (g.F.Files.view c.args.files.now) (g.F.Files.view c.read.new.self) (g.O.Sink.view c.args.out.now) (g.O.Sink.view c.loop-taken.out)
    (g.O.Sink.view c.answer_last.new.out) _ c.loop-taken.line c.answer_last.ensures.last c.answer_last.ensures.stopped c.answer_last.result c.answer_last.ensures.is (c.in-End.ensures.reads.uncounted ∙ before.uncounted) before.reading.way.sends.uncounted c.answer_last.ensures.piece

pub returns-in-End-read-clause-uncounted : goal.returns-in-End-read-clause-uncounted
returns-in-End-read-clause-uncounted g c =
    let before = c.loop-taken.invariant in
    counts_piece (answer_to c.args.circuit.now c.args.all) (g.F.Files.view c.args.files.now) (g.F.Files.view c.read-2.new.self) (g.O.Sink.view c.args.out.now) (g.O.Sink.view c.loop-taken.out)
    (g.O.Sink.view c.answer_last-in-End-read.new.out) _ c.loop-taken.line c.answer_last-in-End-read.ensures.last c.answer_last-in-End-read.ensures.stopped c.answer_last-in-End-read.result c.answer_last-in-End-read.ensures.is (c.in-End-read.ensures.reads.uncounted ∙ before.uncounted) before.reading.way.sends.uncounted c.answer_last-in-End-read.ensures.piece

pub returns-then-is_err-clause-uncounted : goal.returns-then-is_err-clause-uncounted
returns-then-is_err-clause-uncounted g c =
    let before = c.loop-taken.invariant in
    counts_piece (answer_to c.args.circuit.now c.args.all) (g.F.Files.view c.args.files.now) (g.F.Files.view c.read.new.self) (g.O.Sink.view c.args.out.now) (g.O.Sink.view c.loop-taken.out)
    (g.O.Sink.view c.answer_piece-stopped.new.out) _ c.loop-taken.line c.answer_piece-stopped.new.line c.answer_piece-stopped.result c.end_of.result c.end_of.ensures (c.in-Bytes.ensures.reads.uncounted ∙ before.uncounted) before.reading.way.sends.uncounted c.answer_piece-stopped.ensures.answers

pub returns-in-Bytes-read-clause-uncounted : goal.returns-in-Bytes-read-clause-uncounted
returns-in-Bytes-read-clause-uncounted g c = (c.in-Bytes-read.ensures.reads.uncounted ∙ c.loop-taken.invariant.uncounted, c.loop-taken.invariant.reading.way.sends.uncounted)
