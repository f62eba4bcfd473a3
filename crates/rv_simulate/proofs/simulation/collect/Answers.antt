use Rattle.std.proofs.Common.{◌≡◌, ◌∙◌, ◌+◌, ◌<◌, ℕ, List, length, Ok, Err, take, get_or, nat_eq, ap, sym, subst, refl, arith, false}
use Rattle.std.proofs.lemmas.Bool.{ne_eqb}
use Rattle.std.proofs.lemmas.List.{take_all}
use Rattle.std.proofs.lemmas.Result.{err_from_is_err_and}
use Rattle.rv_io.specs.Sink.{SinkView}
use Rattle.rv_text.specs.Bytes.{line_feed}
use Rattle.rv_simulate.specs.inside.Answering.{Collects}
use Rattle.rv_simulate.specs.inside.WordLine.{WordLine, after_byte, unread}
use Rattle.rv_simulate.proofs.inside.Bits.{number-after_byte}
use Rattle.rv_simulate.proofs.inside.Collecting.{collects_bits, collects_byte, collects_feed, collects_none, collects_wrong, number_read, within_rest}
use Rattle.rv_simulate.proofs.simulation.collect.Goals.{then-piece-at-eq10+in_ok-end_line, else-piece-at-eq10}
use Rattle.rv_simulate.proofs.simulation.collect.Goals as goal

pub loop-at-init : goal.loop-at-init
loop-at-init g c =
    let first = c.args.line.now in
    let writer = c.args.writer.now in
    let out : SinkView = g.O.Sink.view c.args.out.now in
    record {
      within = omega arith;
      counted = omega arith;
      fit = rw c.requires.none (λ k d lt. absurd (omega (arith, lt)));
      collects = rw c.requires.none (collects_none c.args.circuit.now c.args.all first writer out);
    }

pub returns-in_err-end_line-clause-collects : goal.returns-in_err-end_line-clause-collects
returns-in_err-end_line-clause-collects g c =
    let circuit = c.args.circuit.now in
    let all = c.args.all in
    let piece : List ℕ = c.args.piece.now in
    let at = c.loop-at.at in
    let took = c.take_bits-at in
    let p = err_from_is_err_and c.from_residual.result c.from_residual.ensures.1 in
    let read = collects_bits circuit all piece at took.result c.args.line.now c.loop-at.line took.new.self c.loop-at.words took.ensures.bits took.ensures.new c.loop-at.invariant.collects in
    let lt : at + took.result < length piece = omega (arith, within_rest piece at took.result c.loop-at.invariant.within took.ensures.within, c.if-at-piece.false) in
    subst (λ r. Collects circuit all piece c.args.line.now c.args.writer.now (g.O.Sink.view c.args.out.now) r took.new.self c.end_line.new.words c.end_line.new.writer (g.O.Sink.view c.end_line.new.out)) (sym (p.1 ∙ ap Err p.2))
    (collects_wrong circuit all piece (at + took.result) c.in_err-end_line.field-0.0 c.args.line.now took.new.self took.new.self c.loop-at.words c.end_line.new.words
    lt c.if-piece-at-eq10.true c.in_err-end_line.ensures.few read c.in_err-end_line.ensures.ends)

pub returns-then-at-piece-clause-counted : goal.returns-then-at-piece-clause-counted
returns-then-at-piece-clause-counted g c =
    let kept = number_read c.args.piece.now c.loop-at.at c.take_bits-at.result c.loop-at.line c.take_bits-at.new.self c.take_bits-at.ensures.new in
    omega (arith, kept, c.loop-at.invariant.counted, c.loop-at-test.true)

pub returns-then-at-piece-clause-collects : goal.returns-then-at-piece-clause-collects
returns-then-at-piece-clause-collects g c =
    let circuit = c.args.circuit.now in
    let all = c.args.all in
    let piece : List ℕ = c.args.piece.now in
    let at = c.loop-at.at in
    let took = c.take_bits-at in
    let whole : take (at + took.result) piece ≡ piece = take_all (at + took.result) piece (omega (arith, c.if-at-piece.true)) in
    subst (λ piece. Collects circuit all piece c.args.line.now c.args.writer.now (g.O.Sink.view c.args.out.now) (Ok tt) took.new.self c.loop-at.words c.loop-at.writer (g.O.Sink.view c.loop-at.out)) whole
    (collects_bits circuit all piece at took.result c.args.line.now c.loop-at.line took.new.self c.loop-at.words took.ensures.bits took.ensures.new c.loop-at.invariant.collects)

pub next-requires : goal.next-requires
next-requires g c =
    let kept = number_read c.args.piece.now c.loop-at.at c.take_bits-at.result c.loop-at.line c.take_bits-at.new.self c.take_bits-at.ensures.new in
    omega (arith, kept, c.loop-at.invariant.counted, c.loop-at-test.true, c.requires.number)

pub loop-at-preserved : goal.loop-at-preserved
loop-at-preserved g c =
    let circuit = c.args.circuit.now in
    let all = c.args.all in
    let piece : List ℕ = c.args.piece.now in
    let at = c.loop-at.at in
    let first = c.args.line.now in
    let before = c.loop-at.invariant in
    let took = c.take_bits-at in
    let i : ℕ = at + took.result in
    let s = took.new.self in
    let kept = number_read piece at took.result c.loop-at.line took.new.self took.ensures.new in
    let lt : at + took.result < length piece = omega (arith, within_rest piece at took.result before.within took.ensures.within, c.if-at-piece.false) in
    let read = collects_bits circuit all piece at took.result first c.loop-at.line took.new.self c.loop-at.words took.ensures.bits took.ensures.new before.collects in
    elim c.if-piece-at-eq10.branch [
      | then-piece-at-eq10+in_ok-end_line w ↦
          let is : c.if-piece-at-eq10.line ≡ unread (s.number + 1) = w.line-is ∙ w.next.ensures in
          record {
            within = omega (arith, lt);
            counted = omega (arith, before.counted, kept, ap (λ (b : WordLine). b.number) is);
            fit = rw w.words-is w.in_ok-end_line.ensures.lines;
            collects = rw (is, w.words-is, w.writer-is, ap (g.O.Sink.view) w.out-is)
                (collects_feed circuit all piece i first s c.loop-at.words w.end_line.new.words _ lt w.if-piece-at-eq10.true w.in_ok-end_line.ensures.few read w.in_ok-end_line.ensures.ends);
          }
      | else-piece-at-eq10 w ↦
          let byte : ℕ = get_or piece i 0 in
          let is : c.if-piece-at-eq10.line ≡ after_byte s byte = w.line-is ∙ w.take.ensures in
          let other : nat_eq byte line_feed ≡ false = ne_eqb byte line_feed w.if-piece-at-eq10.false in
          record {
            within = omega (arith, lt);
            counted = omega (arith, before.counted, kept, ap (λ (b : WordLine). b.number) is, number-after_byte s byte);
            fit = rw w.words-is before.fit;
            collects = rw (is, w.words-is, w.writer-is, ap (g.O.Sink.view) w.out-is)
                (collects_byte circuit all piece i byte first s c.loop-at.words lt refl other read);
          }
    ]

pub returns-clause-collects : goal.returns-clause-collects
returns-clause-collects g c =
    let whole : take c.loop-at.at c.args.piece.now ≡ c.args.piece.now = take_all c.loop-at.at c.args.piece.now (omega arith) in
    subst (λ piece. Collects c.args.circuit.now c.args.all piece c.args.line.now c.args.writer.now (g.O.Sink.view c.args.out.now) (Ok tt) c.loop-at.line c.loop-at.words c.loop-at.writer (g.O.Sink.view c.loop-at.out)) whole
    c.loop-at.invariant.collects
