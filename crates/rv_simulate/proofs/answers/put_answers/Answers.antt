use Rattle.std.proofs.Common.{◌≡◌, ◌∙◌, ◌+◌, Bool, List, [], length, map, take, ap, refl, sym, subst, arith, All}
use Rattle.std.specs.List.{flat_map}
use Rattle.std.proofs.lemmas.List.{take_all}
use Rattle.std.proofs.lemmas.List.Elements.{All-map}
use Rattle.std.proofs.lemmas.List.Folds.{flat_map-map}
use Rattle.std.proofs.lemmas.Option.{slice_get_read}
use Rattle.rv_gate.specs.Gate.{run}
use Rattle.rv_gate.proofs.inside.GateLemmas.{length-run}
use Rattle.rv_io.proofs.Adding.{adds_as, adds_none, adds_then}
use Rattle.rv_simulate.proofs.inside.Collecting.{part_answered}
use Rattle.rv_simulate.proofs.inside.Digits.{length-behind, take-behind}
use Rattle.rv_simulate.specs.Simulation.{answer_text}
use Rattle.rv_simulate.proofs.answers.put_answers.Goals as goal
use Rattle.rv_io.proofs.Pieces.{flat_map-more}

pub loop-word-init : goal.loop-word-init
loop-word-init g c = record { whole = refl; within = omega arith; answers = record { given = []; adds = adds_none c.args.writer.now (g.O.Sink.view c.args.out.now); parts = refl } }

pub set_answer-len-requires-clause-lines : goal.set_answer-len-requires-clause-lines
set_answer-len-requires-clause-lines g c =
    let circuit = c.args.circuit.now in
    let Fits : List Bool → Type 0 = λ word. length word ≡ length circuit.names in
    let fit : All Fits (map (run circuit.gates) c.args.words.now) = All-map Fits (run circuit.gates) c.args.words.now (λ k d lt. length-run circuit.gates _ ∙ c.requires k d lt) in
    let items : c.words-word-items.result.now ≡ map (run circuit.gates) c.args.words.now = c.words-word-items.ensures.words ∙ c.run.ensures in
    ap length c.word-item.is ∙ subst (All Fits) (sym items) fit c.loop-word.word-index c.word-item.result c.loop-word-test.true

pub loop-word-preserved : goal.loop-word-preserved
loop-word-preserved g c =
    let items = c.words-word-items.result.now in
    let text = c.loop-word.text in
    let word = c.word-item.result in
    let spell = answer_text c.args.circuit.now c.args.all in
    let before = c.loop-word.invariant in
    let answer = c.set_answer-len.ensures in
    let room = c.make_room-len.ensures.room in
    record {
      whole = length-behind c.make_room-len.result 1024 text c.set_answer-len.new.text before.whole (omega (arith, room)) answer.room;
      within = omega (arith, room, answer.few);
      answers = part_answered (flat_map spell (take c.loop-word.word-index items)) (take c.loop-word.len text) (take c.make_room-len.result text) (spell word) (flat_map spell (take (c.loop-word.word-index + 1) items)) _
          before.answers c.make_room-len.ensures.gives
          (flat_map-more spell items c.loop-word.word-index word (slice_get_read items (length items) c.loop-word.word-index word (omega arith) c.loop-word-test.true c.word-item.is))
          (take-behind c.make_room-len.result c.set_answer-len.result 1024 text c.set_answer-len.new.text (spell word) before.whole (omega (arith, room, answer.few)) answer.room answer.answer);
    }

pub returns-clause-adds : goal.returns-clause-adds
returns-clause-adds g c =
    let circuit = c.args.circuit.now in
    let spell = answer_text circuit c.args.all in
    let before = c.loop-word.invariant.answers in
    adds_as
    (sym before.parts
    ∙ ap (flat_map spell) (take_all c.loop-word.word-index c.words-word-items.result.now (omega arith) ∙ c.words-word-items.ensures.words ∙ c.run.ensures)
    ∙ flat_map-map spell (run circuit.gates) c.args.words.now)
    (adds_then before.adds c.put.ensures)
