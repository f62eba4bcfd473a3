use Rattle.std.proofs.Common.{◌≡◌, ◌<◌, ◌∙◌, Some, ap, length, sym, arith}
use Rattle.rv_gate.specs.Gate.{run}
use Rattle.rv_gate.specs.Marks.{input_count, with_constants}
use Rattle.rv_gate.specs.inside.laws.WordLaws.{length-word_of}
use Rattle.rv_gate.proofs.Marks.{length-with_constants}
use Rattle.rv_simulate.specs.Simulation.{answer_text, marks_asked}
use Rattle.rv_simulate.specs.inside.WordLine.{WordLine}
use Rattle.rv_simulate.proofs.inside.Bits.{answered, skipped, unanswered-count, unanswered-many, unanswered-wrong}
use Rattle.rv_simulate.proofs.inside.Filling.{input_count-le, length-marks_of}
use Rattle.rv_simulate.proofs.word_line.WordLine.word.Goals.{then-self-line_count-via-then-self-line_count, then-self-line_count-via-else-self-line_count+then-self}
use Rattle.rv_simulate.proofs.word_line.WordLine.word.Goals as goal

pub returns-then-self-line_count-clause-gives : goal.returns-then-self-line_count-clause-gives
returns-then-self-line_count-clause-gives c =
    let circuit = c.args.circuit.now in
    let all = c.args.all in
    let s = c.args.self.now in
    let number = ap (λ (b : WordLine). b.number) c.self.view_is in
    elim c.then-self-line_count.branch [
      | then-self-line_count-via-then-self-line_count w ↦
          let long = ap (λ (b : WordLine). length b.bits) c.self.view_is in
          let few = length-marks_of circuit all c.line_count.ensures.valid in
          let many : input_count (marks_asked circuit all) < length s.bits = omega (arith, few, input_count-le (marks_asked circuit all), long, length-word_of c.self.inside.count c.self.inside.bits, w.if-self-line_count.true, c.line_count.ensures.value) in
          (number, unanswered-many circuit all s many)
      | then-self-line_count-via-else-self-line_count+then-self w ↦ (number, unanswered-wrong circuit all s (sym (ap (λ (b : WordLine). b.is_wrong) c.self.view_is) ∙ w.if-self.true))
    ]

pub returns-then-self-eq0-clause-gives : goal.returns-then-self-eq0-clause-gives
returns-then-self-eq0-clause-gives c =
    let long = ap (λ (b : WordLine). length b.bits) c.self.view_is in
    skipped c.args.circuit.now c.args.all c.args.self.now (sym (ap (λ (b : WordLine). b.is_wrong) c.self.view_is) ∙ c.if-self.false)
    (sym long ∙ length-word_of c.self.inside.count c.self.inside.bits ∙ c.if-self-eq0.true)

pub returns-in-Some-clause-gives : goal.returns-in-Some-clause-gives
returns-in-Some-clause-gives c =
    let circuit = c.args.circuit.now in
    let all = c.args.all in
    let s = c.args.self.now in
    let marks = marks_asked circuit all in
    let right = sym (ap (λ (b : WordLine). b.is_wrong) c.self.view_is) ∙ c.if-self.false in
    let size : length s.bits ≡ c.self.inside.count = sym (ap (λ (b : WordLine). length b.bits) c.self.view_is) ∙ length-word_of c.self.inside.count c.self.inside.bits in
    answered circuit all s right (omega (arith, size, c.if-self-eq0.false)) (size ∙ c.in-Some.ensures.0)
    ∙ ap (λ word. Some (answer_text circuit all (run circuit.gates word))) (sym (c.in-Some.ensures.1 ∙ ap (λ (b : WordLine). with_constants marks b.bits) c.self.view_is))

pub returns-in-None-clause-gives : goal.returns-in-None-clause-gives
returns-in-None-clause-gives c =
    let circuit = c.args.circuit.now in
    let all = c.args.all in
    let s = c.args.self.now in
    let right = sym (ap (λ (b : WordLine). b.is_wrong) c.self.view_is) ∙ c.if-self.false in
    let size : length s.bits ≡ c.self.inside.count = sym (ap (λ (b : WordLine). length b.bits) c.self.view_is) ∙ length-word_of c.self.inside.count c.self.inside.bits in
    (ap (λ (b : WordLine). b.number) c.self.view_is, unanswered-count circuit all s right (omega (arith, size, c.if-self-eq0.false)) (λ same. c.in-None.ensures (sym size ∙ same)))

pub returns-in-Some-clause-lines : goal.returns-in-Some-clause-lines
returns-in-Some-clause-lines c =
    ap length c.in-Some.ensures.1 ∙ length-with_constants (marks_asked c.args.circuit.now c.args.all) _ ∙ length-marks_of c.args.circuit.now c.args.all c.line_count.ensures.valid
