use Rattle.std.proofs.Common.{ap, ◌∙◌, arith, length}
use Rattle.rv_gate.specs.inside.laws.WordLaws.{length-word_of}
use Rattle.rv_gate.proofs.inside.GateLemmas.{length-run}
use Rattle.rv_templ.proofs.inside.TemplateLaws.{number-small}
use Rattle.rv_templ.proofs.library.image.Goals as goal

pub run-requires : goal.run-requires
run-requires c = ap length c.in-Some.ensures.1 ∙ length-word_of _ _ ∙ c.line_count.ensures.value

pub overflow_cast-result : goal.overflow_cast-result
overflow_cast-result c =
    let len = ap length c.in-Some.ensures.1 ∙ length-word_of _ _ ∙ c.line_count.ensures.value in
    let small = number-small c.run.result (omega (arith, ap length c.run.ensures, length-run c.args.circuit.now.gates c.in-Some.word, len, c.requires.few)) in
    omega (arith, small, c.number.ensures)
