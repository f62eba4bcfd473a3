use Rattle.std.proofs.Common.{length, ◌^◌, sym, ◌∙◌, arith}
use Rattle.rv_templ.specs.Templates.{changed_at}
use Rattle.rv_gate.proofs.FirstAnswer.{first_hit, first_skip, first_end}
use Rattle.rv_templ.proofs.inside.TemplateLaws.{changed_here, not_changed, words_below}
use Rattle.rv_templ.proofs.library.first_changed.Goals as goal

pub returns-then-image-number-clause-value : goal.returns-then-image-number-clause-value
returns-then-image-number-clause-value c =
    let n = length c.args.circuit.now.names in
    let words = words_below n _ c.requires c.line_count-lines.ensures.value in
    first_hit (changed_at n c.args.circuit.now.gates) c.loop-number.number (2 ^ n) _ _ (omega (arith, words, c.loop-number-test.true))
    (changed_here n c.loop-number.number _ c.args.circuit.now.gates c.image-image.ensures c.if-image-number.true) c.loop-number.invariant

pub loop-number-preserved : goal.loop-number-preserved
loop-number-preserved c =
    let n = length c.args.circuit.now.names in
    let words = words_below n _ c.requires c.line_count-lines.ensures.value in
    first_skip (changed_at n c.args.circuit.now.gates) c.loop-number.number (2 ^ n) _ (omega (arith, words, c.loop-number-test.true))
    (not_changed n c.loop-number.number _ c.args.circuit.now.gates c.image-image.ensures c.if-image-number.false) c.loop-number.invariant

pub returns-clause-value : goal.returns-clause-value
returns-clause-value c =
    let n = length c.args.circuit.now.names in
    let words = words_below n _ c.requires c.line_count-lines.ensures.value in
    sym (first_end (changed_at n c.args.circuit.now.gates) c.loop-number.number (2 ^ n) (omega (arith, words, c.loop-number-test.false))) ∙ c.loop-number.invariant
