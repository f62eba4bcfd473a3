use Rattle.std.proofs.Common.{length, ◌∙◌}
use Rattle.rv_simulate.proofs.inside.Filling.{answered_for, whole_word}
use Rattle.rv_simulate.proofs.word_line.whole.Goals as goal

pub returns-then-count-line_count : goal.returns-then-count-line_count
returns-then-count-line_count c =
    let made = whole_word (length c.args.circuit.now.names) c.args.count c.args.bits (c.if-count-line_count.true ∙ c.line_count.ensures.value) in
    answered_for c.new.result _ _ _ _ c.new.ensures (c.requires.few, c.requires.small) made.0 made.1
