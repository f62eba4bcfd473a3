use Rattle.std.proofs.Common.{◌∙◌, ap, arith}
use Rattle.rv_gate.specs.Gate.{run}
use Rattle.rv_many.specs.Column.{column}
use Rattle.rv_many.proofs.Transposed.{words_run}
use Rattle.rv_many.proofs.words.run_together.Goals as goal

pub returns : goal.returns
returns c = words_run (run c.args.circuit.now.gates) c.args.words.now c.set_words.new.words c.set_words.ensures.count
    (λ j lt. c.set_words.ensures.words j lt ∙ c.run_many.ensures.words j (omega arith) ∙ ap (λ gates. run gates (column c.set_rows.new.rows j)) c.gates.ensures ∙ ap (run c.args.circuit.now.gates) (c.set_rows.ensures.words j lt))
