use Rattle.std.proofs.Common.{◌∙◌, ◌+◌, ◌*◌, ap, arith, drop, length, replicate}
use Rattle.std.proofs.lemmas.List.{length-take-le}
use Rattle.rv_gate.specs.declared.circuit.Mark.TheVariants.{Input}
use Rattle.rv_many.specs.declared.words.TheConstants.{MOST_WORDS}
use Rattle.rv_blif.specs.Logic.{values}
use Rattle.rv_compare.proofs.inside.Rows.{inputs_put}
use Rattle.rv_compare.proofs.logic.give_values.Goals as goal

pub returns-clause-words : goal.returns-clause-words
returns-clause-words c = λ j lt.
    let n = length c.args.logic.now.inputs in
    let count = c.input_count-inputs.result in
    let few = length-take-le count c.args.rows.now (omega (arith, c.requires.room, c.input_count-inputs.ensures.value)) in
    c.set_nodes.ensures.words j lt
    ∙ ap (values c.args.logic.now) (inputs_put n (MOST_WORDS * c.args.block + j) j c.inputs_of.result.now c.put_in.new.rows (drop count c.args.rows.now)
    (c.inputs_of.ensures ∙ ap (λ m. replicate m Input) c.input_count-inputs.ensures.value)
    (c.put_in.ensures.lines ∙ few ∙ c.input_count-inputs.ensures.value) (c.put_in.ensures.words j lt))
