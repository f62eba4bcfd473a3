use Rattle.std.proofs.Common.{◌∙◌, Bool, List, ap, map}
use Rattle.rv_gate.specs.Word.{bit_of}
use Rattle.rv_blif.specs.Logic.{Output, outputs_of, values}
use Rattle.rv_compare.proofs.drawn.logic_edges.Goals as goal

pub returns-clause-words : goal.returns-clause-words
unfolding outputs_of
returns-clause-words c = λ x len.
    let bits : List Bool → List Output → List Bool = λ word outputs. map (λ o. bit_of word o.signal) outputs in
    rw c.deref.ensures.value at c.in_ok-edges.ensures.words x
    ∙ ap (λ w. bits w c.outputs.result.now) (c.in_ok-signals.ensures.words x len)
    ∙ ap (bits (values c.args.logic.now x)) c.outputs.ensures.value
