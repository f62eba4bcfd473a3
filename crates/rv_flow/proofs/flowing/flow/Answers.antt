use Rattle.rv_flow.proofs.Laws.{flow-answers, flow-carries, flow-few, flow-lines}
use Rattle.rv_flow.specs.Flow.{circuit_for}
use Rattle.rv_flow.proofs.flowing.flow.Goals as goal

pub returns-in-Ok-clause-answer : goal.returns-in-Ok-clause-answer
returns-in-Ok-clause-answer c =
    let a = c.args in
    flow-answers c.network_by.result a.aux c.in-Ok.circuit (circuit_for a.synthesis a.simplify a.spec.now) c.in-Ok.ensures c.network_by.ensures.answer

pub returns-in-Ok-clause-carries : goal.returns-in-Ok-clause-carries
returns-in-Ok-clause-carries c =
    let a = c.args in
    flow-carries a.synthesis a.simplify a.aux a.spec.now c.in-Ok.circuit c.in-Ok.ensures c.network_by.result c.recall_invariant.ensures c.network_by.ensures.carries

pub returns-in-Ok-clause-few : goal.returns-in-Ok-clause-few
returns-in-Ok-clause-few c =
    let a = c.args in
    flow-few a.synthesis a.simplify a.aux a.spec.now c.in-Ok.circuit c.in-Ok.ensures c.network_by.result c.network_by.ensures.few

pub returns-in-Ok-clause-lines : goal.returns-in-Ok-clause-lines
returns-in-Ok-clause-lines c =
    let a = c.args in
    flow-lines a.synthesis a.simplify a.aux a.spec.now c.in-Ok.circuit c.in-Ok.ensures c.network_by.result c.network_by.ensures.lines
