use Rattle.rv_flow.proofs.Found.{found-computes, found-few, found-helpers, found-lines}
use Rattle.rv_flow.proofs.flowing.circuit_for.Goals as goal

pub returns-clause-lines : goal.returns-clause-lines
returns-clause-lines c =
    let a = c.args in
    found-lines a.synthesis a.simplify a.spec.now c.in_ok-circuit.circuit c.recall_invariant.ensures c.recall_invariant-2.ensures c.in_ok-circuit.ensures

pub returns-clause-computes : goal.returns-clause-computes
returns-clause-computes c =
    let a = c.args in
    found-computes a.synthesis a.simplify a.spec.now c.in_ok-circuit.circuit c.recall_invariant.ensures c.recall_invariant-2.ensures c.in_ok-circuit.ensures

pub returns-clause-helpers : goal.returns-clause-helpers
returns-clause-helpers c =
    let a = c.args in
    found-helpers a.synthesis a.simplify a.spec.now c.in_ok-circuit.circuit c.recall_invariant.ensures c.recall_invariant-2.ensures c.in_ok-circuit.ensures

pub returns-clause-few : goal.returns-clause-few
returns-clause-few c =
    let a = c.args in
    found-few a.synthesis a.simplify a.spec.now c.in_ok-circuit.circuit c.recall_invariant.ensures c.recall_invariant-2.ensures c.in_ok-circuit.ensures
