use Rattle.std.proofs.Common.{false}
use Rattle.rv_simulate.proofs.Asked.{asked_same}
use Rattle.rv_simulate.proofs.simulation.asks_all.Goals as goal

pub returns-else-all : goal.returns-else-all
returns-else-all c = rw c.if-all.false (asked_same c.args.circuit.now false c.is_unmarked.result c.recall_invariant.ensures c.is_unmarked.ensures)
