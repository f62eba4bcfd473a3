use Rattle.rv_simulate.proofs.inside.Collecting.{gives_all}
use Rattle.rv_simulate.proofs.simulation.give_answers.Goals as goal

pub returns-clause-gives : goal.returns-clause-gives
returns-clause-gives g c = gives_all _ _ _ _ _ _ _ _ c.asks_all-every.ensures c.collect-found.ensures.collects c.put_answers.ensures.adds
