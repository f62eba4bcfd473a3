use Rattle.rv_cmd.proofs.commands.compute.of_network.Goals as goal

pub returns-then-curve : goal.returns-then-curve
returns-then-curve g c = rw c.if-curve.true c.on_more.ensures

pub returns-else-curve : goal.returns-else-curve
returns-else-curve g c = rw c.if-curve.false c.computed.ensures
