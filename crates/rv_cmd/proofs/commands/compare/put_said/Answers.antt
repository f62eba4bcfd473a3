use Rattle.rv_cmd.proofs.commands.compare.put_said.Goals as goal

pub returns-in-Same : goal.returns-in-Same
returns-in-Same g c = rw c.in-Same.is c.put.ensures

pub returns-in-Inputs : goal.returns-in-Inputs
returns-in-Inputs g c = rw c.in-Inputs.is c.put_counts.ensures

pub returns-in-Outputs : goal.returns-in-Outputs
returns-in-Outputs g c = rw c.in-Outputs.is c.put_counts-in-Outputs.ensures

pub returns-in-Differs : goal.returns-in-Differs
returns-in-Differs g c = rw c.in-Differs.is c.put_differs.ensures
