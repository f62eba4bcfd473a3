use Rattle.rv_blif.proofs.ValueLaws.{values_hold}
use Rattle.rv_blif.proofs.logic.Logic.recall_values.Goals as goal

pub returns : goal.returns
returns c = λ word len k node at. values_hold c.args.self.now word c.recall_invariant.ensures len k node at
