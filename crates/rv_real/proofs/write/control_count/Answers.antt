use Rattle.std.proofs.Common.{sym}
use Rattle.rv_real.proofs.ControlWalk.{controls_ones}
use Rattle.rv_real.proofs.write.control_count.Goals as goal

pub returns-clause-count : goal.returns-clause-count
returns-clause-count c = λ want. sym (controls_ones c.args.names.now c.args.care want c.requires)
