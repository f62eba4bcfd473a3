use Rattle.std.proofs.Common.{ap, arith}
use Rattle.std.specs.List.{sum_by}
use Rattle.rv_ladder.specs.Counts.{flip_count, operations}
use Rattle.rv_ladder.proofs.inside.Few.{gate-few}
use Rattle.rv_ladder.proofs.measuring.gate_count.Goals as goal

pub returns-clause-few : goal.returns-clause-few
returns-clause-few c = omega (arith, gate-few c.args.aux c.args.lines c.args.gate, c.flips_count.ensures, ap (sum_by (flip_count operations c.args.aux c.args.lines)) c.flips_of-flips.ensures.flips)
