use Rattle.std.proofs.Common.{◌*◌}
use Rattle.rv_resynth.proofs.inside.Blocks.{AgreeTo}
use Rattle.rv_resynth.proofs.agreement.agree.Given as goal

abbrev pub invariant-loop-block : goal.invariant-loop-block
invariant-loop-block l = AgreeTo l.old l.new l.lines (256 * l.block)
