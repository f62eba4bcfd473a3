use Rattle.std.proofs.Common.{◌∷◌, arith}
use Rattle.rv_faults.specs.declared.fault.Refusal.TheVariants.{Refused}
use Rattle.rv_cmd.specs.Limits.{at_most}
use Rattle.rv_cmd.proofs.inside.Limits.{refusal-after, refused-first}
use Rattle.rv_cmd.proofs.refusals.passed.Goals as goal

pub returns : goal.returns
returns c count most reason first rest kept told =
    refusal-after 1 first (at_most 0 count most reason ∷ rest) (Refused 0 c.args.why) kept (omega arith, refused-first 0 count most reason c.args.why rest told.0 told.1)
