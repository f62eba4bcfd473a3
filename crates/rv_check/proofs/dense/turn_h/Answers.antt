use Rattle.std.proofs.Common.{◌+◌, refl}
use Rattle.rv_check.proofs.inside.Steps.{mixed_small, wider}
use Rattle.rv_check.proofs.inside.Wholes.{shows_turned}
use Rattle.rv_check.proofs.dense.turn_h.Goals as goal

pub mix-requires-clause-small : goal.mix-requires-clause-small
mix-requires-clause-small c = wider c.args.scale.now.bits 60 c.args.values.now c.requires.bits c.requires.small

pub returns-clause-small : goal.returns-clause-small
returns-clause-small c = mixed_small c.args.lines c.args.scale.now.bits c.args.line c.args.values.now c.mix.new.values c.requires.len c.mix.ensures c.requires.small

pub returns-clause-done : goal.returns-clause-done
returns-clause-done c = λ k on s.
    shows_turned c.args.line c.args.lines c.args.values.now c.mix.new.values c.args.scale.now.exponent (c.args.scale.now.exponent + 1) k c.requires.line on c.mix.ensures refl s
