use Rattle.std.proofs.Common.{◌^◌, arith}
use Rattle.std.proofs.lemmas.List.Elements.{All-same}
use Rattle.rv_check.specs.inside.Small.{AreSmall}
use Rattle.rv_check.proofs.inside.Collected.{reduced_small}
use Rattle.rv_check.proofs.inside.Dividing.{left-le}
use Rattle.rv_check.proofs.inside.Wholes.{shows_least, shows_over}
use Rattle.rv_check.proofs.inside.Steps.{wider}
use Rattle.rv_check.proofs.dense.make_room.Goals as goal

pub returns-then-scale-ne15-clause-whole : goal.returns-then-scale-ne15-clause-whole
returns-then-scale-ne15-clause-whole c = wider c.args.scale.now.bits 61 c.args.values.now c.requires.bits c.requires.small

pub returns-else-scale-ne15-clause-whole : goal.returns-else-scale-ne15-clause-whole
returns-else-scale-ne15-clause-whole c = wider c.args.scale.now.bits 61 c.args.values.now c.requires.bits c.requires.small

pub returns-then-scale-gt60-clause-whole : goal.returns-then-scale-gt60-clause-whole
returns-then-scale-gt60-clause-whole c =
    All-same (AreSmall (2 ^ 61)) _ _ c.renew.ensures.values
    (reduced_small c.args.scale.now.exponent (2 ^ 61) c.args.values.now (wider c.args.scale.now.bits 61 c.args.values.now c.requires.bits c.requires.small))

pub returns-then-scale-gt60-clause-exponent : goal.returns-then-scale-gt60-clause-exponent
returns-then-scale-gt60-clause-exponent c = omega (arith, c.renew.ensures.exponent, left-le c.args.scale.now.exponent c.args.values.now)

pub returns-then-scale-gt60-clause-shown : goal.returns-then-scale-gt60-clause-shown
returns-then-scale-gt60-clause-shown c = λ ops x place s.
    shows_over ops x place c.renew.new.scale.exponent c.renew.new.values
    (shows_least ops x place c.args.scale.now.exponent c.renew.new.scale.exponent c.args.values.now c.renew.new.values c.renew.ensures.values c.renew.ensures.exponent s)
