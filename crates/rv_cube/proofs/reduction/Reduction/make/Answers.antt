use Rattle.std.proofs.lemmas.Result.{on_ok_weaker}
use Rattle.rv_cube.proofs.inside.OneStep.{exorlinks_own, exorlinks_rest, own_steps, rest_steps}
use Rattle.rv_cube.proofs.reduction.Reduction.make.Goals as goal

pub exorlink-requires : goal.exorlink-requires
exorlink-requires c = exorlinks_own c.in-Exorlink.is c.requires.valid c.requires.keyed c.requires.next c.if-place-a.true

pub exorlink-requires-else-place-a : goal.exorlink-requires-else-place-a
exorlink-requires-else-place-a c = exorlinks_rest c.in-Exorlink.is c.requires.valid c.requires.keyed c.requires.next c.if-place-a.false

pub returns-then-place-a-clause-steps : goal.returns-then-place-a-clause-steps
returns-then-place-a-clause-steps c =
    on_ok_weaker c.exorlink.result (own_steps c.in-Exorlink.is c.requires.valid c.requires.keyed c.requires.next c.exorlink.new.self.cubes c.if-place-a.true)
    c.exorlink.ensures.steps

pub returns-else-place-a-clause-steps : goal.returns-else-place-a-clause-steps
returns-else-place-a-clause-steps c =
    on_ok_weaker c.exorlink-else-place-a.result
    (rest_steps c.in-Exorlink.is c.requires.valid c.requires.keyed c.requires.next c.exorlink-else-place-a.new.self.cubes c.if-place-a.false)
    c.exorlink-else-place-a.ensures.steps
