use Rattle.std.proofs.lemmas.Result.{on_ok_weaker}
use Rattle.rv_cube.proofs.inside.OneStep.{comes_in, exorlinked_steps, exorlinking}
use Rattle.rv_cube.proofs.reduction.Reduction.exorlink.Goals as goal

pub come_in-requires : goal.come_in-requires
come_in-requires c =
    comes_in c.args.self.now c.clear_three.new.self c.args.place c.args.other c.args.partner c.args.own c.args.rest c.cube-third.result c.merge_at-low.result.0 c.merge_at-low.result.1
    (exorlinking c.args.self.now c.args.place c.args.other c.args.partner c.inputs.result c.args.own c.args.rest c.cube-third.result c.merge_at-low.result
    c.cube-third.ensures.valid c.cube-third.ensures.keyed c.requires c.cube-third.ensures.value c.inputs.ensures.value c.merge_at-low.ensures)
    c.clear_three.ensures

pub returns-clause-steps : goal.returns-clause-steps
returns-clause-steps c =
    on_ok_weaker c.come_in.result
    (exorlinked_steps c.args.self.now c.clear_three.new.self c.come_in.new.self.cubes c.args.place c.args.other c.args.partner c.args.own c.args.rest c.cube-third.result c.merge_at-low.result.0 c.merge_at-low.result.1
    (exorlinking c.args.self.now c.args.place c.args.other c.args.partner c.inputs.result c.args.own c.args.rest c.cube-third.result c.merge_at-low.result
    c.cube-third.ensures.valid c.cube-third.ensures.keyed c.requires c.cube-third.ensures.value c.inputs.ensures.value c.merge_at-low.ensures)
    c.clear_three.ensures)
    c.come_in.ensures.ok
