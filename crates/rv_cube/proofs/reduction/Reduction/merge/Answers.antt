use Rattle.rv_cube.proofs.inside.OneStep.{merge_valid}
use Rattle.rv_cube.proofs.reduction.Reduction.merge.Goals as goal

pub put_any-requires-clause-valid : goal.put_any-requires-clause-valid
put_any-requires-clause-valid c =
    merge_valid c.args.self.now c.clear.new.self c.clear-2.new.self c.args.a c.args.b c.inputs.result c.cube-x.result c.cube-y.result c.merge-one.result
    c.cube-x.ensures.valid c.requires c.cube-x.ensures.value c.cube-y.ensures.value c.inputs.ensures.value c.merge-one.ensures c.clear.ensures c.clear-2.ensures
