use Rattle.rv_cube.proofs.inside.PartnerSearches.{merge_found}
use Rattle.rv_cube.proofs.reduction.merge_with.Goals as goal

pub returns : goal.returns
returns c =
    let s = c.args.slots.now in
    merge_found s.inputs s.cubes c.args.a c.cube-cube.result c.partner.result c.cube-cube.ensures.value c.cube-cube.ensures.all_valid c.cube-cube.ensures.keyed
    c.if-cube-eq0.false c.requires.before c.partner.ensures
