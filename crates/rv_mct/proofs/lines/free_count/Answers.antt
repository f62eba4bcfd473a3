use Rattle.std.proofs.Common.{◌∙◌, arith}
use Rattle.rv_mct.specs.Blocks.{is_free}
use Rattle.rv_mct.proofs.Walks.{count_free, count_few}
use Rattle.rv_mct.proofs.lines.free_count.Goals as goal

pub returns-clause-value : goal.returns-clause-value
returns-clause-value c = c.count_lines.ensures.value ∙ count_free _ c.args.care c.args.target c.args.lines c.requires.few c.free_set.ensures

pub returns-clause-few : goal.returns-clause-few
returns-clause-few c =
    let value = count_free _ c.args.care c.args.target c.args.lines c.requires.few c.free_set.ensures in
    omega (arith, c.count_lines.ensures.value, count_few (is_free c.args.care c.args.target) c.args.lines)
