use Rattle.rv_templ.proofs.PassLaws.{one_target}
use Rattle.rv_templ.proofs.passing.flips_pass.Goals as goal

pub returns-then-target-target2 : goal.returns-then-target-target2
returns-then-target-target2 c = one_target c.args.care c.args.want c.args.care2 c.args.want2 c.args.target c.args.target2 c.requires.first c.requires.second c.if-target-target2.true
