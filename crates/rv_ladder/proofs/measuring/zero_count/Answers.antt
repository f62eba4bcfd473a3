use Rattle.std.proofs.Common.{◌∙◌}
use Rattle.rv_net.proofs.Counting.{zeros_of}
use Rattle.rv_ladder.proofs.measuring.zero_count.Goals as goal

pub returns-clause-value : goal.returns-clause-value
returns-clause-value c = c.count_lines.ensures.value ∙ zeros_of c.args.care c.args.want
