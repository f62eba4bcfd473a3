use Rattle.std.proofs.Common.{◌∙◌}
use Rattle.rv_check.proofs.Words.{same_word_test}
use Rattle.rv_check.proofs.member.is_same_word.Goals as goal

pub returns : goal.returns
returns c = c.eq.ensures ∙ same_word_test c.args.x c.args.y
