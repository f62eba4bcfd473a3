use Rattle.std.proofs.Common.{ap, is_some, ◌∙◌}
use Rattle.rv_text.proofs.Quotes.{is_some-position}
use Rattle.rv_blif.proofs.line.has_comment.Goals as goal

pub returns : goal.returns
returns c = c.is_some.ensures ∙ ap is_some c.first_place.ensures ∙ is_some-position _ c.args.line.now
