use Rattle.std.proofs.Common.{sym, ◌∙◌, []}
use Rattle.rv_text.proofs.Quotes.{all_closed}
use Rattle.rv_real.proofs.words.has_unclosed.Goals as goal

pub returns-else-has_quote : goal.returns-else-has_quote
returns-else-has_quote c = c.if-has_quote.false ∙ sym (all_closed [] c.args.line.now (sym c.has_quote.ensures ∙ c.if-has_quote.false))
