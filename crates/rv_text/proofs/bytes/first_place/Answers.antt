use Rattle.rv_text.proofs.Quotes.{first_place}
use Rattle.rv_text.proofs.bytes.first_place.Goals as goal

pub returns : goal.returns
returns c = first_place _ _ _ c.memchr.ensures
