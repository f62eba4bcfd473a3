use Rattle.std.proofs.Common.{ap, not}
use Rattle.rv_links.proofs.used.apart.Goals as goal

pub returns : goal.returns
returns c on = ap not on
