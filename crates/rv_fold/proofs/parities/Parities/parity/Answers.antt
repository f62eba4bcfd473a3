use Rattle.std.proofs.Common.{◌∙◌}
use Rattle.rv_fold.proofs.inside.ParityLists.{parity_read}
use Rattle.rv_fold.proofs.parities.Parities.parity.Goals as goal

pub returns : goal.returns
returns c = c.index.ensures ∙ parity_read c.args.self.now.parities.items c.args.line _ c.requires
