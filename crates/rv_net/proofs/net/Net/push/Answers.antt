use Rattle.std.proofs.Common.{rules}
use Rattle.rv_net.proofs.Matrix.{product_appended}
use Rattle.rv_net.proofs.net.Net.push.Goals as goal

pub returns-clause-product : goal.returns-clause-product
returns-clause-product c = product_appended _ _ _ (search (rules, c.in-Ok.ensures.items, c.self.view_is))
