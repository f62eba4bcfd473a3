use Rattle.rv_hadamards.proofs.Becoming.{itself}
use Rattle.rv_hadamards.proofs.moving.on_line.Goals as goal

pub returns-else-any : goal.returns-else-any
returns-else-any c = itself c.args.lines c.args.ops.items
