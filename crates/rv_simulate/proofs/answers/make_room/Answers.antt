use Rattle.std.proofs.Common.{sym, take}
use Rattle.std.proofs.lemmas.List.{append-nil}
use Rattle.rv_simulate.proofs.answers.make_room.Goals as goal

pub returns-clause-gives : goal.returns-clause-gives
returns-clause-gives g c = let text = take c.args.len c.args.text.now in record { given = text; adds = c.put.ensures; parts = sym (append-nil text) }
