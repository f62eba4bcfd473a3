use Rattle.std.proofs.Common.{refl}
use Rattle.rv_gate.proofs.NameLemmas.{AreNames-push, names_push}
use Rattle.rv_gate.proofs.names.Names.append.Goals as goal

pub invariant_of-self-2 : goal.invariant_of-self-2
invariant_of-self-2 c =
    rw (names_push c.self.inside.set.keys c.insert.new.self.keys c.args.name (rw c.self.view_is c.requires.free) c.in_ok-insert.ensures.keys, c.self.view_is)
    (AreNames-push c.args.self.now c.args.name.items (rw c.self.view_is at c.self.invariant) c.requires.name c.requires.free c.requires.room)

pub returns-clause-ok : goal.returns-clause-ok
returns-clause-ok c =
    rw (names_push c.self.inside.set.keys c.insert.new.self.keys c.args.name (rw c.self.view_is c.requires.free) c.in_ok-insert.ensures.keys, c.self.view_is) refl
