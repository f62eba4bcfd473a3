use Rattle.rv_gate.proofs.NameLemmas.{looked_up}
use Rattle.rv_gate.proofs.names.Names.look_up.Goals as goal

pub returns-in-Some : goal.returns-in-Some
returns-in-Some c =
    let place = looked_up c.args.name.now c.self.inside.set.keys c.get_index_of.result c.get_index_of.ensures.index c.get_index_of.ensures.found c.self.invariant.apart in
    let answer = rw (c.in-Some.is, c.self.view_is) at place in
    record { found = answer.found; absent = answer.absent }

pub returns-in-None : goal.returns-in-None
returns-in-None c =
    let place = looked_up c.args.name.now c.self.inside.set.keys c.get_index_of.result c.get_index_of.ensures.index c.get_index_of.ensures.found c.self.invariant.apart in
    let answer = rw (c.in-None.is, c.self.view_is) at place in
    record { found = answer.found; absent = answer.absent }
