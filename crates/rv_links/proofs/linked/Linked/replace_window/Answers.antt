use Rattle.std.proofs.Common.{arith}
use Rattle.rv_links.proofs.inside.WindowLemmas.{same_linkage, all_steps}
use Rattle.rv_links.proofs.inside.StayLemmas.{stays_beside}
use Rattle.rv_links.proofs.linked.Linked.replace_window.Goals as goal

pub returns-clause-done : goal.returns-clause-done
returns-clause-done c _ =
    same_linkage _ _ _ _ c.loop-i.invariant.frame
    (all_steps c.loop-i.at c.args.count c.loop-i.i c.args.gates.now c.loop-i.self.nodes _ (omega arith) c.loop-i.invariant.same) c.loop-i.invariant.notes

pub returns-clause-others : goal.returns-clause-others
returns-clause-others c id on off =
    stays_beside id c.args.first c.args.count c.args.gates.now _ _ on off
    (all_steps c.loop-i.at c.args.count c.loop-i.i c.args.gates.now c.loop-i.self.nodes _ (omega arith) c.loop-i.invariant.same)
