use Rattle.std.proofs.Common.{arith}
use Rattle.std.specs.Prelude.{Some, None}
use Rattle.rv_links.specs.Nodes.{node_gate}
use Rattle.rv_templ.proofs.inside.LookupLaws.{stop_as}
use Rattle.rv_templ.proofs.inside.NotesAfter.{quiet_end, quiet_stop}
use Rattle.rv_templ.proofs.notes.note_for.Goals as goal

pub overflow_add-result : goal.overflow_add-result
overflow_add-result c =
    let nodes = c.args.linked.now.nodes in
    let at = (stop_as nodes (node_gate c.args.node nodes) c.args.node c.args.stop (Some c.in-Some.last) c.in-Some.is c.requires.stop).at in
    omega (arith, at.2)

pub returns-in-None-clause-quiet : goal.returns-in-None-clause-quiet
returns-in-None-clause-quiet c =
    let nodes = c.args.linked.now.nodes in
    let s = stop_as nodes (node_gate c.args.node nodes) c.args.node c.args.stop None c.in-None.is c.requires.stop in
    quiet_end nodes c.args.node _ c.recall_invariant.ensures.rising c.recall_invariant.ensures.once c.requires.live c.requires.none (λ x on lt. s.free x on lt tt) (λ x on. let le = c.greatest_number.ensures.most x on in omega (arith, le, c.number-own.ensures.value))

pub returns-in-Some-clause-quiet : goal.returns-in-Some-clause-quiet
returns-in-Some-clause-quiet c =
    let nodes = c.args.linked.now.nodes in
    let s = stop_as nodes (node_gate c.args.node nodes) c.args.node c.args.stop (Some c.in-Some.last) c.in-Some.is c.requires.stop in
    quiet_stop nodes c.args.node c.in-Some.last _ c.recall_invariant.ensures.rising c.recall_invariant.ensures.once c.requires.live c.requires.none s (omega (arith, c.number-own.ensures.value))
