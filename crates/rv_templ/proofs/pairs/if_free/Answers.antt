use Rattle.std.proofs.Common.{arith}
use Rattle.std.specs.Prelude.{Some, None}
use Rattle.rv_links.specs.Nodes.{node_gate}
use Rattle.rv_templ.proofs.inside.PartnerWalk.{candidate_mate, candidate_stopped}
use Rattle.rv_templ.proofs.inside.LookupLaws.{stop_as}
use Rattle.rv_templ.proofs.pairs.if_free.Goals as goal

pub returns-in-None : goal.returns-in-None
returns-in-None c =
    let nodes = c.args.linked.now.nodes in
    let s = stop_as nodes (node_gate c.args.a nodes) c.args.a c.args.stop None c.in-None.is c.requires.stop in
    candidate_mate nodes c.args.a c.args.b c.recall_invariant.ensures.rising c.recall_invariant.ensures.once c.requires.candidate (λ x on late soon. s.free x on late tt)

pub returns-then-last-number : goal.returns-then-last-number
returns-then-last-number c =
    let nodes = c.args.linked.now.nodes in
    let s = stop_as nodes (node_gate c.args.a nodes) c.args.a c.args.stop (Some c.in-Some.last) c.in-Some.is c.requires.stop in
    let at = s.at in
    candidate_stopped nodes c.args.a c.args.b c.in-Some.last c.recall_invariant.ensures.rising c.recall_invariant.ensures.once c.requires.candidate at.0 at.1 (omega (arith, c.number.ensures.value, c.if-last-number.true)) at.3

pub returns-else-last-number : goal.returns-else-last-number
returns-else-last-number c =
    let nodes = c.args.linked.now.nodes in
    let s = stop_as nodes (node_gate c.args.a nodes) c.args.a c.args.stop (Some c.in-Some.last) c.in-Some.is c.requires.stop in
    candidate_mate nodes c.args.a c.args.b c.recall_invariant.ensures.rising c.recall_invariant.ensures.once c.requires.candidate
    (λ x on late soon. s.free x on late (omega (arith, soon, c.number.ensures.value, c.if-last-number.false)))
