use Rattle.std.proofs.Common.{◌∙◌}
use Rattle.rv_diagram.specs.Diagram.{word_at}
use Rattle.rv_compare.specs.Compare.{asked, function_of}
use Rattle.rv_compare.proofs.inside.Drawn.{failing_as}
use Rattle.rv_compare.proofs.circuits.apart_in.Goals as goal

pub returns : goal.returns
returns c =
    let both = c.circuit_edges-2.new.diagram in
    let mine = c.circuit_edges-2.new.kept.items in
    let others = c.in_ok-others.others.items in
    let found = rw (c.deref_mut.ensures.value, c.deref_mut-2.ensures.value) at c.in_ok-found.ensures in
    failing_as c.args.inputs (word_at both mine) (word_at both others) (function_of (asked c.args.all c.args.a.now)) (function_of (asked c.args.all c.args.b.now)) c.in_ok-found.found
    (λ x len. c.in_ok-others.ensures.kept.word x ∙ c.in_ok-mine.ensures.words x)
    (λ x len. c.in_ok-others.ensures.words x)
    found
