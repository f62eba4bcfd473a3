use Rattle.std.proofs.Common.{◌∙◌, ap, arith, get_or, length, not}
use Rattle.rv_blif.specs.Logic.{any_holds}
use Rattle.rv_diagram.specs.Diagram.{word_at}
use Rattle.rv_compare.proofs.inside.Drawn.{blank, node_is, own_word}
use Rattle.rv_compare.proofs.drawn.node_edge.Goals as goal

pub returns-clause-value : goal.returns-clause-value
returns-clause-value c = λ x.
    let start = c.args.diagram.now in
    let node = c.args.node.now in
    let signals = c.args.signals.now in
    let own = c.loop-i.own in
    let same_operands = c.operands-operands.ensures.value in
    let count = ap length same_operands in
    rw c.turn.ensures
    (node_is start c.none_holds.new.diagram node signals own c.in_ok-none.none c.on.result x
    (c.in_ok-none.ensures.value x ∙ ap (λ l. not (any_holds l (word_at start own x))) c.products.ensures.value)
    c.on.ensures
    (own_word start node.operands signals own x (c.loop-i.invariant.count ∙ count)
    (λ k h. c.loop-i.invariant.each k (omega (arith, h, count, c.loop-i-test.false)) ∙ ap (λ l. get_or signals (get_or l k 0) blank) same_operands)
    c.requires.node.operands))
