use Rattle.std.proofs.Common.{◌^◌, ◌∙◌, ap, arith}
use Rattle.rv_gate.specs.Word.{word_of}
use Rattle.rv_compare.specs.Compare.{asked, size_of}
use Rattle.rv_compare.proofs.inside.Least.{block_holds, differs_at, same_to_the_end}
use Rattle.rv_compare.proofs.sides.compare_words.Goals as goal

pub loop-block-preserved : goal.loop-block-preserved
loop-block-preserved g c =
    let size = size_of (asked c.args.all c.args.circuit.now) in
    block_holds c.word_count-words.result (λ k. g.T.Other.Agrees c.args.all c.args.other.now c.args.circuit.now (word_of size.inputs k)) c.loop-block.block c.min-count.result c.min-count.ensures c.loop-block.invariant c.in_default.ensures.first

pub returns-in-Some : goal.returns-in-Some
returns-in-Some g c =
    let size = size_of (asked c.args.all c.args.circuit.now) in
    rw c.from.ensures
    (differs_at size (g.T.Other.size c.args.all c.args.other.now) (g.T.Other.Agrees c.args.all c.args.other.now c.args.circuit.now) c.word_count-words.result c.loop-block.block c.min-count.result c.in-Some.place (omega arith) (omega arith)
    (c.word_count-words.ensures ∙ ap (λ n. 2 ^ n) c.requires.inputs) c.min-count.ensures c.loop-block.invariant c.in-Some.ensures.first)

pub returns : goal.returns
returns g c =
    let size = size_of (asked c.args.all c.args.circuit.now) in
    same_to_the_end size (g.T.Other.size c.args.all c.args.other.now) (g.T.Other.Agrees c.args.all c.args.other.now c.args.circuit.now) c.word_count-words.result c.loop-block.block (omega arith) (omega arith)
    (c.word_count-words.ensures ∙ ap (λ n. 2 ^ n) c.requires.inputs) (omega (arith, c.div_ceil-block-end.ensures)) c.loop-block.invariant
