use Rattle.std.proofs.Common.{sym, ap₂, ◌∙◌, ◌&&◌}
use Rattle.rv_gate.specs.Gate.{xor}
use Rattle.rv_sums.proofs.inside.Moves.{cswap_leads}
use Rattle.rv_sums.proofs.inside.States.{bit-word_at_as}
use Rattle.rv_sums.proofs.path_sum.PathSum.cswap.Goals as goal

pub returns : goal.returns
returns c =
    let sums = c.args.self.now.sums.items in
    cswap_leads c.args.control c.args.a c.args.b c.in_ok-exchange.exchange c.args.self.now c.flip.new.self c.flip-2.new.self
    c.requires.apart c.in_ok-flip.ensures c.in_ok-flip-2.ensures
    (λ x v.
    c.in_ok-exchange.ensures x v
    ∙ ap₂ (λ s t. s && t) (c.in_ok-differ.ensures x v
    ∙ ap₂ xor (sym (bit-word_at_as sums c.args.a c.from.result c.index.result.now x v c.requires.first c.from.ensures c.index.ensures))
    (sym (bit-word_at_as sums c.args.b c.from-2.result c.index-2.result.now x v c.requires.second c.from-2.ensures c.index-2.ensures)))
    (sym (bit-word_at_as sums c.args.control c.from-3.result c.index-3.result.now x v c.requires.control c.from-3.ensures c.index-3.ensures)))
