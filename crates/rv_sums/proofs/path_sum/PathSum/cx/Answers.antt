use Rattle.std.proofs.Common.{sym, ◌∙◌}
use Rattle.rv_sums.proofs.inside.Moves.{cx_leads}
use Rattle.rv_sums.proofs.inside.States.{bit-word_at_as}
use Rattle.rv_sums.proofs.path_sum.PathSum.cx.Goals as goal

pub returns : goal.returns
returns c =
    cx_leads c.args.a c.args.b c.in_ok-bit.bit c.args.self.now c.flip.new.self c.in_ok-flip.ensures
    (λ x v. c.in_ok-bit.ensures x v ∙ sym (bit-word_at_as c.args.self.now.sums.items c.args.a c.from.result c.index.result.now x v c.requires.control c.from.ensures c.index.ensures))
