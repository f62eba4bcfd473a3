use Rattle.std.proofs.Common.{sym, ◌∙◌, ap, eqb, arith}
use Rattle.std.proofs.lemmas.Nat.Bits.{shr_and_one}
use Rattle.rv_gate.specs.Word.{bit_of}
use Rattle.rv_gate.specs.inside.laws.WordLaws.{bit_of-word_with}
use Rattle.rv_gate.proofs.inside.WordLemmas.{length_seen}
use Rattle.rv_gate.proofs.word.Word.bit.Goals as goal

pub overflow_shr-result : goal.overflow_shr-result
overflow_shr-result c = omega (arith, length_seen _ _ _ c.self.view_is, c.self.invariant.0)

pub returns : goal.returns
returns c =
    ap (λ b. eqb b 1) (shr_and_one c.self.inside.ones _)
    ∙ sym (bit_of-word_with c.self.inside.len c.self.inside.ones c.args.line (omega (arith, length_seen _ _ _ c.self.view_is)))
    ∙ ap (λ w. bit_of w c.args.line) c.self.view_is
