use Rattle.std.proofs.Common.{◌≡◌, ◌∙◌, ◌++◌, ℕ, refl, arith, length-set}
use Rattle.rv_io.specs.declared.short_text.ShortText.{ShortText}
use Rattle.rv_io.specs.Writer.{short_bytes}
use Rattle.rv_qasm.specs.Text.{qubit}
use Rattle.rv_qasm.proofs.QubitTexts.{one_more}
use Rattle.rv_qasm.proofs.texts.Texts.between.Goals as goal

pub loop-line-init : goal.loop-line-init
loop-line-init c = (λ k below. absurd (omega (arith, below)), refl)

pub loop-line-preserved : goal.loop-line-preserved
loop-line-preserved c =
    let IsText : ℕ → ShortText → Type 0 = λ line text. short_bytes text ≡ c.args.before.now ++ (qubit line ++ c.args.after.now) in
    let before = c.loop-line.invariant in
    rw c.from.ensures (
      one_more IsText c.loop-line.texts c.loop-line.line c.text_between.result (omega (arith, before.1, c.loop-line-test.true, c.requires.few)) before.0 c.text_between.ensures,
      length-set _ _ _ ∙ before.1,
    )

pub returns : goal.returns
returns c = λ k below. c.loop-line.invariant.0 k (omega (arith, below, c.loop-line-test.false))
