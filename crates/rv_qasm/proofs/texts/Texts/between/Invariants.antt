use Rattle.std.proofs.Common.{◌≡◌, length}
use Rattle.rv_qasm.specs.ReadyTexts.{AreBetween}
use Rattle.rv_qasm.proofs.texts.Texts.between.Given as goal

abbrev pub invariant-loop-line : goal.invariant-loop-line
invariant-loop-line l = AreBetween l.line l.before l.after (record { texts = l.texts }) × (length l.texts ≡ 64)
