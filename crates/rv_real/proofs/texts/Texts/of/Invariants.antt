use Rattle.rv_real.specs.inside.Texts.{AreTexts}
use Rattle.rv_real.proofs.texts.Texts.of.Given as goal

abbrev pub invariant-loop-line : goal.invariant-loop-line
invariant-loop-line l = AreTexts l.names l.texts
