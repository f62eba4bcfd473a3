use Rattle.std.proofs.Common.{sym, ap, ◌∙◌}
use Rattle.rv_gate.specs.Word.{ones_of}
use Rattle.rv_gate.specs.inside.laws.WordLaws.{ones_of-word_with_small}
use Rattle.rv_gate.proofs.word.Word.ones.Goals as goal

pub returns : goal.returns
returns c = sym (ones_of-word_with_small c.self.inside.len c.self.inside.ones c.self.invariant.1) ∙ ap ones_of c.self.view_is
