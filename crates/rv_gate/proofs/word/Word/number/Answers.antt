use Rattle.std.proofs.Common.{sym, ◌∙◌, ap}
use Rattle.rv_gate.specs.Word.{number_of}
use Rattle.rv_gate.specs.inside.laws.WordLaws.{number_of-word_of_small, word_with-mirrored}
use Rattle.rv_gate.proofs.inside.Mirrors.{mirrored_back}
use Rattle.rv_gate.proofs.word.Word.number.Goals as goal

pub returns : goal.returns
returns c =
    let n = c.self.inside.len in
    let x = c.mirrored.result in
    sym (number_of-word_of_small n x c.mirrored.ensures.bound)
    ∙ ap number_of (sym (word_with-mirrored n c.self.inside.ones x (mirrored_back n x c.self.inside.ones c.mirrored.ensures.bits)) ∙ c.self.view_is)
